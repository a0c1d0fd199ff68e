-- The keys of a tree are on one side of a key if the key at the end of its spine is. A spine is a way of left links, or of right links.
use Prim.Native.Nat.{ℕ, ◌+◌, ◌*◌, ◌≤◌, ◌<◌}
use mathlib.Core.Path.{◌≡◌, ◌∙◌}
use mathlib.Core.Bool.{Bool}
use mathlib.Core.List.{List}
use native.Mathlib.Omega.{arith}
use lib.ListN.{length}
use Rattle.source.specs.Text.{Str}
use Rattle.source.specs.Types.{Level, Tree, StrEmpty, StrBranch}
use Rattle.source.specs.Rules.{AllKeys, Ordered}
use Rattle.source.proofs.Order.{<ˢ_trans}
use Rattle.source.proofs.Trees.{AllKeys-map}
use Rattle.memory.specs.Layout.{record_at, word, span, key_of, Which, Item, tree, kind, row, what, kind_word, text_start, text_len, left_link, right_link}
use Rattle.memory.specs.Sound.{Says, LinkOk, RecordOk}
use Rattle.memory.proofs.Says.{says_iff}
use Rattle.memory.proofs.What.{what_none}
use Rattle.memory.proofs.RecordOk.{zero_some, record_what, branch_at, ordered_at, links_earlier}
use Rattle.sound_field.specs.Fields.{link_word, other, On, Before, Subtree, Far, here, on}
use Rattle.sound_field.specs.declared.Side.{Side}
use Rattle.sound_field.specs.declared.Side.TheVariants.{Left, Right}

-- The word of a tree's links that lead to a key on its other side, and of those that lead away from it.
abbrev pub toward : Side → ℕ
toward side = link_word (other side)

abbrev pub away : Side → ℕ
away side = link_word side

on_trans : (side : Side) (x y z : Str) → On side x y → On side y z → On side x z
on_trans Left x y z h k = <ˢ_trans x y z h k
on_trans Right x y z h k = <ˢ_trans z y x k h

abbrev Some : {A : Type 0} {ℓ : Level} → Tree A ℓ → Type 0
Some StrEmpty = ⊥
Some (StrBranch k ℓ lbt rbt) = Unit {0}

-- A key of a tree that is not empty.
some_key : {A : Type 0} {ℓ : Level} (bt : Tree A ℓ) (P Q : Str → Type 0) → Some bt → AllKeys P bt → AllKeys Q bt
    → (k : Str) × (P k × Q k)
some_key StrEmpty P Q s a b = absurd s
some_key (StrBranch k ℓ lbt rbt) P Q s a b = (k, (a.0, b.0))

-- The end r of a way: a branch before l whose key says what all keys say.
pub record End (ws txt : List ℕ) (used l r : ℕ) (P : Str → Type 0) (All : Type 0) : Type 0 where
  pub some : 0 < r
  pub before : r < l
  pub inside : text_start (record_at ws r) + text_len (record_at ws r) ≤ used
  pub to : P (key_of txt (record_at ws r)) → All
  pub fro : All → P (key_of txt (record_at ws r))

pub says_end : (b : Bool) {ws txt : List ℕ} {used l r : ℕ} {P : Str → Type 0} {All : Type 0} → End ws txt used l r P All
    → Says b (P (key_of txt (record_at ws r))) → Says b All
says_end b i h = says_iff b h i.to i.fro

module _ {ws txt : List ℕ} {used l : ℕ} (b : Before ws txt used l) where
  pub toward_falls : (side : Side) (from : ℕ) → from < l → (j : ℕ) → 0 < j → j ≤ from
      → word (record_at ws j) (toward side) < j
  toward_falls Left from h j p q = (links_earlier (b.rows j p (omega arith))).1
  toward_falls Right from h j p q = (links_earlier (b.rows j p (omega arith))).0

  module _ (w : Which) (ℓ : Level) where
    abbrev the : ℕ → Tree (Item w) ℓ
    the x = what w ws txt x (tree ℓ)

    pub none_all : (P : Str → Type 0) (x : ℕ) → x ≡ 0 → AllKeys P (the x)
    none_all P x e = rw (e, what_none w ws txt) tt

    module _ (side : Side) (x : ℕ) (p : 0 < x) (h : x < l) (e : kind_word (record_at ws x) ≡ kind w (tree ℓ)) where
      ok : RecordOk ws txt used x
      ok = b.rows x p h

      seen : the x ≡ row w txt (record_at ws x) (what w ws txt) (tree ℓ)
      seen = record_what ok w (tree ℓ) e p

      is_some : Some (the x)
      is_some = rw seen tt

      pub toward_link : LinkOk ws x (word (record_at ws x) (toward side)) (kind w (tree ℓ))
      toward_link = go side
        where
          go : (side : Side) → LinkOk ws x (word (record_at ws x) (toward side)) (kind w (tree ℓ))
          go Left = (branch_at ok w ℓ e).right
          go Right = (branch_at ok w ℓ e).left

      all_at : (P : Str → Type 0) → P (key_of txt (record_at ws x))
          → AllKeys P (the (word (record_at ws x) (away side)))
          → AllKeys P (the (word (record_at ws x) (toward side))) → AllKeys P (the x)
      all_at P = go side
        where
          go : (side : Side) → P (key_of txt (record_at ws x)) → AllKeys P (the (word (record_at ws x) (away side)))
              → AllKeys P (the (word (record_at ws x) (toward side))) → AllKeys P (the x)
          go Left k i j = rw seen (k, i, j)
          go Right k i j = rw seen (k, j, i)

      at_all : (P : Str → Type 0) → AllKeys P (the x)
          → P (key_of txt (record_at ws x)) × AllKeys P (the (word (record_at ws x) (toward side)))
      at_all P a = go side (rw seen at a)
        where
          go : (side : Side) → P (key_of txt (record_at ws x)) × AllKeys P (the (left_link (record_at ws x)))
              × AllKeys P (the (right_link (record_at ws x)))
              → P (key_of txt (record_at ws x)) × AllKeys P (the (word (record_at ws x) (toward side)))
          go Left a = (a.0, a.2)
          go Right a = (a.0, a.1)

      sides : AllKeys (λ y. On side y (key_of txt (record_at ws x))) (the (word (record_at ws x) (away side)))
          × AllKeys (λ y. On side (key_of txt (record_at ws x)) y) (the (word (record_at ws x) (toward side)))
      sides = go side (rw seen at (ordered_at ok w ℓ e))
        where
          go : (side : Side) → Ordered (row w txt (record_at ws x) (what w ws txt) (tree ℓ))
              → AllKeys (λ y. On side y (key_of txt (record_at ws x))) (the (word (record_at ws x) (away side)))
              × AllKeys (λ y. On side (key_of txt (record_at ws x)) y) (the (word (record_at ws x) (toward side)))
          go Left o = (o.0, o.1)
          go Right o = (o.1, o.0)

      -- Where the branch's own key is on the side of k, so are those away from k.
      away_all : (k : Str) → On side (key_of txt (record_at ws x)) k
          → AllKeys (λ y. On side y k) (the (word (record_at ws x) (away side)))
      away_all k q = AllKeys-map (the (word (record_at ws x) (away side))) (λ y i. on_trans side y (key_of txt (record_at ws x)) k i q) sides.0

    pub far_outermost : (side : Side) (k : Str) {x r : ℕ} → Far ws (toward side) x r → 0 < x → x < l
        → kind_word (record_at ws x) ≡ kind w (tree ℓ)
        → End ws txt used l r (λ y. On side y k) (AllKeys (λ y. On side y k) (the x))
    far_outermost side k {x} (here z) p h e = record {
      some = p;
      before = h;
      inside = (branch_at (b.rows x p h) w ℓ e).key.inside;
      to = λ q. all_at side x p h e (λ y. On side y k) q (away_all side x p h e k q) (none_all (λ y. On side y k) _ z);
      fro = λ a. (at_all side x p h e (λ y. On side y k) a).0;
    }
    far_outermost side k {x} {r} (on z f) p h e =
        let n = toward_link side x p h e in
        let y = word (record_at ws x) (toward side) in
        let c : kind_word (record_at ws y) ≡ kind w (tree ℓ) = n.of_kind (λ q. omega arith) in
        let m : y < l = omega (arith, n.earlier) in
        let i : End ws txt used l r (λ y. On side y k) (AllKeys (λ y. On side y k) (the y)) = far_outermost side k f z m c in
        record {
          some = i.some;
          before = i.before;
          inside = i.inside;
          to = λ q.
              let t = some_key (the y) (λ u. On side (key_of txt (record_at ws x)) u) (λ u. On side u k)
              (is_some side y z m c)
              (sides side x p h e).1 (i.to q) in
              let g : On side (key_of txt (record_at ws x)) k =
              on_trans side (key_of txt (record_at ws x)) t.0 k t.1.0 t.1.1 in
              all_at side x p h e (λ y. On side y k) g (away_all side x p h e k g) (i.to q);
          fro = λ a. i.fro (at_all side x p h e (λ y. On side y k) a).1;
        }

-- The end of the spine of a subtree: its words and its key are lent.
pub record EndLent (ws txt : List ℕ) (r : ℕ) : Type 0 where
  pub some : 0 < r
  pub fits : r * 12 ≤ length ws
  pub inside : text_start (record_at ws r) + text_len (record_at ws r) ≤ length txt

module _ {ws txt : List ℕ} {used l k top start len : ℕ} (q : Subtree ws txt used l k top start len) (side : Side) where
  pub subtree_end : {r : ℕ} → (w : Which) (ℓ : Level) → k ≡ kind w (tree ℓ) → (top ≡ 0 → ⊥) → Far ws (toward side) top r
      → End ws txt used l r (λ y. On side y (span txt start len))
      (AllKeys (λ y. On side y (span txt start len)) (what w ws txt top (tree ℓ)))
  subtree_end w ℓ e n f =
      far_outermost q.before w ℓ side (span txt start len) f (zero_some top (λ z. absurd (n z)) (λ p. p)) q.link.earlier (q.link.of_kind n ∙ e)

  pub end_lent : {r : ℕ} → (top ≡ 0 → ⊥) → Far ws (toward side) top r → EndLent ws txt r
  end_lent n f =
      let i = subtree_end q.branches.which q.branches.level q.branches.is n f in
      record {
        some = i.some;
        fits = omega (arith, i.before, q.before.fits);
        inside = omega (arith, i.inside, q.before.text);
      }
