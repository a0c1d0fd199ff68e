-- A branch with other sides: its words, its depth, and the memory into which it is put.
use Prim.Native.Nat.{ℕ, suc, ◌+◌, ◌*◌, ◌≤◌, ◌<◌, max}
use mathlib.Core.Path.{◌≡◌, refl, sym, ◌∙◌, subst}
use mathlib.Core.Bool.{true, false, ◌||◌, ◌&&◌, true≢false, false≢true}
use mathlib.Core.List.{List}
use native.Mathlib.Omega.{arith}
use borrow.Author.Tests.{ne_eqb}
use lib.Dec.{eqb, ltb}
use lib.ListN.{length, set, length-set}
use lib.Seq.{get_or-set_same, get_or-set_other}
use Rattle.source.specs.Types.{Level, bind, ns, Tree, StrBranch}
use Rattle.source.specs.Terms.{depth_tree}
use Rattle.source.specs.Rules.{IsKey, IsLabel, Ordered, Formed}
use Rattle.memory.specs.Layout.{record_at, word, span, Which, names, modules, Item, tree, trieˢ, kind, Reading, value, row, what, depth_word, kind_word}
use Rattle.memory.specs.Layout.{left_link, right_link, text_len, text_start, trie_link}
use Rattle.memory.specs.Stored.{depth_of, depth_in}
use Rattle.memory.specs.Sound.{LinkOk, BranchOk, ItemOk, RecordAs, Used}
use Rattle.memory.specs.Grown.{put}
use Rattle.memory.proofs.RecordOk.{record_as, branch_at}
use Rattle.memory.proofs.StoredSizes.{stored_trie, depth_branch}
use Rattle.memory.proofs.Put.{put_used, put_what, put_link}
use Rattle.memory.proofs.Fine.{IsItem, item_fine, link_fine, link_shallow}
use Rattle.memory.proofs.Seen.{link_fits, link_ok, link_later}
use Rattle.insert_copy.specs.Copies.{of_namespaces, branch_depth, DepthOk, with_sides}
use Rattle.insert_tree.specs.Insert.{HeldOk, NewBranch}

-- ---- Branches that hold the same: their words 5 to 10 are equal

module _ (r s : List ℕ) (same : (k : ℕ) → (ltb 4 k && ltb k 11) ≡ true → word s k ≡ word r k) where
  pub same_value : (w : Which) (txt : List ℕ) (f : ℕ → Reading w) (ℓ : Level) → value w txt s f ℓ ≡ value w txt r f ℓ
  same_value names txt f bind = rw (same 5 refl, same 6 refl)
  same_value names txt f ns = rw (same 5 refl)
  same_value modules txt f bind = rw (same 5 refl, same 6 refl, same 7 refl, same 8 refl, same 9 refl, same 10 refl)
  same_value modules txt f ns = rw (same 5 refl)

  same_item : (w : Which) (txt : List ℕ) (used : ℕ) → ItemOk txt used w r → ItemOk txt used w s
  same_item names txt used o = rw (same 6 refl) o
  same_item modules txt used o = record {
    sort = rw (same 5 refl) o.sort;
    name = rw (same 6 refl, same 7 refl) o.name;
    path = rw (same 5 refl, same 8 refl, same 9 refl) o.path;
    loaded = rw (same 10 refl) o.loaded;
  }

  pub same_held : (ws txt : List ℕ) (used l : ℕ) (w : Which) (ℓ : Level) → HeldOk ws txt used l w r ℓ
      → HeldOk ws txt used l w s ℓ
  same_held ws txt used l w bind o = same_item w txt used o
  same_held ws txt used l w ns o = rw (same 5 refl) o

-- ---- Words

module _ (ws r : List ℕ) (a b : ℕ) (twelve : length r ≡ 12) where
  abbrev s : List ℕ
  s = with_sides ws r a b

  pub sided_length : length s ≡ 12
  unfolding with_sides
  sided_length = length-set (set (set r 3 a) 4 b) 11 _ ∙ length-set (set r 3 a) 4 b ∙ length-set r 3 a ∙ twelve

  -- The other words stay.
  sided_word : (k : ℕ) → (eqb k 3 || (eqb k 4 || eqb k 11)) ≡ false → word s k ≡ word r k
  unfolding with_sides
  sided_word k h =
      get_or-set_other (set (set r 3 a) 4 b) 11 k _ 0 (λ e. true≢false (rw e at h))
      ∙ get_or-set_other (set r 3 a) 4 k b 0 (λ e. true≢false (rw e at h))
      ∙ get_or-set_other r 3 k a 0 (λ e. true≢false (rw e at h))

  sided_left : left_link s ≡ a
  unfolding with_sides
  sided_left = get_or-set_other (set (set r 3 a) 4 b) 11 3 _ 0 (λ e. omega arith) ∙ get_or-set_other (set r 3 a) 4 3 b 0 (λ e. omega arith)
      ∙ get_or-set_same r 3 a 0 (omega arith)

  sided_right : right_link s ≡ b
  unfolding with_sides
  sided_right = get_or-set_other (set (set r 3 a) 4 b) 11 4 _ 0 (λ e. omega arith) ∙ get_or-set_same (set r 3 a) 4 b 0 (omega (arith, length-set r 3 a))

  sided_depth : depth_word s ≡ branch_depth ws (kind_word r) (trie_link r) a b
  unfolding with_sides
  sided_depth = get_or-set_same (set (set r 3 a) 4 b) 11 _ 0 (omega (arith, length-set (set r 3 a) 4 b, length-set r 3 a))

  sided_same : (k : ℕ) → (ltb 4 k && ltb k 11) ≡ true → word s k ≡ word r k
  sided_same k h =
      sided_word k (rw (ne_eqb k 3 (λ e. false≢true (rw e at h)), ne_eqb k 4 (λ e. false≢true (rw e at h)), ne_eqb k 11 (λ e. false≢true (rw e at h))))

-- ---- Depths

ns_kind : (w : Which) → of_namespaces (kind w (tree ns)) ≡ true
ns_kind names = refl
ns_kind modules = refl

bind_kind : (w : Which) → of_namespaces (kind w (tree bind)) ≡ false
bind_kind names = refl
bind_kind modules = refl

module _ {ws txt : List ℕ} {n used : ℕ} (o : Used ws txt n used) (w : Which) (r : List ℕ) where
  -- What a right branch holds is formed.
  pub held_fine : (ℓ : Level) → HeldOk ws txt used (n + 1) w r ℓ
      → Formed IsKey IsLabel (IsItem w) (value w txt r (what w ws txt) ℓ)
  held_fine bind h = item_fine txt used w r h
  held_fine ns h = (link_fine o w trieˢ (omega arith) h).0

  module _ {a b : ℕ} where
    pub depth_ok : (ℓ : Level) → NewBranch ws txt used (n + 1) w r ℓ → LinkOk ws (n + 1) a (kind w (tree ℓ))
        → LinkOk ws (n + 1) b (kind w (tree ℓ)) → DepthOk ws (kind_word r) (trie_link r) a b
    depth_ok bind g i j = record {
      left_fits = link_fits o i;
      right_fits = link_fits o j;
      held_fits = λ e. absurd (false≢true (sym (bind_kind w) ∙ rw g.known at e));
      shallow = λ e. absurd (false≢true (sym (bind_kind w) ∙ rw g.known at e));
    }
    depth_ok ns g i j = record {
      left_fits = link_fits o i;
      right_fits = link_fits o j;
      held_fits = λ e. link_fits o g.holds;
      shallow = λ e. rw (stored_trie (λ j p h. o.rows j p (omega arith)) w (trie_link r) g.holds) (link_shallow o w (omega arith) g.holds);
    }

-- An old branch as a new one.
pub old_branch : {ws txt : List ℕ} {n used : ℕ} → Used ws txt n used → (w : Which) (ℓ : Level) {x : ℕ}
    → LinkOk ws (n + 1) x (kind w (tree ℓ)) → 0 < x
    → NewBranch ws txt used (n + 1) w (record_at ws x) ℓ
old_branch {ws} {txt} {n} {used} o w ℓ {x} i p = record { known = k; key = (branch_at (link_ok o i p) w ℓ k).key; holds = holds ℓ k }
  where
    k : kind_word (record_at ws x) ≡ kind w (tree ℓ)
    k = i.of_kind (λ e. omega arith)

    holds : (ℓ : Level) → kind_word (record_at ws x) ≡ kind w (tree ℓ) → HeldOk ws txt used (n + 1) w (record_at ws x) ℓ
    holds bind k = (record_as (link_ok o i p) w (tree bind) k).2
    holds ns k = link_later (omega (arith, i.earlier)) (record_as (link_ok o i p) w (tree ns) k).2

-- ---- The branch r is put with the sides a and b

module _ {ws txt : List ℕ} {n used : ℕ} (o : Used ws txt n used) (r : List ℕ) (twelve : length r ≡ 12) (w : Which)
    (a b : ℕ) where
  deep : kind_word r ≡ kind w (tree ns) → BranchOk ws txt used (n + 1) w (with_sides ws r a b) ns
      → LinkOk ws (n + 1) (trie_link (with_sides ws r a b)) (kind w trieˢ)
      → depth_word (with_sides ws r a b) ≡ depth_tree (row w txt (with_sides ws r a b) (what w ws txt) (tree ns))
  unfolding branch_depth depth_of
  deep k y h =
      let e : branch_depth ws (kind_word r) (trie_link r) a b ≡ max (suc (depth_in ws (trie_link r))) (max (depth_in ws a) (depth_in ws b)) =
      rw (k, ns_kind w) in
      let f : max (suc (depth_in ws (trie_link (with_sides ws r a b)))) (depth_of ws (with_sides ws r a b))
      ≡ max (suc (depth_in ws (trie_link r))) (max (depth_in ws a) (depth_in ws b)) =
      rw (sided_word ws r a b twelve 5 refl, sided_left ws r a b twelve, sided_right ws r a b twelve)
      in
      sided_depth ws r a b twelve ∙ e ∙ sym f ∙ depth_branch (λ j p h. o.rows j p (omega arith)) w y h

  as_row : (ℓ : Level) → NewBranch ws txt used (n + 1) w r ℓ → BranchOk ws txt used (n + 1) w (with_sides ws r a b) ℓ
      → Ordered (row w txt (with_sides ws r a b) (what w ws txt) (tree ℓ))
      → RecordAs ws txt used (n + 1) w (tree ℓ) (with_sides ws r a b)
      (row w txt (with_sides ws r a b) (what w ws txt) (tree ℓ))
  as_row bind g y q = (y, q, same_held r (with_sides ws r a b) (sided_same ws r a b twelve) ws txt used (n + 1) w bind g.holds)
  as_row ns g y q =
      let h : LinkOk ws (n + 1) (trie_link (with_sides ws r a b)) (kind w trieˢ) =
      same_held r (with_sides ws r a b) (sided_same ws r a b twelve) ws txt used (n + 1) w ns g.holds in
      (y, q, h, deep g.known y h)

module _ {ws txt : List ℕ} {n used : ℕ} (o : Used ws txt n used) (few : n < 65536) (room : n * 12 + 12 ≤ length ws)
    (r : List ℕ) (twelve : length r ≡ 12)
    (w : Which) (ℓ : Level) (g : NewBranch ws txt used (n + 1) w r ℓ) (a b : ℕ)
    (i : LinkOk ws (n + 1) a (kind w (tree ℓ))) (j : LinkOk ws (n + 1) b (kind w (tree ℓ)))
    (ordered : Ordered (StrBranch (span txt (text_start r) (text_len r)) (value w txt r (what w ws txt) ℓ)
    (what w ws txt a (tree ℓ)) (what w ws txt b (tree ℓ)))) where
  abbrev new : List ℕ
  new = with_sides ws r a b

  row_is : row w txt new (what w ws txt) (tree ℓ)
      ≡ StrBranch (span txt (text_start r) (text_len r)) (value w txt r (what w ws txt) ℓ) (what w ws txt a (tree ℓ))
      (what w ws txt b (tree ℓ))
  row_is =
      rw (
        sided_word ws r a b twelve 1 refl,
        sided_word ws r a b twelve 2 refl,
        sided_left ws r a b twelve,
        sided_right ws r a b twelve,
        same_value r new (sided_same ws r a b twelve) w txt (what w ws txt) ℓ,
      )

  branch : BranchOk ws txt used (n + 1) w new ℓ
  branch = record {
    key = rw (sided_word ws r a b twelve 1 refl, sided_word ws r a b twelve 2 refl) g.key;
    left = rw (sided_left ws r a b twelve) i;
    right = rw (sided_right ws r a b twelve) j;
  }

  known : kind_word new ≡ kind w (tree ℓ)
  known = sided_word ws r a b twelve 0 refl ∙ g.known

  right : RecordAs ws txt used (n + 1) w (tree ℓ) new (row w txt new (what w ws txt) (tree ℓ))
  right = as_row o r twelve w a b ℓ g branch (subst (λ (bt : Tree (Item w) ℓ). Ordered bt) (sym row_is) ordered)

  pub branch_sound : Used (put ws n new) txt (n + 1) used
  branch_sound = put_used o few room new (sided_length ws r a b twelve) w (tree ℓ) known right

  pub branch_what : what w (put ws n new) txt (n + 1) (tree ℓ)
      ≡ StrBranch (span txt (text_start r) (text_len r)) (value w txt r (what w ws txt) ℓ) (what w ws txt a (tree ℓ))
      (what w ws txt b (tree ℓ))
  branch_what = put_what o few room new (sided_length ws r a b twelve) w (tree ℓ) known right ∙ row_is

  pub branch_link : LinkOk (put ws n new) (n + 1 + 1) (n + 1) (kind w (tree ℓ))
  branch_link = put_link o few room new (sided_length ws r a b twelve) w (tree ℓ) known right
