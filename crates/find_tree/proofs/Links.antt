-- The branches of a tree as links: each in its place, what holds of each, and the rows that they give.
use Prim.Native.Nat.{ℕ, zero, suc, ◌≤◌, ◌<◌}
use mathlib.Core.Path.{◌≡◌, refl, sym, ◌∙◌, subst}
use mathlib.Core.List.{List, [], ◌∷◌, ◌++◌, map, append_assoc, append-nil, Memᴰ}
use mathlib.Core.Logic.{⊎_elim}
use mathlib.Core.Option.{Option}
use native.Mathlib.Omega.{arith}
use native.Mathlib.Nat.{eq-or-lt_of_le}
use borrow.Author.Tests.{eq-eqb, ne_eqb}
use Rattle.source.specs.Text.{Str}
use Rattle.source.specs.Types.{Level, Value}
use Rattle.source.specs.Trees.{PrefixMatch, btree_fold, btree_find_all}
use Rattle.source.specs.Rules.{◌<ˢ◌, AllKeys, Ordered}
use Rattle.source.specs.Shared.{Allˡ}
use Rattle.source.proofs.Lookup.{Allˡ-map}
use Rattle.source.proofs.Trees.{AllKeys-map}
use Rattle.memory.specs.Layout.{record_at, Which, Item, tree, what, key_at, left_link, right_link}
use Rattle.memory.specs.Sound.{At}
use Rattle.memory.proofs.What.{what_none}
use Rattle.memory.proofs.RecordOk.{zero_some}
use Rattle.memory.proofs.At.{at_of}
use Rattle.memory.proofs.Seen.{link_later}
use Rattle.find_tree.specs.Tree.{AnyTree}
use Rattle.find_tree.specs.Links.{branches_among, branches, row_at}
use Rattle.find_tree.proofs.Branches.{any_tree, branch_right, branch_tree_ordered, branch_reads, left_tree, right_tree}
use Rattle.find_tree.proofs.Keep.{allˡ_append, allˡ_at, map-append}
use Rattle.find_tree.specs.Links.{BranchOf}

module _ (ws : List ℕ) where
  branches_own : (n l : ℕ) → l ≤ n → branches_among ws n l ≡ branches ws l
  unfolding branches branches_among
  branches_own zero zero h = refl
  branches_own zero (suc l) h = absurd (omega arith)
  branches_own (suc n) l h = ⊎_elim (λ e. rw e) (λ k. rw (ne_eqb l (suc n) (λ e. omega arith)) (branches_own n l (omega arith))) (eq-or-lt_of_le h)

  pub branches_none : branches ws 0 ≡ []
  unfolding branches branches_among
  branches_none = refl

  branches_some : (l : ℕ) → 0 < l → left_link (record_at ws l) < l → right_link (record_at ws l) < l
      → branches ws l ≡ branches ws (left_link (record_at ws l)) ++ (l ∷ branches ws (right_link (record_at ws l)))
  unfolding branches branches_among
  branches_some zero p a b = absurd (omega arith)
  branches_some (suc n) p a b =
      rw (
        eq-eqb (suc n) (suc n) refl,
        branches_own n (left_link (record_at ws (suc n))) (omega arith),
        branches_own n (right_link (record_at ws (suc n))) (omega arith),
      )

branch_later : {ws : List ℕ} {w : Which} {ℓ : Level} {l root x : ℕ} → l < root → BranchOf ws w ℓ l x
    → BranchOf ws w ℓ root x
branch_later h o = record { some = o.some; link = link_later (omega arith) o.link }

module _ {ws txt : List ℕ} {w : Which} {ℓ : Level} where
  pub branches_at : {x : ℕ} → At ws txt w (tree ℓ) x → 0 < x
      → branches ws x ≡ branches ws (left_link (record_at ws x)) ++ (x ∷ branches ws (right_link (record_at ws x)))
  branches_at {x} t p = branches_some ws x p (branch_right t p).left.earlier (branch_right t p).right.earlier

  pub tree_ordered : {x : ℕ} → At ws txt w (tree ℓ) x → Ordered (what w ws txt x (tree ℓ))
  tree_ordered {x} t = zero_some x (λ z. rw (z, what_none w ws txt) tt) (branch_tree_ordered t)

  -- What holds of none, and of a branch where it holds of its two sides, holds of every tree.
  module _ (P : ℕ → Type 0) (none : P 0)
      (step : (x : ℕ) → At ws txt w (tree ℓ) x → 0 < x → P (left_link (record_at ws x))
      → P (right_link (record_at ws x)) → P x) where
    upto : (m x : ℕ) → x ≤ m → At ws txt w (tree ℓ) x → P x
    upto zero x h t = subst P (let z : 0 ≡ x = omega arith in z) none
    upto (suc m) x h t =
        zero_some x
        (λ z. subst P (sym z) none)
        (λ p.
        step x t p
        (upto m (left_link (record_at ws x)) (omega (arith, (branch_right t p).left.earlier)) (left_tree t p))
        (upto m (right_link (record_at ws x)) (omega (arith, (branch_right t p).right.earlier)) (right_tree t p)))

    pub by_sides : (x : ℕ) → At ws txt w (tree ℓ) x → P x
    by_sides x = upto x x (omega arith)

  branches_keys : (P : Str → Type 0) (x : ℕ) → At ws txt w (tree ℓ) x → AllKeys P (what w ws txt x (tree ℓ))
      → Allˡ (λ y. P (key_at ws txt y)) (branches ws x)
  branches_keys P =
      by_sides (λ x. AllKeys P (what w ws txt x (tree ℓ)) → Allˡ (λ y. P (key_at ws txt y)) (branches ws x))
      (λ a. rw (branches_none ws) tt)
      (λ x t p f g a. let b = rw (branch_reads t p) at a in
      rw (branches_at t p) (allˡ_append (λ y. P (key_at ws txt y)) (branches ws (left_link (record_at ws x))) (x ∷ branches ws (right_link (record_at ws x)))
      (f b.1) (b.0, g b.2)))

  pub branches_of : (x : ℕ) → At ws txt w (tree ℓ) x → Allˡ (BranchOf ws w ℓ x) (branches ws x)
  branches_of =
      by_sides (λ x. Allˡ (BranchOf ws w ℓ x) (branches ws x))
      (rw (branches_none ws) tt)
      (λ x t p f g.
      let left = left_link (record_at ws x) in
      let right = right_link (record_at ws x) in
      rw (branches_at t p)
      (allˡ_append (BranchOf ws w ℓ x) (branches ws left) (x ∷ branches ws right)
      (Allˡ-map {P = BranchOf ws w ℓ left} {Q = BranchOf ws w ℓ x} (branches ws left) (λ y. branch_later (branch_right t p).left.earlier) f) (
        record { some = p; link = record { earlier = omega arith; of_kind = t.link.of_kind } },
        Allˡ-map {P = BranchOf ws w ℓ right} {Q = BranchOf ws w ℓ x} (branches ws right) (λ y. branch_later (branch_right t p).right.earlier) g,
      )))

  -- The rows of all branches.
  module _ (q : Option Str) where
    rows_onto : (x : ℕ) → At ws txt w (tree ℓ) x → (acc : List (PrefixMatch × Value (Item w) ℓ))
        → map (row_at w ws txt ℓ q) (branches ws x) ++ acc
        ≡ btree_fold (what w ws txt x (tree ℓ)) (λ k y acc. (record { prefix = q; completion = k }, y) ∷ acc) acc
    unfolding btree_fold row_at
    rows_onto =
        by_sides
        (λ x. (acc : List (PrefixMatch × Value (Item w) ℓ))
        → map (row_at w ws txt ℓ q) (branches ws x) ++ acc
        ≡ btree_fold (what w ws txt x (tree ℓ)) (λ k y acc. (record { prefix = q; completion = k }, y) ∷ acc) acc)
        (λ acc. rw (branches_none ws, what_none w ws txt))
        (λ x t p f g acc. rw (branches_at t p, branch_reads t p, map-append, append_assoc, g acc) (f _))

    pub branches_rows : (x : ℕ) → At ws txt w (tree ℓ) x
        → map (row_at w ws txt ℓ q) (branches ws x) ≡ btree_find_all q (what w ws txt x (tree ℓ))
    unfolding btree_find_all
    branches_rows x t = sym (append-nil _) ∙ rows_onto x t []

module _ {ws txt : List ℕ} {w : Which} {ℓ : Level} {root : ℕ} (t : At ws txt w (tree ℓ) root) where
  pub branch_tree : {x : ℕ} → BranchOf ws w ℓ root x → AnyTree ws txt x
  branch_tree o = any_tree (at_of t (tree _) (omega arith) o.link)

  -- A branch by the list.
  pub among_branch : {x : ℕ} → Memᴰ x (branches ws root) → BranchOf ws w ℓ root x
  among_branch {x} m = allˡ_at (BranchOf ws w ℓ root) (branches ws root) (branches_of root t) x m

pub among_tree : {ws txt : List ℕ} {root x : ℕ} → AnyTree ws txt root → Memᴰ x (branches ws root)
    → (0 < x) × AnyTree ws txt x
among_tree a m = let o = among_branch a.tree m in (o.some, branch_tree a.tree o)

module _ {ws txt : List ℕ} {x : ℕ} (a : AnyTree ws txt x) (q : 0 < x) where
  -- What holds of all that is before the key holds to its left, what of all that is after it to its right.
  pub all_before : (P : Str → Type 0) → ((y : Str) → y <ˢ key_at ws txt x → P y)
      → Allˡ (λ y. P (key_at ws txt y)) (branches ws (left_link (record_at ws x)))
  all_before P f =
      let left = left_link (record_at ws x) in
      branches_keys P left (left_tree a.tree q)
      (AllKeys-map {P = λ y. y <ˢ key_at ws txt x} {Q = P} (what a.which ws txt left (tree a.level)) f
      (rw (branch_reads a.tree q) at (branch_tree_ordered a.tree q)).0)

  pub all_beyond : (P : Str → Type 0) → ((y : Str) → key_at ws txt x <ˢ y → P y)
      → Allˡ (λ y. P (key_at ws txt y)) (branches ws (right_link (record_at ws x)))
  all_beyond P f =
      let right = right_link (record_at ws x) in
      branches_keys P right (right_tree a.tree q)
      (AllKeys-map {P = λ y. key_at ws txt x <ˢ y} {Q = P} (what a.which ws txt right (tree a.level)) f
      (rw (branch_reads a.tree q) at (branch_tree_ordered a.tree q)).1)
