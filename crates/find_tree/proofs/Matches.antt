-- The links of the branches whose keys begin with a prefix: ascending, each a branch of the tree, and together the rows of btree_find_prefix.
use Prim.Native.Nat.{ℕ, ◌<◌}
use mathlib.Core.Path.{◌≡◌, refl, sym, ◌∙◌}
use mathlib.Core.Bool.{Bool, true, false}
use mathlib.Core.List.{List, [], ◌∷◌, ◌++◌, map, append_assoc, append-nil, Memᴰ}
use mathlib.Core.Option.{Option, none, some}
use Rattle.source.specs.Text.{Str, starts_with}
use Rattle.source.specs.Types.{Level, Value}
use Rattle.source.specs.Trees.{PrefixMatch, find_prefix_onto, btree_find_prefix, btree_find_all}
use Rattle.source.specs.Rules.{◌<ˢ◌}
use Rattle.source.proofs.Order.{<ˢ_trans}
use Rattle.source.specs.Shared.{Allˡ}
use Rattle.source.proofs.Lookup.{Allˡ-map, Above, Increasing}
use Rattle.source.proofs.Trees.{before_prefix, past_prefix, entry_key, find_all_ascends}
use Rattle.memory.specs.Layout.{record_at, Which, Item, tree, what, key_at, left_link, right_link}
use Rattle.memory.proofs.What.{what_none}
use Rattle.find_tree.specs.Links.{branches, keep, matches, past, row_at}
use Rattle.find_tree.proofs.Branches.{any_tree, branch_reads}
use Rattle.find_tree.proofs.Keep.{by_test, all_among, map-append, keep_append, keep_none, keep_all, all_keep, kept_pass, keep_increasing}
use Rattle.find_tree.specs.Links.{BranchOf}
use Rattle.find_tree.proofs.Links.{tree_ordered, branches_none, branches_at, branches_rows, by_sides, all_before, all_beyond, among_branch}
use Rattle.find_tree.proofs.Past.{by_order, prefix_past}
use Rattle.memory.specs.Sound.{At}

pub matches_none : (ws txt : List ℕ) (p : Str) → matches ws txt 0 p ≡ []
unfolding matches keep
matches_none ws txt p = rw (branches_none ws)

-- The search leaves out only what does not match.
module _ (ws txt : List ℕ) (w : Which) (ℓ : Level) (p : Str) where
  abbrev kept : ℕ → List ℕ
  kept x = keep (key_at ws txt) (λ k. starts_with k p) (branches ws x)

  abbrev Rows : Type 0
  Rows = List (PrefixMatch × Value (Item w) ℓ)

  abbrev rows : List ℕ → Rows
  rows xs = map (row_at w ws txt ℓ (some p)) xs

  abbrev Onto : ℕ → Type 0
  Onto x = (acc : Rows) → rows (kept x) ++ acc ≡ find_prefix_onto (what w ws txt x (tree ℓ)) p acc

  module _ (x : ℕ) (t : At ws txt w (tree ℓ) x) (q : 0 < x) where
    abbrev key : Str
    key = key_at ws txt x

    abbrev left : ℕ
    left = left_link (record_at ws x)

    abbrev right : ℕ
    right = right_link (record_at ws x)

    none_left : ((y : Str) → y <ˢ key → y <ˢ p) → kept left ≡ []
    none_left h = keep_none (key_at ws txt) (λ k. starts_with k p) (branches ws left)
        (all_before (any_tree t) q (λ y. starts_with y p ≡ false) (λ y z. before_prefix y p (h y z)))

    none_right : p <ˢ key → starts_with key p ≡ false → kept right ≡ []
    none_right h i = keep_none (key_at ws txt) (λ k. starts_with k p) (branches ws right)
        (all_beyond (any_tree t) q (λ y. starts_with y p ≡ false) (λ y z. past_prefix key y p h i z))

    here : (acc : Rows) → rows (kept x) ++ acc
        ≡ rows (kept left) ++ (rows (keep (key_at ws txt) (λ k. starts_with k p) (x ∷ branches ws right)) ++ acc)
    here acc = rw (branches_at t q, keep_append (key_at ws txt) (λ k. starts_with k p) (branches ws left) (x ∷ branches ws right), map-append, append_assoc)

    prefix_step : Onto left → Onto right → Onto x
    unfolding find_prefix_onto keep row_at
    prefix_step f g acc =
        here acc
        ∙ by_test (starts_with key p)
        (λ i. by_order key p
        (λ e h. rw (branch_reads t q, find_prefix_onto, e, i, none_left (λ y z. <ˢ_trans y key p z h), g acc))
        (λ e h. rw (branch_reads t q, find_prefix_onto, e, i, none_left (λ y z. rw h at z), g acc))
        (λ e h. rw (branch_reads t q, find_prefix_onto, e, i, g acc) (f _)))
        (λ i. by_order key p
        (λ e h. rw (branch_reads t q, find_prefix_onto, e, i, none_left (λ y z. <ˢ_trans y key p z h), g acc))
        (λ e h. rw (branch_reads t q, find_prefix_onto, e, i, none_left (λ y z. rw h at z), g acc))
        (λ e h. rw (branch_reads t q, find_prefix_onto, e, i, none_right h i) (f _)))

  prefix_onto : (x : ℕ) → At ws txt w (tree ℓ) x → Onto x
  unfolding find_prefix_onto keep
  prefix_onto = by_sides Onto (λ acc. rw (branches_none ws, what_none w ws txt)) prefix_step

-- A branch of the tree whose key begins with p.
pub record MatchOf (ws txt : List ℕ) (w : Which) (ℓ : Level) (root : ℕ) (p : Str) (x : ℕ) : Type 0 where
  pub among : Memᴰ x (branches ws root)
  pub branch : BranchOf ws w ℓ root x
  pub begins : starts_with (key_at ws txt x) p ≡ true

module _ {ws txt : List ℕ} {w : Which} {ℓ : Level} {root : ℕ} (t : At ws txt w (tree ℓ) root) where
  pub matches_of : (p : Str) → Allˡ (MatchOf ws txt w ℓ root p) (matches ws txt root p)
  unfolding matches
  matches_of p =
      all_keep (key_at ws txt) (MatchOf ws txt w ℓ root p) (λ k. starts_with k p) (branches ws root)
      (Allˡ-map {P = λ y. Memᴰ y (branches ws root)} {Q = λ y. starts_with (key_at ws txt y) p ≡ true → MatchOf ws txt w ℓ root p y} (branches ws root)
      (λ y m e. record { among = m; branch = among_branch t m; begins = e }) (all_among (branches ws root)))

  pub branches_increasing : Increasing (key_at ws txt) (branches ws root)
  unfolding row_at entry_key
  branches_increasing = keys (branches ws root) (rw (← branches_rows none root t) at (find_all_ascends none (what w ws txt root (tree ℓ)) (tree_ordered t)))
    where
      row : ℕ → PrefixMatch × Value (Item w) ℓ
      row = row_at w ws txt ℓ none

      above : (k : Str) (xs : List ℕ) → Above entry_key k (map row xs) → Above (key_at ws txt) k xs
      above k [] a = tt
      above k (x ∷ xs) a = (a.0, above k xs a.1)

      keys : (xs : List ℕ) → Increasing entry_key (map row xs) → Increasing (key_at ws txt) xs
      keys [] i = tt
      keys (x ∷ xs) i = (above (key_at ws txt x) xs i.0, keys xs i.1)

  pub matches_increasing : (p : Str) → Increasing (key_at ws txt) (matches ws txt root p)
  unfolding matches
  matches_increasing p = keep_increasing (key_at ws txt) (λ k. starts_with k p) (branches ws root) branches_increasing

  -- With no prefix, the rows of btree_find_all.
  pub all_rows : (q : Option Str)
      → map (row_at w ws txt ℓ q) (matches ws txt root []) ≡ btree_find_all q (what w ws txt root (tree ℓ))
  unfolding matches starts_with
  all_rows q = rw (keep_all (key_at ws txt) (λ k. true) (branches ws root) (all_true (branches ws root))) (branches_rows q root t)
    where
      all_true : (xs : List ℕ) → Allˡ (λ y. ◌≡◌ {A = Bool} true true) xs
      all_true [] = tt
      all_true (x ∷ xs) = (refl, all_true xs)

  -- The rows of btree_find_prefix.
  pub prefix_rows : (p : Str)
      → map (row_at w ws txt ℓ (some p)) (matches ws txt root p) ≡ btree_find_prefix (what w ws txt root (tree ℓ)) p
  unfolding matches btree_find_prefix
  prefix_rows p = sym (append-nil _) ∙ prefix_onto ws txt w ℓ p root t []

-- The matches are all past the prefix.
pub matches_past : (ws txt : List ℕ) (p : Str) (x : ℕ)
    → keep (key_at ws txt) (past false p) (matches ws txt x p) ≡ matches ws txt x p
unfolding matches
matches_past ws txt p x =
    keep_all (key_at ws txt) (past false p) (matches ws txt x p)
    (Allˡ-map {P = λ y. starts_with (key_at ws txt y) p ≡ true} {Q = λ y. past false p (key_at ws txt y) ≡ true} (matches ws txt x p)
    (λ y. prefix_past p (key_at ws txt y))
    (kept_pass (key_at ws txt) (λ k. starts_with k p) (branches ws x)))
