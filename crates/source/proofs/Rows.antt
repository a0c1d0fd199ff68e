-- What the rows of a list are, the source's and the listing's, whatever the order of the keys: branches of its trees.
use Prim.Native.Nat.{ℕ, ◌≤◌, ◌<◌}
use mathlib.Core.Bool.{Bool, true, false, cond, ◌||◌}
use mathlib.Core.List.{List, [], ◌∷◌, map, reverse}
use mathlib.Core.Option.{Option, none, some}
use native.Mathlib.Omega.{arith}
use lib.Dec.{is_le}
use Rattle.source.specs.Text.{Str, string_compare, starts_with}
use Rattle.source.specs.Types.{Level, Value, Tree, NameList, StrEmpty, StrBranch, []ᴺ, Names, ImportedNames}
use Rattle.source.specs.Trees.{PrefixMatch, PathElem, find_prefix_onto, btree_find_prefix, btree_fold, btree_find_all}
use Rattle.source.specs.Terms.{depth, depth_tree, depth_names}
use Rattle.source.specs.Listing.{SearchTerm, NSTAll, NSTNone, NSTPrefix, revmap_onto, names_revmap, matching_values, with_imports, elem_key}
use Rattle.source.specs.Listing.{names_find_rev, names_find_rev_first}
use Rattle.source.specs.Shared.{Allˡ}
use Rattle.source.proofs.Lookup.{Allˡ-reverse}
use Rattle.source.proofs.Lists.{merge_all}

module _ {A : Type 0} {ℓ : Level} (P : Str → Value A ℓ → Type 0) where
  abbrev pub AllBranches : Tree A ℓ → Type 0
  AllBranches StrEmpty = Unit {0}
  AllBranches (StrBranch k v lbt rbt) = P k v × AllBranches lbt × AllBranches rbt

  -- Every branch of the list's trees, imported ones too.
  abbrev pub AllNamed : NameList A ℓ → Type 0
  AllNamed []ᴺ = Unit {0}
  AllNamed (Names bt tl) = AllBranches bt × AllNamed tl
  AllNamed (ImportedNames label inner tl) = AllNamed inner × AllNamed tl

  abbrev Matches : List (PrefixMatch × Value A ℓ) → Type 0
  Matches m = Allˡ (λ x. P x.0.completion x.1) m

  either : (b : Bool) (m m' : List (PrefixMatch × Value A ℓ)) → Matches m → Matches m' → Matches (cond b m m')
  either true m m' a b = a
  either false m m' a b = b

  find_prefix_onto_all : (bt : Tree A ℓ) (p : Str) (acc : List (PrefixMatch × Value A ℓ)) → AllBranches bt → Matches acc
      → Matches (find_prefix_onto bt p acc)
  unfolding find_prefix_onto
  find_prefix_onto_all StrEmpty p acc a b = b
  find_prefix_onto_all (StrBranch k v lbt rbt) p acc a b =
      let le = is_le (string_compare k p) in
      let starts = starts_with k p in
      let right = cond (le || starts) (find_prefix_onto rbt p acc) acc in
      let row : PrefixMatch × Value A ℓ = (record { prefix = some p; completion = k }, v) in
      let middle = cond starts (row ∷ right) right in
      let right_all : Matches right = either (le || starts) (find_prefix_onto rbt p acc) acc (find_prefix_onto_all rbt p acc a.2 b) b in
      let middle_all : Matches middle = either starts (row ∷ right) right (a.0, right_all) right_all in
      either le middle (find_prefix_onto lbt p middle) middle_all (find_prefix_onto_all lbt p middle a.1 middle_all)

  fold_all : (p : Option Str) (bt : Tree A ℓ) (acc : List (PrefixMatch × Value A ℓ)) → AllBranches bt → Matches acc
      → Matches (btree_fold bt (λ k v acc. (record { prefix = p; completion = k }, v) ∷ acc) acc)
  unfolding btree_fold
  fold_all p StrEmpty acc a b = b
  fold_all p (StrBranch k v lbt rbt) acc a b = fold_all p lbt _ a.1 (a.0, fold_all p rbt acc a.2 b)

  abbrev AllMatches : List (List Str × List (PrefixMatch × Value A ℓ)) → Type 0
  AllMatches ms = Allˡ (λ m. Matches m.1) ms

  revmap_all : (fn : Tree A ℓ → List (PrefixMatch × Value A ℓ))
      → ((bt₁ : Tree A ℓ) → AllBranches bt₁ → Matches (fn bt₁))
      → (acc : List (List Str × List (PrefixMatch × Value A ℓ))) (i : List Str) (nl : NameList A ℓ) → AllNamed nl
      → AllMatches acc
      → AllMatches (revmap_onto fn acc i nl)
  unfolding revmap_onto
  revmap_all fn f acc i []ᴺ a b = b
  revmap_all fn f acc i (Names bt tl) a b = revmap_all fn f ((i, fn bt) ∷ acc) i tl a.1 (f bt a.0, b)
  revmap_all fn f acc i (ImportedNames nm inner tl) a b =
      revmap_all fn f (revmap_onto fn acc (nm ∷ i) inner) i tl a.1 (revmap_all fn f acc (nm ∷ i) inner a.0 b)

  matching_values_all : (nl : NameList A ℓ) (term : SearchTerm) → AllNamed nl → AllMatches (matching_values nl term)
  unfolding matching_values names_revmap btree_find_all btree_find_prefix
  matching_values_all nl NSTNone a = tt
  matching_values_all nl NSTAll a = revmap_all (btree_find_all none) (λ t b. fold_all none t [] b tt) [] [] nl a tt
  matching_values_all nl (NSTPrefix []) a = revmap_all (btree_find_all (some [])) (λ t b. fold_all (some []) t [] b tt) [] [] nl a tt
  matching_values_all nl (NSTPrefix (c ∷ p)) a =
      revmap_all (λ bt. btree_find_prefix bt (c ∷ p)) (λ t b. find_prefix_onto_all t (c ∷ p) [] b tt) [] [] nl a tt

  abbrev Row : PathElem × Value A ℓ → Type 0
  Row x = P (elem_key x) x.1

  with_imports_all : (i : List Str) (m : List (PrefixMatch × Value A ℓ)) → Matches m → Allˡ Row (with_imports (i, m))
  unfolding with_imports elem_key
  with_imports_all i [] a = tt
  with_imports_all i (x ∷ m) a = (a.0, with_imports_all i m a.1)

  all_with_imports : (ms : List (List Str × List (PrefixMatch × Value A ℓ))) → AllMatches ms
      → Allˡ (Allˡ Row) (map with_imports ms)
  all_with_imports [] a = tt
  all_with_imports (m ∷ ms) a = (with_imports_all m.0 m.1 a.0, all_with_imports ms a.1)

  pub names_find_rev_all : (nl : NameList A ℓ) (term : SearchTerm) → AllNamed nl → Allˡ Row (names_find_rev nl term)
  unfolding names_find_rev
  names_find_rev_all nl term a =
      merge_all elem_key Row (map with_imports (matching_values nl term)) (all_with_imports (matching_values nl term) (matching_values_all nl term a))

  pub names_find_first_all : (nl : NameList A ℓ) (term : SearchTerm) → AllNamed nl
      → Allˡ Row (names_find_rev_first nl term)
  unfolding names_find_rev_first
  names_find_first_all nl term a =
      merge_all elem_key Row (map with_imports (reverse (matching_values nl term)))
      (all_with_imports (reverse (matching_values nl term))
      (Allˡ-reverse (λ m. Matches m.1) (matching_values nl term) [] (matching_values_all nl term a) tt))

-- ---- Depth
module _ {A : Type 0} {ℓ : Level} (d : ℕ) where
  abbrev Shallow : Str → Value A ℓ → Type 0
  Shallow k v = depth v < d

  tree_shallow : (bt : Tree A ℓ) → depth_tree bt ≤ d → AllBranches Shallow bt
  unfolding depth_tree
  tree_shallow StrEmpty h = tt
  tree_shallow (StrBranch k v lbt rbt) h = (omega arith, tree_shallow lbt (omega arith), tree_shallow rbt (omega arith))

  names_shallow : (nl : NameList A ℓ) → depth_names nl ≤ d → AllNamed Shallow nl
  unfolding depth_names
  names_shallow []ᴺ h = tt
  names_shallow (Names bt tl) h = (tree_shallow bt (omega arith), names_shallow tl (omega arith))
  names_shallow (ImportedNames label inner tl) h = (names_shallow inner (omega arith), names_shallow tl (omega arith))

-- Each row's value has less depth than the list.
module _ {A : Type 0} {ℓ : Level} (nl : NameList A ℓ) (term : SearchTerm) where
  pub names_find_rev_depth : Allˡ (λ x. depth x.1 < depth_names nl) (names_find_rev nl term)
  names_find_rev_depth = names_find_rev_all (λ k v. depth v < depth_names nl) nl term (names_shallow (depth_names nl) nl (omega arith))

  pub names_find_first_depth : Allˡ (λ x. depth x.1 < depth_names nl) (names_find_rev_first nl term)
  names_find_first_depth = names_find_first_all (λ k v. depth v < depth_names nl) nl term (names_shallow (depth_names nl) nl (omega arith))
