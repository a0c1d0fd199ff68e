-- Lists of collections: the rows that a search of one merges ascend.
use mathlib.Core.Path.{◌≡◌, refl}
use mathlib.Core.List.{List, [], ◌∷◌, map, reverse, reverse_aux}
use mathlib.Core.Option.{none, some}
use Rattle.source.specs.Text.{Str}
use Rattle.source.specs.Rules.{Ordered}
use Rattle.source.specs.Types.{Level, Value, Tree, NameList, []ᴺ, Names, ImportedNames}
use Rattle.source.specs.Trees.{PrefixMatch}
use Rattle.source.specs.Shared.{Allˡ}
use Rattle.source.proofs.Lookup.{Above, Increasing, Allˡ-reverse}
use Rattle.source.specs.Listing.{SearchTerm, NSTAll, NSTNone, NSTPrefix, revmap_onto, names_revmap, matching_values, with_imports, elem_key}
use Rattle.source.proofs.Trees.{entry_key, find_prefix_ascends, find_all_ascends}
use Rattle.source.specs.Forward.{tree_matches}

pub map_reverse : {A B : Type 0} (f : A → B) (xs acc : List A)
    → map f (reverse_aux xs acc) ≡ reverse_aux (map f xs) (map f acc)
map_reverse f [] acc = refl
map_reverse f (a ∷ xs) acc = map_reverse f xs (a ∷ acc)

module _ {A : Type 0} where
  -- ---- sound lists: each tree's keys ascend
  abbrev pub OrderedN : {ℓ : Level} → NameList A ℓ → Type 0
  OrderedN []ᴺ = Unit {0}
  OrderedN (Names bt tl) = Ordered bt × OrderedN tl
  OrderedN (ImportedNames label inner tl) = OrderedN inner × OrderedN tl

  -- ---- one tree: what names_find_rev asks of it
  pub tree_ascends : {ℓ : Level} (term : SearchTerm) (bt : Tree A ℓ) → Ordered bt
      → Increasing entry_key (tree_matches term bt)
  unfolding tree_matches
  tree_ascends NSTAll bt o = find_all_ascends none bt o
  tree_ascends NSTNone bt o = tt
  tree_ascends (NSTPrefix []) bt o = find_all_ascends (some []) bt o
  tree_ascends (NSTPrefix (c ∷ p)) bt o = find_prefix_ascends bt (c ∷ p) o

  -- ---- with its imports
  labelled_above : {ℓ : Level} (i : List Str) (k : Str) (m : List (PrefixMatch × Value A ℓ))
      → Above entry_key k m → Above elem_key k (map (λ x. (record { imports = i; segment = x.0 }, x.1)) m)
  unfolding elem_key entry_key
  labelled_above i k [] a = tt
  labelled_above i k (x ∷ m) a = (a.0, labelled_above i k m a.1)

  pub labelled_increasing : {ℓ : Level} (i : List Str) (m : List (PrefixMatch × Value A ℓ))
      → Increasing entry_key m → Increasing elem_key (map (λ x. (record { imports = i; segment = x.0 }, x.1)) m)
  unfolding elem_key entry_key
  labelled_increasing i [] a = tt
  labelled_increasing i (x ∷ m) a = (labelled_above i x.0.completion m a.0, labelled_increasing i m a.1)

  -- ---- all the trees
  revmap_increasing : {ℓ : Level} (term : SearchTerm) (acc : List (List Str × List (PrefixMatch × Value A ℓ)))
      (i : List Str) (nl : NameList A ℓ) → OrderedN nl
      → Allˡ (Increasing elem_key) (map with_imports acc)
      → Allˡ (Increasing elem_key) (map with_imports (revmap_onto (tree_matches term) acc i nl))
  unfolding revmap_onto with_imports
  revmap_increasing term acc i []ᴺ o a = a
  revmap_increasing term acc i (Names bt tl) o a =
      revmap_increasing term ((i, tree_matches term bt) ∷ acc) i tl o.1 (labelled_increasing i (tree_matches term bt) (tree_ascends term bt o.0), a)
  revmap_increasing term acc i (ImportedNames label inner tl) o a =
      revmap_increasing term (revmap_onto (tree_matches term) acc (label ∷ i) inner) i tl o.1 (revmap_increasing term acc (label ∷ i) inner o.0 a)

  -- names_find_rev asks each tree the same
  pub values_all : {ℓ : Level} (nl : NameList A ℓ) → matching_values nl NSTAll ≡ names_revmap (tree_matches NSTAll) nl
  unfolding matching_values tree_matches
  values_all nl = refl

  pub values_none : {ℓ : Level} (nl : NameList A ℓ) → matching_values nl NSTNone ≡ []
  unfolding matching_values
  values_none nl = refl

  pub values_prefix : {ℓ : Level} (nl : NameList A ℓ) (p : Str)
      → matching_values nl (NSTPrefix p) ≡ names_revmap (tree_matches (NSTPrefix p)) nl
  unfolding matching_values tree_matches
  values_prefix nl [] = refl
  values_prefix nl (c ∷ p) = refl

  pub values_increasing : {ℓ : Level} (term : SearchTerm) (nl : NameList A ℓ) → OrderedN nl
      → Allˡ (Increasing elem_key) (map with_imports (matching_values nl term))
  unfolding names_revmap
  values_increasing NSTAll nl o = rw (values_all nl) (revmap_increasing NSTAll [] [] nl o tt)
  values_increasing NSTNone nl o = rw (values_none nl) tt
  values_increasing (NSTPrefix p) nl o = rw (values_prefix nl p) (revmap_increasing (NSTPrefix p) [] [] nl o tt)

  pub turned_increasing : {ℓ : Level} (term : SearchTerm) (nl : NameList A ℓ) → OrderedN nl
      → Allˡ (Increasing elem_key) (map with_imports (reverse (matching_values nl term)))
  turned_increasing term nl o =
      rw (map_reverse with_imports (matching_values nl term) [])
      (Allˡ-reverse (Increasing elem_key) (map with_imports (matching_values nl term)) [] (values_increasing term nl o) tt)
