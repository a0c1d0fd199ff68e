-- Listing, as in the source: names_revmap to trie_find_prefix; and what departs from it.
use Rattle.std.specs.Prelude.{ℕ, zero, suc}
use mathlib.Core.List.{List, [], ◌∷◌, map, reverse, tail}
use Rattle.std.proofs.Math.Option.{none, some}
use Rattle.source.specs.Text.{Str, Query}
use Rattle.source.specs.Types.{Level, Value, Trie, Tree, NameList, bind, ns, []ᴺ, Names, ImportedNames, the_item, bindings, namespaces}
use Rattle.source.specs.Trees.{PrefixMatch, PathElem, btree_find_all, btree_find_prefix}
use Rattle.source.specs.Lists.{merge_increasing_lists_rev}
use Rattle.source.specs.Terms.{depth}

-- path
abbrev pub PathOf : Type 0
PathOf = List PathElem

-- name_search_term
pub data SearchTerm : Type 0 where
  NSTAll NSTNone : SearchTerm
  NSTPrefix : Str → SearchTerm

-- List.fold_left
unfoldable pub fold_left : {A B : Type 0} → (B → A → B) → B → List A → B
fold_left f b [] = b
fold_left f b (a ∷ xs) = fold_left f (f b a) xs

-- List.rev_map_onto
unfoldable pub rev_map_onto : {A B : Type 0} → (A → B) → List A → List B → List B
rev_map_onto f [] acc = acc
rev_map_onto f (a ∷ xs) acc = rev_map_onto f xs (f a ∷ acc)

-- The search terms of trie_find_prefix' for a query.
unfoldable pub ns_search_term : Query → SearchTerm
ns_search_term [] = NSTAll
ns_search_term (s ∷ q) = NSTPrefix s

unfoldable pub bindings_search_term : Query → SearchTerm
bindings_search_term [] = NSTAll
bindings_search_term (id ∷ []) = NSTPrefix id
bindings_search_term (s ∷ (t ∷ q)) = NSTNone

module _ {A : Type 0} where
  -- aux of names_revmap
  unfoldable pub revmap_onto : {ℓ : Level} {B : Type 0} → (Tree A ℓ → B) → List (List Str × B) → List Str → NameList A ℓ
      → List (List Str × B)
  revmap_onto fn acc imports []ᴺ = acc
  revmap_onto fn acc imports (Names bt tl) = revmap_onto fn ((imports, fn bt) ∷ acc) imports tl
  revmap_onto fn acc imports (ImportedNames nm inner tl) =
      revmap_onto fn (revmap_onto fn acc (nm ∷ imports) inner) imports tl

  unfoldable pub names_revmap : {ℓ : Level} {B : Type 0} → (Tree A ℓ → B) → NameList A ℓ → List (List Str × B)
  names_revmap fn nl = revmap_onto fn [] [] nl

  -- matching_values_per_collection_with_imports of names_find_rev
  unfoldable pub matching_values : {ℓ : Level} → NameList A ℓ → SearchTerm
      → List (List Str × List (PrefixMatch × Value A ℓ))
  matching_values nl NSTNone = []
  matching_values nl NSTAll = names_revmap (btree_find_all none) nl
  matching_values nl (NSTPrefix []) = names_revmap (btree_find_all (some [])) nl
  matching_values nl (NSTPrefix (b ∷ id)) = names_revmap (λ bt. btree_find_prefix bt (b ∷ id)) nl

  -- One collection's matches with its imports (mk_path_el).
  unfoldable pub with_imports : {ℓ : Level} → List Str × List (PrefixMatch × Value A ℓ) → List (PathElem × Value A ℓ)
  with_imports m = map (λ x. (record { imports = m.0; segment = x.0 }, x.1)) m.1

  -- key_fn of names_find_rev
  unfoldable pub elem_key : {ℓ : Level} → PathElem × Value A ℓ → Str
  elem_key x = x.0.segment.completion

  unfoldable pub names_find_rev : {ℓ : Level} → NameList A ℓ → SearchTerm → List (PathElem × Value A ℓ)
  names_find_rev nl id = merge_increasing_lists_rev elem_key (map with_imports (matching_values nl id))

  -- Departs from the source: the lists go to the merge in flattened order, so that of equal keys the first holder is kept.
  unfoldable pub names_find_rev_first : {ℓ : Level} → NameList A ℓ → SearchTerm → List (PathElem × Value A ℓ)
  names_find_rev_first nl id = merge_increasing_lists_rev elem_key (map with_imports (reverse (matching_values nl id)))

-- How the rows of a list are found: by names_find_rev, or by what departs from it.
abbrev pub Finder : Type 0 → Type 0
Finder A = (ℓ : Level) → NameList A ℓ → SearchTerm → List (PathElem × Value A ℓ)

module _ {A : Type 0} where
  module _ (find : Finder A) where
    -- trie_find_prefix'. Each call goes one trie deeper, so the depth is fuel enough: proofs/Fuel.antt.
    unfoldable pub find_prefix_fuel : ℕ → Trie A → PathOf → Query → List (PathOf × A) → List (PathOf × A)
    find_prefix_fuel zero tr path_acc q acc = acc
    find_prefix_fuel (suc n) tr path_acc q acc =
        rev_map_onto (λ x. (reverse (x.0 ∷ path_acc), the_item x.1))
        (find bind (bindings tr) (bindings_search_term q))
        (fold_left (λ acc x. find_prefix_fuel n x.1 (x.0 ∷ path_acc) (tail q) acc) acc
        (find ns (namespaces tr) (ns_search_term q)))

    unfoldable pub trie_find_prefix' : Trie A → PathOf → Query → List (PathOf × A) → List (PathOf × A)
    trie_find_prefix' tr path_acc q acc = find_prefix_fuel (suc (depth tr)) tr path_acc q acc

  abbrev pub of_source : Finder A
  of_source ℓ nl id = names_find_rev nl id

  abbrev pub by_first : Finder A
  by_first ℓ nl id = names_find_rev_first nl id

  unfoldable pub trie_find_prefix : Trie A → Query → List (PathOf × A)
  trie_find_prefix tr q = trie_find_prefix' of_source tr [] q []

  -- Departs from the source, as names-find-rev-first does.
  unfoldable pub trie_find_prefix_first : Trie A → Query → List (PathOf × A)
  trie_find_prefix_first tr q = trie_find_prefix' by_first tr [] q []
