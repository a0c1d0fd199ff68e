-- What a search gives, ascending, as what the heap of the matching lists gives.
use Prim.Native.Nat.{ℕ, ◌≤◌}
use mathlib.Core.Path.{◌≡◌, refl, sym, ap, ◌∙◌}
use mathlib.Core.List.{List, [], ◌∷◌, map, reverse, map-map, reverse-reverse}
use mathlib.Core.Option.{none}
use native.Mathlib.Omega.{arith}
use lib.ListN.{length}
use Rattle.source.specs.Text.{Str}
use Rattle.source.specs.Types.{Level, Value, Tree, NameList}
use Rattle.source.specs.Trees.{PathElem}
use Rattle.source.specs.Heap.{heap_from_list}
use Rattle.source.specs.Lists.{Run, nonempty, total, run_cmp, merge_nonempty, merge_increasing_lists_rev}
use Rattle.source.specs.Listing.{SearchTerm, NSTAll, NSTNone, NSTPrefix, matching_values, with_imports, elem_key, names_find_rev_first}
use Rattle.source.specs.Forward.{tree_matches}
use Rattle.source.proofs.Names.{OrderedN, values_none, turned_increasing}
use Rattle.source.proofs.Lists.{runs_size}
use Rattle.source.specs.Forward.{held, forward}
use Rattle.source.proofs.Forward.{forward_fuel, merge_is, numbered, numbered_runs, AreRuns, built, built_is, map_run, map_heap, held_map, forward_map}
use Rattle.source.proofs.Forward.{built_map}
use Rattle.source.specs.Forward.{flat}
use Rattle.source.proofs.Flat.{values_all_is, values_prefix_is}
use Rattle.source.specs.Forward.{found}

module _ {A : Type 0} {ℓ : Level} where
  -- Each tree's matches with its imports, in flattened order.
  unfoldable pub match_lists : SearchTerm → NameList A ℓ → List (List (PathElem × Value A ℓ))
  match_lists term nl = map (λ x. with_imports (x.0, tree_matches term x.1)) (flat nl)

  lists_are : (term : SearchTerm) (nl : NameList A ℓ)
      → matching_values nl term ≡ reverse (map (λ x. (x.0, tree_matches term x.1)) (flat nl))
      → map with_imports (reverse (matching_values nl term)) ≡ match_lists term nl
  unfolding match_lists
  lists_are term nl e =
      ap (λ ls. map with_imports (reverse ls)) e
      ∙ ap (map with_imports) (reverse-reverse (map (λ x. (x.0, tree_matches term x.1)) (flat nl)))
      ∙ map-map with_imports (λ x. (x.0, tree_matches term x.1)) (flat nl)

  none_match : (ts : List (List Str × Tree A ℓ))
      → nonempty (map (λ x. with_imports (x.0, tree_matches NSTNone x.1)) ts) ≡ []
  unfolding nonempty with_imports tree_matches
  none_match [] = refl
  none_match (t ∷ ts) = none_match ts

  -- What is merged, in flattened order.
  pub values_are : (term : SearchTerm) (nl : NameList A ℓ)
      → nonempty (map with_imports (reverse (matching_values nl term))) ≡ nonempty (match_lists term nl)
  unfolding match_lists nonempty
  values_are NSTAll nl = ap nonempty (lists_are NSTAll nl (values_all_is nl))
  values_are NSTNone nl = rw (values_none nl, none_match (flat nl))
  values_are (NSTPrefix p) nl = ap nonempty (lists_are (NSTPrefix p) nl (values_prefix_is nl p))

  pub found_empty : (nl : NameList A ℓ) (term : SearchTerm) → nonempty (match_lists term nl) ≡ [] → found nl term ≡ []
  unfolding found names_find_rev_first merge_increasing_lists_rev merge_nonempty
  found_empty nl term e = rw (values_are term nl, e)

  -- One list alone is what is found.
  pub found_one : (nl : NameList A ℓ) (term : SearchTerm) (m : List (PathElem × Value A ℓ))
      → nonempty (match_lists term nl) ≡ m ∷ [] → found nl term ≡ m
  unfolding found names_find_rev_first merge_increasing_lists_rev merge_nonempty
  found_one nl term m e = rw (values_are term nl, e) (reverse-reverse m)

  -- The same of the heap built in flattened order.
  pub found_built : (nl : NameList A ℓ) (term : SearchTerm) (r : ℕ → Run (PathElem × Value A ℓ)) (cells fuel : ℕ)
      → OrderedN nl
      → cells ≡ length (nonempty (match_lists term nl)) → AreRuns (nonempty (match_lists term nl)) r
      → held (built elem_key r cells) ≤ fuel
      → found nl term ≡ forward elem_key fuel (built elem_key r cells) none
  unfolding found names_find_rev_first held
  found_built nl term r cells fuel o e a h =
      let ms : List (List (PathElem × Value A ℓ)) = nonempty (match_lists term nl) in
      let rs : List (Run (PathElem × Value A ℓ)) = numbered 0 ms in
      let same_heap : built elem_key r cells ≡ heap_from_list (run_cmp elem_key) rs = ap (built elem_key r) e ∙ built_is elem_key ms r a in
      ap reverse (merge_is elem_key (map with_imports (reverse (matching_values nl term))) rs (turned_increasing term nl o)
      (rw (values_are term nl) (numbered_runs elem_key ms)))
      ∙ reverse-reverse (forward elem_key (total (nonempty (map with_imports (reverse (matching_values nl term))))) _ none)
      ∙ ap (λ ms. forward elem_key (total ms) (heap_from_list (run_cmp elem_key) rs) none) (values_are term nl)
      ∙ ap (λ g. forward elem_key (total ms) g none) (sym same_heap)
      ∙ forward_fuel elem_key (total ms) fuel (built elem_key r cells) none
      (omega (arith, ap held same_heap, runs_size elem_key ms rs (numbered_runs elem_key ms))) h

  -- The same of a heap of other elements with the same keys, each read afterwards.
  pub found_read : {B : Type 0} (nl : NameList A ℓ) (term : SearchTerm) (f : B → PathElem × Value A ℓ) (key : B → Str)
      (r : ℕ → Run B) (cells fuel : ℕ)
      → OrderedN nl → ((b : B) → elem_key (f b) ≡ key b) → cells ≡ length (nonempty (match_lists term nl))
      → AreRuns (nonempty (match_lists term nl)) (λ k. map_run f (r k)) → held (built key r cells) ≤ fuel
      → found nl term ≡ map f (forward key fuel (built key r cells) none)
  found_read nl term f key r cells fuel o same_key e a h =
      let same_heap : built elem_key (λ k. map_run f (r k)) cells ≡ map_heap f (built key r cells) = built_map f key elem_key same_key r cells in
      found_built nl term (λ k. map_run f (r k)) cells fuel o e a (omega (arith, ap held same_heap, held_map f (built key r cells)))
      ∙ ap (λ g. forward elem_key fuel g none) same_heap ∙ forward_map f key elem_key same_key fuel (built key r cells) none
