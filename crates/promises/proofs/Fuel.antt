-- Fuel: any that is enough gives the same, so the source's equations of aux and of trie_find_prefix' hold.
use Prim.Native.Nat.{ℕ, zero, suc, ◌≤◌, ◌<◌}
use mathlib.Core.Path.{◌≡◌, refl, sym, ap, ◌∙◌, fun_ext}
use mathlib.Core.List.{List, [], ◌∷◌, reverse, tail}
use mathlib.Core.Option.{Option, none, some}
use native.Mathlib.Omega.{arith}
use Rattle.source.specs.Text.{Str, Query}
use Rattle.source.specs.Heap.{Heap, Forest, EmptyHeap, HeapOf, heap_insert, heap_merge_pairs, heap_pop, heap_from_list}
use Rattle.source.specs.Lists.{Run, run, first, add_priorities, push_nodup, run_cmp, put_back, merge_aux, merge_nonempty}
use Rattle.source.specs.Types.{Trie, NameList, bind, ns, trie, the_item, bindings, namespaces}
use Rattle.source.specs.Trees.{PathElem}
use Rattle.source.specs.Terms.{depth, depth_names}
use Rattle.source.specs.Listing.{PathOf, SearchTerm, fold_left, rev_map_onto, ns_search_term, bindings_search_term, names_find_rev, names_find_rev_first}
use Rattle.source.specs.Listing.{Finder, of_source, by_first, find_prefix_fuel, trie_find_prefix'}
use Rattle.source.specs.Counted.{Counted, one, ◌>>=◌, fold_leftᶜ, find_prefix_fuelᶜ, trie_find_prefix'ᶜ}
use Rattle.source.specs.Calls.{tries_entered}
use Rattle.source.specs.Forward.{sum}
use Rattle.source.specs.Shared.{sumˡ}
use Rattle.source.specs.Shared.{Allˡ}
use Rattle.source.specs.Forward.{size}
use Rattle.source.proofs.Lists.{put_back_size, from_list_size}
use Rattle.source.proofs.Rows.{names_find_rev_depth, names_find_first_depth}
use Rattle.source.proofs.Counted.{fold_left_value, fold_left_count, find_prefix_fuel_value, find_prefix_fuel_count, tries_entered_count}

-- ---- The merge
module _ {A : Type 0} (key : A → Str) where
  pub merge_aux_fuel : (n m : ℕ) (h : Heap (Run A)) (acc : List A) → sum size h ≤ n → sum size h ≤ m
      → merge_aux key n h acc ≡ merge_aux key m h acc
  unfolding merge_aux size
  merge_aux_fuel zero zero h acc l k = refl
  merge_aux_fuel zero (suc m) EmptyHeap acc l k = refl
  merge_aux_fuel zero (suc m) (HeapOf r hh) acc l k = absurd (omega arith)
  merge_aux_fuel (suc n) zero EmptyHeap acc l k = refl
  merge_aux_fuel (suc n) zero (HeapOf r hh) acc l k = absurd (omega arith)
  merge_aux_fuel (suc n) (suc m) EmptyHeap acc l k = refl
  merge_aux_fuel (suc n) (suc m) (HeapOf r hh) acc l k =
      merge_aux_fuel n m (put_back key r (heap_merge_pairs (run_cmp key) hh)) (push_nodup key (first r) acc)
      (omega (arith, put_back_size key r hh)) (omega (arith, put_back_size key r hh))

  -- aux, with as much fuel as the heap has elements.
  unfoldable pub aux : Heap (Run A) → List A → List A
  aux lists acc = merge_aux key (sum size lists) lists acc

  -- The arms of aux, by what heap_pop gives.
  unfoldable pub aux_arms : Option (Run A × Heap (Run A)) → List A → List A
  aux_arms none acc = acc
  aux_arms (some (run pr v [], lists)) acc = aux lists (push_nodup key v acc)
  aux_arms (some (run pr v (w ∷ tl), lists)) acc = aux (heap_insert (run_cmp key) lists (run pr w tl)) (push_nodup key v acc)

  aux_pop : (r : Run A) (hh : Forest (Run A)) (acc : List A)
      → aux (HeapOf r hh) acc ≡ aux (put_back key r (heap_merge_pairs (run_cmp key) hh)) (push_nodup key (first r) acc)
  unfolding aux merge_aux
  aux_pop r hh acc =
      merge_aux_fuel (sum size (HeapOf r hh)) (suc (sum size (put_back key r (heap_merge_pairs (run_cmp key) hh)))) (HeapOf r hh) acc
      (omega arith) (omega (arith, put_back_size key r hh))

  -- The source's equation for aux.
  pub aux_step : (lists : Heap (Run A)) (acc : List A) → aux lists acc ≡ aux_arms (heap_pop (run_cmp key) lists) acc
  unfolding aux aux_arms heap_pop merge_aux put_back first
  aux_step EmptyHeap acc = refl
  aux_step (HeapOf (run pr v []) hh) acc = aux_pop (run pr v []) hh acc
  aux_step (HeapOf (run pr v (w ∷ tl)) hh) acc = aux_pop (run pr v (w ∷ tl)) hh acc

  -- The last arm of merge_increasing_lists_rev.
  pub merge_nonempty_aux : (xs m : List A) (ls : List (List A))
      → merge_nonempty key (xs ∷ (m ∷ ls)) ≡ aux (heap_from_list (run_cmp key) (add_priorities 0 [] (xs ∷ (m ∷ ls)))) []
  unfolding merge_nonempty aux
  merge_nonempty_aux xs m ls =
      ap (λ n. merge_aux key n (heap_from_list (run_cmp key) (add_priorities 0 [] (xs ∷ (m ∷ ls)))) []) (sym (from_list_size key (xs ∷ (m ∷ ls))))

-- ---- The listing
pub fold_leftᶜ_same : {B C : Type 0} (P : B → Type 0) (f g : C → B → Counted C)
    → ((c : C) (b : B) → P b → f c b ≡ g c b) → (c : C) (xs : List B) → Allˡ P xs
    → fold_leftᶜ f c xs ≡ fold_leftᶜ g c xs
unfolding fold_leftᶜ
fold_leftᶜ_same P f g h c [] a = refl
fold_leftᶜ_same P f g h c (b ∷ xs) a =
    ap (λ m. m >>= λ c. fold_leftᶜ f c xs) (h c b a.0) ∙ ap (λ k. g c b >>= k) (fun_ext (λ c. fold_leftᶜ_same P f g h c xs a.1))

-- Of either way to find the rows of a list, whose values have less depth than the list.
module _ {A : Type 0} (find : Finder A)
    (shallow : (nl : NameList A ns) (term : SearchTerm)
    → Allˡ (λ x. depth x.1 < depth_names nl) (find ns nl term)) where
  -- The namespaces listed for a query, and what is put onto acc for the bindings.
  abbrev rows : Trie A → Query → List (PathElem × Trie A)
  rows tr q = find ns (namespaces tr) (ns_search_term q)

  abbrev own : Trie A → PathOf → Query → List (PathOf × A) → List (PathOf × A)
  own tr path q acc = rev_map_onto (λ x. (reverse (x.0 ∷ path), the_item x.1)) (find bind (bindings tr) (bindings_search_term q)) acc

  rows_depth : (tr : Trie A) (q : Query) → Allˡ (λ x. depth x.1 < depth tr) (rows tr q)
  unfolding depth namespaces
  rows_depth (trie b nl) q = shallow nl (ns_search_term q)

  pub find_prefix_fuelᶜ_enough : (n m : ℕ) (tr : Trie A) (path : PathOf) (q : Query) (acc : List (PathOf × A))
      → depth tr < n → depth tr < m
      → find_prefix_fuelᶜ find n tr path q acc ≡ find_prefix_fuelᶜ find m tr path q acc
  unfolding find_prefix_fuelᶜ
  find_prefix_fuelᶜ_enough zero m tr path q acc h k = absurd (omega arith)
  find_prefix_fuelᶜ_enough (suc n) zero tr path q acc h k = absurd (omega arith)
  find_prefix_fuelᶜ_enough (suc n) (suc m) tr path q acc h k =
      ap (λ l. l >>= λ acc. one (own tr path q acc))
      (fold_leftᶜ_same (λ x. depth x.1 < depth tr) _ _
      (λ acc x d. find_prefix_fuelᶜ_enough n m x.1 (x.0 ∷ path) (tail q) acc (omega arith) (omega arith)) acc (rows tr q) (rows_depth tr q))

  pub find_prefix_fuel_enough : (n m : ℕ) (tr : Trie A) (path : PathOf) (q : Query) (acc : List (PathOf × A))
      → depth tr < n → depth tr < m
      → find_prefix_fuel find n tr path q acc ≡ find_prefix_fuel find m tr path q acc
  find_prefix_fuel_enough n m tr path q acc h k =
      sym (find_prefix_fuel_value find n tr path q acc)
      ∙ ap (λ c. c.value) (find_prefix_fuelᶜ_enough n m tr path q acc h k)
      ∙ find_prefix_fuel_value find m tr path q acc

  -- The source's equation for trie_find_prefix', counted and plain.
  pub trie_find_prefix'ᶜ_step : (tr : Trie A) (path : PathOf) (q : Query) (acc : List (PathOf × A))
      → trie_find_prefix'ᶜ find tr path q acc
      ≡ (fold_leftᶜ (λ acc x. trie_find_prefix'ᶜ find x.1 (x.0 ∷ path) (tail q) acc) acc
      (find ns (namespaces tr) (ns_search_term q))
      >>= λ acc. one (rev_map_onto (λ x. (reverse (x.0 ∷ path), the_item x.1))
      (find bind (bindings tr) (bindings_search_term q)) acc))
  unfolding trie_find_prefix'ᶜ find_prefix_fuelᶜ
  trie_find_prefix'ᶜ_step tr path q acc =
      ap (λ l. l >>= λ acc. one (own tr path q acc))
      (fold_leftᶜ_same (λ x. depth x.1 < depth tr) _ _
      (λ acc x d. find_prefix_fuelᶜ_enough (depth tr) (suc (depth x.1)) x.1 (x.0 ∷ path) (tail q) acc (omega arith) (omega arith))
      acc (rows tr q) (rows_depth tr q))

  pub trie_find_prefix'_step : (tr : Trie A) (path : PathOf) (q : Query) (acc : List (PathOf × A))
      → trie_find_prefix' find tr path q acc
      ≡ rev_map_onto (λ x. (reverse (x.0 ∷ path), the_item x.1)) (find bind (bindings tr) (bindings_search_term q))
      (fold_left (λ acc x. trie_find_prefix' find x.1 (x.0 ∷ path) (tail q) acc) acc
      (find ns (namespaces tr) (ns_search_term q)))
  unfolding trie_find_prefix' trie_find_prefix'ᶜ ◌>>=◌ one
  trie_find_prefix'_step tr path q acc =
      sym (find_prefix_fuel_value find (suc (depth tr)) tr path q acc)
      ∙ ap (λ c. c.value) (trie_find_prefix'ᶜ_step tr path q acc)
      ∙ ap (own tr path q)
      (fold_left_value _ _ (λ acc x. find_prefix_fuel_value find (suc (depth x.1)) x.1 (x.0 ∷ path) (tail q) acc) acc (rows tr q))

module _ {A : Type 0} where
  -- The source's listing, by its own equation.
  pub source_step : (tr : Trie A) (path : PathOf) (q : Query) (acc : List (PathOf × A))
      → trie_find_prefix' of_source tr path q acc
      ≡ rev_map_onto (λ x. (reverse (x.0 ∷ path), the_item x.1))
      (names_find_rev (bindings tr) (bindings_search_term q))
      (fold_left (λ acc x. trie_find_prefix' of_source x.1 (x.0 ∷ path) (tail q) acc) acc
      (names_find_rev (namespaces tr) (ns_search_term q)))
  source_step tr path q acc = trie_find_prefix'_step of_source names_find_rev_depth tr path q acc

  -- Tries entered: the trie, and those entered from each row of its namespaces.
  pub tries_entered_step : (tr : Trie A) (q : Query)
      → tries_entered tr q
      ≡ suc (sumˡ (λ x. tries_entered x.1 (tail q)) (names_find_rev_first (namespaces tr) (ns_search_term q)))
  unfolding tries_entered trie_find_prefix'ᶜ ◌>>=◌ one
  tries_entered_step tr q =
      ap (λ m. m.count) (trie_find_prefix'ᶜ_step by_first names_find_first_depth tr [] q [])
      ∙ omega (
        arith,
        fold_left_count (λ acc x. trie_find_prefix'ᶜ by_first x.1 (x.0 ∷ []) (tail q) acc) (λ x. tries_entered x.1 (tail q))
            (λ acc x. find_prefix_fuel_count (suc (depth x.1)) x.1 (x.0 ∷ []) (tail q) acc ∙ sym (tries_entered_count x.1 (tail q)))
            [] (names_find_rev_first (namespaces tr) (ns_search_term q)),
      )
