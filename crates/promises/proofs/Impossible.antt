-- The source's failwith arms are never met. A computation that may fail is an option: failwith is none.
use Prim.Native.Nat.{ℕ, zero, suc, ◌<◌, compare, Ordering}
use mathlib.Core.Path.{◌≡◌, refl, ap, ◌∙◌}
use mathlib.Core.Bool.{Bool, true, false, cond, true≢false}
use mathlib.Core.List.{List, [], ◌∷◌, map, reverse}
use mathlib.Core.Option.{Option, none, some}
use native.Mathlib.Omega.{arith}
use Rattle.source.specs.Text.{Str, Query, then, string_compare, segments}
use Rattle.source.specs.Heap.{Heap, Forest, EmptyHeap, HeapOf, []ᶠ, ◌∷ᶠ◌, is_lt, heap_merge, heap_insert, heap_merge_pairs, heap_pair_up, heap_insert_all}
use Rattle.source.specs.Heap.{heap_from_list}
use Rattle.source.specs.Lists.{Run, run, first, priority, nonempty, add_priorities, total, push_nodup, run_cmp, put_back, merge_aux, merge_nonempty}
use Rattle.source.specs.Lists.{merge_increasing_lists_rev}
use Rattle.source.specs.Types.{Value, Trie, bind, bindings, namespaces}
use Rattle.source.specs.Tries.{bind_option as ◌>>=◌, names_find_exact, trie_find_exact}
use Rattle.source.specs.Calls.{a_look_up, is_empty}
use Rattle.source.specs.Forward.{heap_map, forest_map, sum}
use Rattle.source.specs.Forward.{size}
use Rattle.source.proofs.Lists.{put_back_size, from_list_size}
use Rattle.promises.proofs.Fuel.{merge_aux_fuel}
use Rattle.source.proofs.Refusals.{Admitted, look_up_segment}

-- ---- The source's text, over a comparison that may fail
module _ {A : Type 0} (cmp : A → A → Option Ordering) where
  -- heap_merge
  heap_merge? : Heap A → Heap A → Option (Heap A)
  heap_merge? EmptyHeap h = some h
  heap_merge? (HeapOf v₁ hh₁) EmptyHeap = some (HeapOf v₁ hh₁)
  heap_merge? (HeapOf v₁ hh₁) (HeapOf v₂ hh₂) = do
    o ← cmp v₁ v₂
    some (cond (is_lt o) (HeapOf v₁ (HeapOf v₂ hh₂ ∷ᶠ hh₁)) (HeapOf v₂ (HeapOf v₁ hh₁ ∷ᶠ hh₂)))

  -- heap_insert
  heap_insert? : Heap A → A → Option (Heap A)
  heap_insert? h v = heap_merge? (HeapOf v []ᶠ) h

  -- heap_merge_pairs, as in specs/Heap.antt
  mutual
    heap_merge_pairs? : Forest A → Option (Heap A)
    heap_merge_pairs? []ᶠ = some EmptyHeap
    heap_merge_pairs? (h ∷ᶠ hh) = heap_pair_up? h hh

    heap_pair_up? : Heap A → Forest A → Option (Heap A)
    heap_pair_up? h []ᶠ = some h
    heap_pair_up? h (h₂ ∷ᶠ hh) = do
      h ← heap_merge? h h₂
      rest ← heap_merge_pairs? hh
      heap_merge? h rest

  -- heap_pop
  heap_pop? : Heap A → Option (Option (A × Heap A))
  heap_pop? EmptyHeap = some none
  heap_pop? (HeapOf v hh) = do
    h ← heap_merge_pairs? hh
    some (some (v, h))

  -- List.fold_left (heap_insert cmp)
  heap_insert_all? : Heap A → List A → Option (Heap A)
  heap_insert_all? h [] = some h
  heap_insert_all? h (v ∷ vs) = do
    h ← heap_insert? h v
    heap_insert_all? h vs

  -- heap_from_list
  heap_from_list? : List A → Option (Heap A)
  heap_from_list? vs = heap_insert_all? EmptyHeap vs

-- add_priorities
add_priorities? : {A : Type 0} → ℕ → List (ℕ × List A) → List (List A) → List (ℕ × List A)
add_priorities? n acc [] = acc
add_priorities? n acc (h ∷ t) = add_priorities? (suc n) ((n, h) ∷ acc) t

module _ {A : Type 0} (key_fn : A → Str) where
  -- cmp of merge_increasing_lists_rev
  cmp? : ℕ × List A → ℕ × List A → Option Ordering
  cmp? (pr₁, []) v₂ = none
  cmp? (pr₁, h₁ ∷ t₁) (pr₂, []) = none
  cmp? (pr₁, h₁ ∷ t₁) (pr₂, h₂ ∷ t₂) = some (then (string_compare (key_fn h₁) (key_fn h₂)) (compare pr₁ pr₂))

  -- The arms of aux, given aux and what heap_pop gives.
  aux_arms? : (Heap (ℕ × List A) → List A → Option (List A)) → Option ((ℕ × List A) × Heap (ℕ × List A)) → List A
      → Option (List A)
  aux_arms? aux none acc = some acc
  aux_arms? aux (some ((pr, []), lists)) acc = none
  aux_arms? aux (some ((pr, v ∷ []), lists)) acc = aux lists (push_nodup key_fn v acc)
  aux_arms? aux (some ((pr, v ∷ (w ∷ tl)), lists)) acc = do
    lists ← heap_insert? cmp? lists (pr, w ∷ tl)
    aux lists (push_nodup key_fn v acc)

  -- aux. It fails too where the fuel is used up.
  aux? : ℕ → Heap (ℕ × List A) → List A → Option (List A)
  aux? zero lists acc = none
  aux? (suc n) lists acc = do
    popped ← heap_pop? cmp? lists
    aux_arms? (aux? n) popped acc

  -- The last match of merge_increasing_lists_rev.
  merge_nonempty? : List (List A) → Option (List A)
  merge_nonempty? [] = some []
  merge_nonempty? (l ∷ []) = some (reverse l)
  merge_nonempty? (l ∷ (m ∷ ls)) = do
    lists ← heap_from_list? cmp? (add_priorities? 0 [] (l ∷ (m ∷ ls)))
    aux? (suc (total (l ∷ (m ∷ ls)))) lists []

  -- merge_increasing_lists_rev
  pub merge_literal : List (List A) → Option (List A)
  merge_literal lists = merge_nonempty? (nonempty lists)

-- trie_find_exact
pub find_exact_literal : {A : Type 0} → Trie A → Query → Option (Option (Value A bind))
find_exact_literal tr [] = none
find_exact_literal tr (name ∷ []) = some (names_find_exact (bindings tr) name)
find_exact_literal tr (s ∷ (t ∷ q)) =
    elim (names_find_exact (namespaces tr) s) [ none ↦ some none | some scope ↦ find_exact_literal scope (t ∷ q) ]

-- ---- Heaps: where the comparison does not fail, nothing does
module _ {A B : Type 0} (f : A → B) where
  module _ (cmp : A → A → Ordering) (cmpᵒ : B → B → Option Ordering)
      (agree : (a b : A) → cmpᵒ (f a) (f b) ≡ some (cmp a b)) where
    merge_agrees : (a b : Heap A)
        → heap_merge? cmpᵒ (heap_map f a) (heap_map f b) ≡ some (heap_map f (heap_merge cmp a b))
    unfolding heap_merge? heap_merge ◌>>=◌
    merge_agrees EmptyHeap b = refl
    merge_agrees (HeapOf v hh) EmptyHeap = refl
    merge_agrees (HeapOf v hh) (HeapOf w gg) = rw (agree v w) (go (is_lt (cmp v w)))
      where
        go : (test : Bool)
            → some (cond test (HeapOf (f v) (HeapOf (f w) (forest_map f gg) ∷ᶠ forest_map f hh))
            (HeapOf (f w) (HeapOf (f v) (forest_map f hh) ∷ᶠ forest_map f gg)))
            ≡ some (heap_map f (cond test (HeapOf v (HeapOf w gg ∷ᶠ hh)) (HeapOf w (HeapOf v hh ∷ᶠ gg))))
        go true = refl
        go false = refl

    mutual
      unfolding heap_merge_pairs? heap_merge_pairs ◌>>=◌

      pairs_agree : (hh : Forest A)
          → heap_merge_pairs? cmpᵒ (forest_map f hh) ≡ some (heap_map f (heap_merge_pairs cmp hh))
      pairs_agree []ᶠ = refl
      pairs_agree (h ∷ᶠ hh) = pair_up_agrees h hh

      pair_up_agrees : (h : Heap A) (hh : Forest A)
          → heap_pair_up? cmpᵒ (heap_map f h) (forest_map f hh) ≡ some (heap_map f (heap_pair_up cmp h hh))
      pair_up_agrees h []ᶠ = refl
      pair_up_agrees h (h₂ ∷ᶠ hh) = rw (merge_agrees h h₂, pairs_agree hh) (merge_agrees (heap_merge cmp h h₂) (heap_merge_pairs cmp hh))

    insert_agrees : (h : Heap A) (v : A)
        → heap_insert? cmpᵒ (heap_map f h) (f v) ≡ some (heap_map f (heap_insert cmp h v))
    unfolding heap_insert? heap_insert
    insert_agrees h v = merge_agrees (HeapOf v []ᶠ) h

    insert_all_agrees : (h : Heap A) (xs : List A)
        → heap_insert_all? cmpᵒ (heap_map f h) (map f xs) ≡ some (heap_map f (heap_insert_all cmp h xs))
    unfolding heap_insert_all? heap_insert_all ◌>>=◌
    insert_all_agrees h [] = refl
    insert_all_agrees h (v ∷ xs) = rw (insert_agrees h v) (insert_all_agrees (heap_insert cmp h v) xs)

-- ---- The merge
module _ {A : Type 0} (key : A → Str) where
  -- A run as the source has it.
  pair : Run A → ℕ × List A
  pair (run pr v tl) = (pr, v ∷ tl)

  cmp_agrees : (r r₂ : Run A) → cmp? key (pair r) (pair r₂) ≡ some (run_cmp key r r₂)
  unfolding cmp? pair run_cmp first priority
  cmp_agrees (run pr v tl) (run pr' v' tl') = refl

  aux_agrees : (n : ℕ) (h : Heap (Run A)) (acc : List A) → sum size h < n
      → aux? key n (heap_map pair h) acc ≡ some (merge_aux key n h acc)
  unfolding aux? aux_arms? heap_pop? pair merge_aux put_back first ◌>>=◌
  aux_agrees zero h acc l = absurd (omega arith)
  aux_agrees (suc n) EmptyHeap acc l = refl
  aux_agrees (suc n) (HeapOf (run pr v []) hh) acc l =
      rw (pairs_agree pair (run_cmp key) (cmp? key) cmp_agrees hh)
      (aux_agrees n (heap_merge_pairs (run_cmp key) hh) (push_nodup key v acc) (omega (arith, put_back_size key (run pr v []) hh)))
  aux_agrees (suc n) (HeapOf (run pr v (w ∷ tl)) hh) acc l =
      rw (
        pairs_agree pair (run_cmp key) (cmp? key) cmp_agrees hh,
        insert_agrees pair (run_cmp key) (cmp? key) cmp_agrees (heap_merge_pairs (run_cmp key) hh) (run pr w tl),
      )
      (aux_agrees n (heap_insert (run_cmp key) (heap_merge_pairs (run_cmp key) hh) (run pr w tl)) (push_nodup key v acc)
      (omega (arith, put_back_size key (run pr v (w ∷ tl)) hh)))

  priorities_agree : (n : ℕ) (acc : List (Run A)) (ls : List (List A))
      → add_priorities? n (map pair acc) (nonempty ls) ≡ map pair (add_priorities n acc (nonempty ls))
  unfolding add_priorities? add_priorities nonempty pair
  priorities_agree n acc [] = refl
  priorities_agree n acc ([] ∷ ls) = priorities_agree n acc ls
  priorities_agree n acc ((v ∷ tl) ∷ ls) = priorities_agree (suc n) (run n v tl ∷ acc) ls

  nonempty_agrees : (ls : List (List A)) → add_priorities? 0 [] ls ≡ map pair (add_priorities 0 [] ls)
      → merge_nonempty? key ls ≡ some (merge_nonempty key ls)
  unfolding merge_nonempty? merge_nonempty heap_from_list? heap_from_list ◌>>=◌
  nonempty_agrees [] e = refl
  nonempty_agrees (l ∷ []) e = refl
  nonempty_agrees (l ∷ (m ∷ ls)) e =
      let lists = l ∷ (m ∷ ls) in
      let h = heap_from_list (run_cmp key) (add_priorities 0 [] lists) in
      let e' : sum size h ≡ total lists = from_list_size key lists in
      rw (e, insert_all_agrees pair (run_cmp key) (cmp? key) cmp_agrees EmptyHeap (add_priorities 0 [] lists))
      (aux_agrees (suc (total lists)) h [] (omega arith) ∙ ap some (merge_aux_fuel key (suc (total lists)) (total lists) h [] (omega arith) (omega arith)))

  -- The source's merge does not fail, and gives what specs/Lists.antt has.
  pub merge_never_fails : (ls : List (List A)) → merge_literal key ls ≡ some (merge_increasing_lists_rev key ls)
  unfolding merge_literal merge_increasing_lists_rev
  merge_never_fails ls = nonempty_agrees (nonempty ls) (priorities_agree 0 [] ls)

-- ---- Look-ups

-- trie_find_exact fails on no query that has a segment.
pub find_exact_never_fails : {A : Type 0} (tr : Trie A) (s : Str) (q : Query)
    → find_exact_literal tr (s ∷ q) ≡ some (trie_find_exact tr (s ∷ q))
unfolding find_exact_literal trie_find_exact ◌>>=◌
find_exact_never_fails tr s [] = refl
find_exact_never_fails {A} tr s (t ∷ q) = go (names_find_exact (namespaces tr) s) (λ scope. find_exact_never_fails scope t q)
  where
    go : (o : Option (Trie A))
        → ((scope : Trie A) → find_exact_literal scope (t ∷ q) ≡ some (trie_find_exact scope (t ∷ q)))
        → ◌≡◌ {A = Option (Option (Value A bind))}
        (elim o [ none ↦ some none | some scope ↦ find_exact_literal scope (t ∷ q) ])
        (some (◌>>=◌ o (λ scope. trie_find_exact scope (t ∷ q))))
    go none h = refl
    go (some scope) h = h scope

-- A look-up that is not refused has a segment, so it does not fail.
pub look_up_never_fails : {A : Type 0} (sound : Bool) (tr : Trie A) (query : Str)
    → Admitted sound (a_look_up query ∷ [])
    → find_exact_literal tr (segments query) ≡ some (trie_find_exact tr (segments query))
unfolding is_empty
look_up_never_fails sound tr query h = go (segments query) (look_up_segment sound query h)
  where
    go : (q : Query) → is_empty q ≡ false → find_exact_literal tr q ≡ some (trie_find_exact tr q)
    go [] e = absurd (true≢false e)
    go (s ∷ q) e = find_exact_never_fails tr s q
