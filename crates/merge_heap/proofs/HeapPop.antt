-- heap_pop and heap_from_list in cells.
use Prim.Native.Nat.{ℕ, ◌+◌, ◌≤◌, ◌<◌, Ordering}
use mathlib.Core.Path.{◌≡◌, refl, sym, subst}
use mathlib.Core.List.{List}
use native.Mathlib.Omega.{arith}
use native.Mathlib.Numerals.{add-one}
use lib.ListN.{get_or}
use Rattle.source.specs.Heap.{Heap, Forest, EmptyHeap, HeapOf, []ᶠ, heap_insert, heap_pop, heap_insert_all, heap_from_list}
use Rattle.source.proofs.Heap.{insert_all_more, sum_merge}
use Rattle.merge_heap.specs.Cells.{Holdsᶠ, is, count, Sized, Rep, Repᶠ, Inserts, Pairs, Pops, first_cells}
use Rattle.std.specs.Prelude.{Some, None}
use Rattle.merge_heap.proofs.CellCounts.{is_other}

-- ---- heap_pop
module _ (n : ℕ) (child next : List ℕ) (few : n ≤ 96) (i : ℕ) where
  -- The heaps under a root.
  pub rep_kids : (h : Heap ℕ) → Rep n child next i h → (i ≡ 96 → ⊥)
      → (hh : Forest ℕ) × Repᶠ n child next (get_or child i 0) hh
  rep_kids EmptyHeap p ne = absurd (ne p.holds)
  rep_kids (HeapOf v hh) p ne = (
    hh,
    record {
      sized = p.sized;
      holds = subst (λ (k : ℕ). Holdsᶠ n child next (get_or child k 0) hh) (sym p.holds.0) p.holds.2;
      once = λ j. omega (arith, p.once j);
    },
  )

  module _ (cmp : ℕ → ℕ → Ordering) where
    pub pop_none : i ≡ 96 → Pops cmp n child next child next i i None
    unfolding heap_pop
    pop_none e EmptyHeap p = (refl, refl, refl)
    pop_none e (HeapOf v hh) p = absurd (omega (arith, p.holds.0, p.holds.1))

    pub pop_rep : (child' next' : List ℕ) (r : ℕ) → (i ≡ 96 → ⊥)
        → Pairs cmp n child next child' next' r (get_or child i 0) → Pops cmp n child next child' next' i r (Some i)
    unfolding heap_pop rep_kids
    pop_rep child' next' r ne paired EmptyHeap p = absurd (ne p.holds)
    pop_rep child' next' r ne paired (HeapOf v hh) p = (p.holds.0, paired hh (rep_kids (HeapOf v hh) p ne).1)

-- ---- heap_from_list
module _ (cmp : ℕ → ℕ → Ordering) where
  -- The cells below v are in the heap, and no other.
  pub record Built (n : ℕ) (child next : List ℕ) (root v : ℕ) : Type 0 where
    pub below : v ≤ n
    pub rep : Rep n child next root (heap_from_list cmp (first_cells v))
    pub fresh : (j : ℕ) → v ≤ j → count j (heap_from_list cmp (first_cells v)) ≡ 0

  pub built_none : (n : ℕ) (child next : List ℕ) → Sized child next → Built n child next 96 0
  unfolding heap_from_list first_cells heap_insert_all
  built_none n child next z = record { below = omega arith; rep = record { sized = z; holds = refl; once = λ j. omega arith }; fresh = λ j l. refl }

  pub built_more : (n : ℕ) (child next : List ℕ) (root v : ℕ) → Built n child next root v → v < n
      → (child' next' : List ℕ) (r : ℕ) → Inserts cmp n child next child' next' r root v
      → Built n child' next' r (v + 1)
  unfolding heap_from_list first_cells heap_insert
  built_more n child next root v b l child' next' r inserted =
      rw (add-one v) (record {
        below = omega arith;
        rep = rw (insert_all_more cmp EmptyHeap (first_cells v) v) (inserted (heap_from_list cmp (first_cells v)) b.rep (b.fresh v (omega arith))).rep;
        fresh = λ j k. rw (insert_all_more cmp EmptyHeap (first_cells v) v) (omega (
          arith,
          sum_merge cmp (is j) (HeapOf v []ᶠ) (heap_from_list cmp (first_cells v)),
          b.fresh j (omega arith),
          is_other j v (λ e. omega arith),
        ));
      })
