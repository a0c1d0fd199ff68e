-- The heap's functions on cells give those of the source on the lists that the cells stand for.
use Prim.Native.Nat.{ℕ, ◌<◌}
use mathlib.Core.Path.{◌≡◌, ap, ◌∙◌}
use mathlib.Core.List.{List}
use native.Mathlib.Omega.{arith}
use Rattle.source.specs.Text.{Str}
use Rattle.source.specs.Heap.{Heap, Forest, heap_insert, heap_merge_pairs}
use Rattle.source.specs.Lists.{Run, run_cmp}
use Rattle.source.specs.Forward.{heap_map, forest_map}
use Rattle.source.proofs.Heap.{All, Allᶠ}
use Rattle.merge_heads.specs.Compare.{cell_cmp, Stands}
use Rattle.merge_heap.specs.Cells.{count}
use Rattle.merge_heads.proofs.Compare.{cell_cmp_run}
use Rattle.merge_heap.proofs.CellCounts.{all_counted, counted_all}
use Rattle.merge_heap.proofs.HeapMap.{map_insert, map_pairs, map_same}

module _ {A : Type 0} (key : A → Str) (ws txt heads : List ℕ) (n : ℕ) (val : ℕ → Run A)
    (stands : (j : ℕ) → j < n → Stands key ws txt heads j (val j)) where
  agree : (a b : ℕ) → a < n → b < n → run_cmp key (val a) (val b) ≡ cell_cmp ws txt heads a b
  agree a b p q = cell_cmp_run key ws txt heads a b (stands a p) (stands b q)

  pub stands_pairs : (hh : Forest ℕ) → Allᶠ (λ v. v < n) hh
      → heap_merge_pairs (run_cmp key) (forest_map val hh) ≡ heap_map val (heap_merge_pairs (cell_cmp ws txt heads) hh)
  stands_pairs hh p = map_pairs val (cell_cmp ws txt heads) (run_cmp key) (λ v. v < n) agree hh p

  -- The cell v, which is not in the heap, stood for another list before.
  pub stands_insert : (old : ℕ → Run A) (v : ℕ) → v < n → ((j : ℕ) → j < n → (j ≡ v → ⊥) → old j ≡ val j)
      → (h : Heap ℕ) → All (λ v. v < n) h → count v h ≡ 0
      → heap_insert (run_cmp key) (heap_map old h) (val v) ≡ heap_map val (heap_insert (cell_cmp ws txt heads) h v)
  stands_insert old v l same h p z =
      ap (λ (g : Heap (Run A)). heap_insert (run_cmp key) g (val v))
      (map_same old val (λ j. (j < n) × (j ≡ v → ⊥)) (λ j q. same j q.0 q.1) h
      (all_counted (λ j. (j < n) × (j ≡ v → ⊥)) h (λ j k. (counted_all (λ v. v < n) j h p k, λ e. omega (arith, ap (λ (x : ℕ). count x h) e)))))
      ∙ map_insert val (cell_cmp ws txt heads) (run_cmp key) (λ v. v < n) agree h v p l
