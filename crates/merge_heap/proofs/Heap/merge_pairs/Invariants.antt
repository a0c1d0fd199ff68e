-- `merge_heap::Heap::merge_pairs` meets its contract. The measures are the numbers of siblings that are left, of those to be paired and of those to be merged.
use Prim.Native.Nat.{ℕ, ◌≤◌}
use mathlib.Core.Path.{◌≡◌}
use mathlib.Core.List.{List}
use Rattle.source.specs.Heap.{Heap, Forest, heap_merge_pairs}
use Rattle.merge_heads.specs.Compare.{heads, cell_cmp}
use Rattle.merge_heap.specs.Cells.{children, nexts, Repᶠ}
use Rattle.merge_heap.proofs.HeapMergePairs.{siblings, Pairing, Merging}
use Rattle.merge_heap.proofs.Heap.merge_pairs.Given as goal

abbrev pub invariant-loop-at : goal.invariant-loop-at
invariant-loop-at l =
    ((n : ℕ) → n ≤ 96 → (hh : Forest ℕ) → Repᶠ n (children l.initial.self.links) (nexts l.initial.self.links) l.i hh
    → Pairing (cell_cmp l.words l.text (heads l.cells)) n (children l.initial.self.links) (nexts l.initial.self.links)
    (heap_merge_pairs (cell_cmp l.words l.text (heads l.cells)) hh) (children l.self.links) (nexts l.self.links) l.stack l.at)
    × (l.self.root ≡ l.initial.self.root)

abbrev pub decreases-loop-at : goal.decreases-loop-at
decreases-loop-at l =
    siblings 96 (nexts l.self.links) l.at

abbrev pub invariant-loop-stack : goal.invariant-loop-stack
invariant-loop-stack l =
    ((n : ℕ) → n ≤ 96 → (child₁ next₁ : List ℕ) (all : Heap ℕ)
    → Merging (cell_cmp l.words l.text (heads l.cells)) n child₁ next₁ all
    (children l.initial.self.links) (nexts l.initial.self.links) l.initial.stack l.initial.r
    → Merging (cell_cmp l.words l.text (heads l.cells)) n child₁ next₁ all (children l.self.links) (nexts l.self.links) l.stack l.r)
    × (l.self.root ≡ l.initial.self.root)

abbrev pub decreases-loop-stack : goal.decreases-loop-stack
decreases-loop-stack l =
    siblings 96 (nexts l.self.links) l.stack
