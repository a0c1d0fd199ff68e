-- `merge_heap::Heap::fill` meets its contract. The heap has the cells passed.
use Rattle.merge_heads.specs.Compare.{heads, cell_cmp}
use Rattle.merge_heap.specs.Cells.{children, nexts}
use Rattle.merge_heap.proofs.HeapPop.{Built}
use Rattle.merge_heap.proofs.Heap.fill.Given as goal

abbrev pub invariant-loop-v : goal.invariant-loop-v
invariant-loop-v l =
    Built (cell_cmp l.words l.text (heads l.cells)) l.n (children l.self.links) (nexts l.self.links) l.self.root l.v
