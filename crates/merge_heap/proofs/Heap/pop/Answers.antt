-- `merge_heap::Heap::pop` meets its contract.
use native.Mathlib.Omega.{arith}
use Rattle.merge_heap.proofs.CellCounts.{root_in}
use Rattle.merge_heap.proofs.HeapPop.{rep_kids, pop_none, pop_rep}
use Rattle.merge_heap.proofs.LinkLists.{child_at}
use Rattle.merge_heap.proofs.Heap.pop.Goals as goal

pub returns-then-self-eq-CELLS : goal.returns-then-self-eq-CELLS
returns-then-self-eq-CELLS c n few =
    pop_none _ _ _ few _ _ c.if-self-eq-CELLS.true

pub offset_bounds-self-least : goal.offset_bounds-self-least
offset_bounds-self-least c =
    let pre = c.requires in omega (arith, pre.headed.few, root_in _ _ _ pre.headed.few pre.rep c.if-self-eq-CELLS.false)

pub bounds-self-least : goal.bounds-self-least
bounds-self-least c =
    let pre = c.requires in omega (arith, pre.headed.few, root_in _ _ _ pre.headed.few pre.rep c.if-self-eq-CELLS.false)

pub merge_pairs-self-requires : goal.merge_pairs-self-requires
merge_pairs-self-requires c =
    let pre = c.requires in
    let kids = rep_kids _ _ _ pre.headed.few _ pre.heap pre.rep c.if-self-eq-CELLS.false in
    rw (c.from.ensures, ← child_at c.args.self.now.links c.args.self.now.root)
    (record { n = pre.n; headed = pre.headed; forest = kids.0; rep = kids.1 })

pub returns : goal.returns
returns c n few =
    pop_rep _ _ _ few _ _ _ _ _ c.if-self-eq-CELLS.false
    (rw (c.from.ensures, ← child_at c.args.self.now.links c.args.self.now.root) at (c.merge_pairs-self.ensures.pairs n few))
