-- `merge_heap::Heap::merge` meets its contract.
use Rattle.merge_heads.proofs.Compare.{is_lt_test}
use Rattle.merge_heap.proofs.HeapMerge.{merge_none, merge_only, merge_first, merge_second}
use Rattle.merge_heap.proofs.Heap.merge.Goals as goal

pub returns-then-a-eq-CELLS-clause-merges : goal.returns-then-a-eq-CELLS-clause-merges
returns-then-a-eq-CELLS-clause-merges c n few =
    merge_none _ _ _ few _ _ _ c.if-a-eq-CELLS.true

pub returns-then-b-eq-CELLS-clause-merges : goal.returns-then-b-eq-CELLS-clause-merges
returns-then-b-eq-CELLS-clause-merges c n few =
    merge_only _ _ _ few _ _ _ c.if-b-eq-CELLS.true

pub returns-then-is_lt-clause-merges : goal.returns-then-is_lt-clause-merges
returns-then-is_lt-clause-merges c n few =
    merge_first _ _ _ few _ _ _ _ _ _ c.if-a-eq-CELLS.false c.if-b-eq-CELLS.false
    (is_lt_test _ c.cell_cmp.ensures c.is_lt.ensures c.if-is_lt.true) c.link.ensures.links

pub returns-else-is_lt-clause-merges : goal.returns-else-is_lt-clause-merges
returns-else-is_lt-clause-merges c n few =
    merge_second _ _ _ few _ _ _ _ _ _ c.if-a-eq-CELLS.false c.if-b-eq-CELLS.false
    (is_lt_test _ c.cell_cmp.ensures c.is_lt.ensures c.if-is_lt.false) c.link-else-is_lt.ensures.links
