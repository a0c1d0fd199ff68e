-- `merge_heap::Heap::insert` meets its contract.
use Rattle.merge_heap.proofs.HeapMerge.{insert_makes}
use Rattle.merge_heap.proofs.LinkLists.{child_set, child_kept}
use Rattle.merge_heap.proofs.Heap.insert.Goals as goal

pub returns : goal.returns
returns c n few l =
    let links = c.args.self.now.links in
    insert_makes _ _ _ few _ _ _ _ _ _ l (rw (child_set links c.args.v 96, child_kept links c.args.v 96) at (c.merge-self.ensures.merges n few))
