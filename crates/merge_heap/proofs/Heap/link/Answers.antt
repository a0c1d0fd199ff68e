-- `merge_heap::Heap::link` meets its contract.
use mathlib.Core.Path.{refl}
use Rattle.merge_heap.proofs.LinkLists.{child_at, child_set, child_kept, next_set, next_kept}
use Rattle.merge_heap.proofs.Heap.link.Goals as goal

pub returns-clause-links : goal.returns-clause-links
returns-clause-links c =
    let links = c.args.self.now.links in (
      refl,
      rw (child_set _ c.args.v c.args.w, next_kept links c.args.w _) refl,
      rw (child_kept _ c.args.v c.args.w, next_set links c.args.w _, child_at links c.args.v) refl,
    )
