-- `merge::Merge::take` meets its contract.
use native.Mathlib.Omega.{arith}
use Rattle.merge_heads.proofs.Cells.{root_at, label_at, head_at, root_set, root_labels, root_heads, root_beginnings}
use Rattle.merge.proofs.Cells.{heads_of}
use Rattle.merge.proofs.Takes.{takes_none, least_stand, least_at, cell_small, next_asks, takes_last, next_in, insert_asks, takes_next}
use Rattle.merge.proofs.Merge.take.Goals as goal

pub pop-requires : goal.pop-requires
pop-requires c =
    let s = c.requires in
    record { n = _; headed = heads_of s.holding; heap = s.heap; rep = s.holding.rep }

pub returns-in_err-least : goal.returns-in_err-least
returns-in_err-least c =
    rw c.from_residual.ensures (takes_none (rw c.in_err-least.was at (c.pop.ensures _ c.requires.holding.few)))

pub offset_bounds-self-least : goal.offset_bounds-self-least
offset_bounds-self-least c =
    omega (arith, cell_small (least_at (least_stand c.requires c.in_ok-least.was (c.pop.ensures _ c.requires.holding.few))))

pub bounds-self-least : goal.bounds-self-least
bounds-self-least c =
    cell_small (least_at (least_stand c.requires c.in_ok-least.was (c.pop.ensures _ c.requires.holding.few)))

pub tree_next-requires-clause-any_tree : goal.tree_next-requires-clause-any_tree
tree_next-requires-clause-any_tree c =
    rw (root_at c.args.self.now.cells c.in_ok-least.least) at
    (next_asks (least_at (least_stand c.requires c.in_ok-least.was (c.pop.ensures _ c.requires.holding.few)))).0

pub tree_next-requires-clause-fact : goal.tree_next-requires-clause-fact
tree_next-requires-clause-fact c =
    rw (root_at c.args.self.now.cells c.in_ok-least.least, head_at c.args.self.now.cells c.in_ok-least.least) at
    (next_asks (least_at (least_stand c.requires c.in_ok-least.was (c.pop.ensures _ c.requires.holding.few)))).1.0

pub tree_next-requires-clause-prefix_value : goal.tree_next-requires-clause-prefix_value
tree_next-requires-clause-prefix_value c =
    rw (head_at c.args.self.now.cells c.in_ok-least.least) at
    (next_asks (least_at (least_stand c.requires c.in_ok-least.was (c.pop.ensures _ c.requires.holding.few)))).1.1

pub offset_bounds-self-least-in-None : goal.offset_bounds-self-least-in-None
offset_bounds-self-least-in-None c =
    omega (arith, cell_small (least_at (least_stand c.requires c.in_ok-least.was (c.pop.ensures _ c.requires.holding.few))))

pub bounds-self-least-in-None : goal.bounds-self-least-in-None
bounds-self-least-in-None c =
    cell_small (least_at (least_stand c.requires c.in_ok-least.was (c.pop.ensures _ c.requires.holding.few)))

pub set_head-requires-clause-text_in : goal.set_head-requires-clause-text_in
set_head-requires-clause-text_in c =
    let k = least_stand c.requires c.in_ok-least.was (c.pop.ensures _ c.requires.holding.few) in
    (next_in (least_at k) (rw (← root_at c.args.self.now.cells c.in_ok-least.least, ← head_at c.args.self.now.cells c.in_ok-least.least) at
    c.in-Some.ensures)).0

pub set_head-requires-clause-cell_lt_heaviest_list : goal.set_head-requires-clause-cell_lt_heaviest_list
set_head-requires-clause-cell_lt_heaviest_list c =
    cell_small (least_at (least_stand c.requires c.in_ok-least.was (c.pop.ensures _ c.requires.holding.few)))

pub insert-requires-clause-root : goal.insert-requires-clause-root
insert-requires-clause-root c =
    let k = least_stand c.requires c.in_ok-least.was (c.pop.ensures _ c.requires.holding.few) in
    rw (c.set_head.ensures.heads_are, c.set_head.ensures.beginnings_are)
    (insert_asks (least_at k) (rw (← root_at c.args.self.now.cells c.in_ok-least.least, ← head_at c.args.self.now.cells c.in_ok-least.least) at
    c.in-Some.ensures)).0

pub insert-requires-clause-head : goal.insert-requires-clause-head
insert-requires-clause-head c =
    let k = least_stand c.requires c.in_ok-least.was (c.pop.ensures _ c.requires.holding.few) in
    rw (c.set_head.ensures.heads_are, c.set_head.ensures.beginnings_are)
    (insert_asks (least_at k) (rw (← root_at c.args.self.now.cells c.in_ok-least.least, ← head_at c.args.self.now.cells c.in_ok-least.least) at
    c.in-Some.ensures)).1

pub returns-in-None : goal.returns-in-None
returns-in-None c =
    let cells = c.args.self.now.cells in
    let least = c.in_ok-least.least in
    let k = least_stand c.requires c.in_ok-least.was (c.pop.ensures _ c.requires.holding.few) in
    rw (
      root_set cells least 0,
      root_labels cells least 0,
      root_heads cells least 0,
      root_beginnings cells least 0,
      ← head_at cells least,
      ← label_at cells least,
    )
    (takes_last k (rw (← root_at c.args.self.now.cells c.in_ok-least.least, ← head_at c.args.self.now.cells c.in_ok-least.least) at
    c.in-None.ensures))

pub returns-in-Some : goal.returns-in-Some
returns-in-Some c =
    let cells = c.args.self.now.cells in
    let least = c.in_ok-least.least in
    let set = c.set_head.ensures in
    let k = least_stand c.requires c.in_ok-least.was (c.pop.ensures _ c.requires.holding.few) in
    rw (set.roots_are, set.labels_are, set.heads_are, set.beginnings_are, ← head_at cells least, ← label_at cells least)
    (takes_next k (rw (← root_at c.args.self.now.cells c.in_ok-least.least, ← head_at c.args.self.now.cells c.in_ok-least.least) at
    c.in-Some.ensures) (rw set.heads_are at c.insert.ensures))
