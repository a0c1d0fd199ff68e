-- note_path meets its contract: what is noted leads from the root to the link at hand.
use Rattle.find_tree.proofs.Branches.{tree_fits, sides_earlier}
use Rattle.insert_tree.proofs.Marked.{some_count, mark_all, mark_tree, mark_fits, left_room, right_room, mark_left, mark_right, mark_here}
use Rattle.insert_tree.proofs.Marked.{mark_none}
use native.Mathlib.Omega.{arith}
use Rattle.insert_tree.proofs.note_path.Goals as goal

pub overflow_sub-at : goal.overflow_sub-at
overflow_sub-at c =
    let pre = c.requires in
    omega (
      arith,
      some_count
          (record { any = pre.any_tree; builds = pre.builds; within = pre.root_le_records.0; room = pre.root_le_records.1; few = pre.root_le_records.2 }),
    )

pub loop-link-init : goal.loop-link-init
loop-link-init c =
    let pre = c.requires in
    mark_all (record { any = pre.any_tree; builds = pre.builds; within = pre.root_le_records.0; room = pre.root_le_records.1; few = pre.root_le_records.2 })

pub key_order-requires : goal.key_order-requires
key_order-requires c =
    (c.loop-link-test.true, mark_tree c.loop-link.invariant)

pub left_of-next-requires : goal.left_of-next-requires
left_of-next-requires c =
    omega (arith, tree_fits (mark_tree c.loop-link.invariant), c.loop-link-test.true)

pub put_note-requires : goal.put_note-requires
put_note-requires c =
    mark_fits c.loop-link.invariant

pub overflow_sub-at-in-Less : goal.overflow_sub-at-in-Less
overflow_sub-at-in-Less c =
    left_room c.loop-link.invariant c.loop-link-test.true (rw c.in-Less.is at c.key_order.ensures)

pub loop-link-smaller-in-Less : goal.loop-link-smaller-in-Less
loop-link-smaller-in-Less c =
    omega (arith, c.left_of-next.ensures, sides_earlier (mark_tree c.loop-link.invariant) c.loop-link-test.true)

pub loop-link-preserved-in-Less : goal.loop-link-preserved-in-Less
loop-link-preserved-in-Less c =
    mark_left c.loop-link.invariant c.loop-link-test.true (rw c.in-Less.is at c.key_order.ensures) c.left_of-next.ensures
    c.put_note.ensures

pub put_note-requires-in-Equal : goal.put_note-requires-in-Equal
put_note-requires-in-Equal c =
    mark_fits c.loop-link.invariant

pub returns-in-Equal : goal.returns-in-Equal
returns-in-Equal c =
    mark_here c.loop-link.invariant c.loop-link-test.true (rw c.in-Equal.is at c.key_order.ensures)
    c.put_note-in-Equal.ensures

pub right_of-next-requires : goal.right_of-next-requires
right_of-next-requires c =
    omega (arith, tree_fits (mark_tree c.loop-link.invariant), c.loop-link-test.true)

pub put_note-requires-in-Greater : goal.put_note-requires-in-Greater
put_note-requires-in-Greater c =
    mark_fits c.loop-link.invariant

pub overflow_sub-at-in-Greater : goal.overflow_sub-at-in-Greater
overflow_sub-at-in-Greater c =
    right_room c.loop-link.invariant c.loop-link-test.true (rw c.in-Greater.is at c.key_order.ensures)

pub loop-link-smaller : goal.loop-link-smaller
loop-link-smaller c =
    omega (arith, c.right_of-next.ensures, sides_earlier (mark_tree c.loop-link.invariant) c.loop-link-test.true)

pub loop-link-preserved : goal.loop-link-preserved
loop-link-preserved c =
    mark_right c.loop-link.invariant c.loop-link-test.true (rw c.in-Greater.is at c.key_order.ensures) c.right_of-next.ensures
    c.put_note-in-Greater.ensures

pub put_note-requires-2 : goal.put_note-requires-2
put_note-requires-2 c =
    mark_fits c.loop-link.invariant

pub returns : goal.returns
returns c =
    mark_none c.loop-link.invariant c.loop-link-test.false c.put_note-2.ensures
