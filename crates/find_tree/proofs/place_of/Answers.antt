-- place_of meets its contract: what the tree at hand says is what the whole says.
use Rattle.find_tree.proofs.Branches.{sides_earlier}
use Rattle.find_tree.proofs.Placed.{search_left, search_right, search_here, search_none}
use native.Mathlib.Omega.{arith}
use Rattle.find_tree.proofs.place_of.Goals as goal

pub loop-link-smaller-in-Less : goal.loop-link-smaller-in-Less
loop-link-smaller-in-Less c =
    omega (arith, c.left_of-link.ensures, sides_earlier c.loop-link.invariant.any c.loop-link-test.true)

pub loop-link-preserved-in-Less : goal.loop-link-preserved-in-Less
loop-link-preserved-in-Less c =
    search_left c.loop-link.invariant c.loop-link-test.true (rw c.in-Less.is at c.key_order.ensures)
    c.left_of-link.ensures

pub returns-in-Equal : goal.returns-in-Equal
returns-in-Equal c =
    search_here c.loop-link.invariant c.loop-link-test.true (rw c.in-Equal.is at c.key_order.ensures)

pub loop-link-smaller : goal.loop-link-smaller
loop-link-smaller c =
    omega (arith, c.right_of-link.ensures, sides_earlier c.loop-link.invariant.any c.loop-link-test.true)

pub loop-link-preserved : goal.loop-link-preserved
loop-link-preserved c =
    search_right c.loop-link.invariant c.loop-link-test.true (rw c.in-Greater.is at c.key_order.ensures)
    c.right_of-link.ensures

pub returns : goal.returns
returns c =
    search_none c.loop-link.invariant c.loop-link-test.false
