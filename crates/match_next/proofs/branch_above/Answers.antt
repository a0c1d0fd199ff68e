-- branch_above meets its contract: the tree at hand has the branch, and with what is found says what the whole tree says.
use mathlib.Core.Path.{sym, ◌∙◌}
use native.Mathlib.Omega.{arith}
use Rattle.find_tree.proofs.Branches.{tree_fits, sides_earlier}
use Rattle.match_next.proofs.Least.{near_some, near_left, near_right, near_end}
use Rattle.match_next.proofs.branch_above.Goals as goal

pub left_of-link-requires : goal.left_of-link-requires
left_of-link-requires c =
    (near_some c.loop-link.invariant, tree_fits c.loop-link.invariant.seeking.any)

pub loop-link-smaller-then-is_left : goal.loop-link-smaller-then-is_left
loop-link-smaller-then-is_left c =
    let inv = c.loop-link.invariant in omega (arith, c.left_of-link.ensures, sides_earlier inv.seeking.any (near_some inv))

pub loop-link-preserved-then-is_left : goal.loop-link-preserved-then-is_left
loop-link-preserved-then-is_left c =
    near_left c.loop-link.invariant c.loop-link-test.true (sym c.is_left.ensures ∙ c.if-is_left.true) c.left_of-link.ensures

pub right_of-link-requires : goal.right_of-link-requires
right_of-link-requires c =
    (near_some c.loop-link.invariant, tree_fits c.loop-link.invariant.seeking.any)

pub loop-link-smaller : goal.loop-link-smaller
loop-link-smaller c =
    let inv = c.loop-link.invariant in omega (arith, c.right_of-link.ensures, sides_earlier inv.seeking.any (near_some inv))

pub loop-link-preserved : goal.loop-link-preserved
loop-link-preserved c =
    near_right c.loop-link.invariant c.loop-link-test.true (sym c.is_left.ensures ∙ c.if-is_left.false) c.right_of-link.ensures

pub returns : goal.returns
returns c =
    near_end (rw c.loop-link-test.false at c.loop-link.invariant) c.requires.at_value
