-- least_of meets its contract: the tree at hand and what is found say what the whole tree says.
use native.Mathlib.Omega.{arith}
use Rattle.find_tree.proofs.Branches.{sides_earlier}
use Rattle.find_tree.proofs.Links.{branches_none}
use Rattle.match_next.proofs.Least.{seek_end, least_left}
use Rattle.match_next.proofs.least_of.Goals as goal

pub loop-at-smaller : goal.loop-at-smaller
loop-at-smaller c =
    omega (arith, c.left_of-at.ensures, sides_earlier c.loop-at.invariant.any c.loop-at-test.true)

pub loop-at-preserved : goal.loop-at-preserved
loop-at-preserved c =
    least_left c.loop-at.invariant c.loop-at-test.true c.left_of-at.ensures

pub returns : goal.returns
returns c =
    seek_end c.loop-at.invariant (branches_none c.args.words.now) c.loop-at-test.false
