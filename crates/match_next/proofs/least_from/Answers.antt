-- least_from meets its contract: the tree at hand and what is found say what the whole tree says.
use mathlib.Core.Path.{sym, ◌∙◌}
use mathlib.Core.Bool.{false}
use native.Mathlib.Omega.{arith}
use Rattle.find_tree.proofs.Branches.{sides_earlier}
use Rattle.match_next.proofs.Least.{seek_end, past_none, past_left, past_right}
use Rattle.match_next.proofs.least_from.Goals as goal

pub loop-at-smaller-then-key_past : goal.loop-at-smaller-then-key_past
loop-at-smaller-then-key_past c =
    omega (arith, c.left_of-at.ensures, sides_earlier c.loop-at.invariant.any c.loop-at-test.true)

pub loop-at-preserved-then-key_past : goal.loop-at-preserved-then-key_past
loop-at-preserved-then-key_past c =
    past_left false c.args.low.now c.loop-at.invariant c.loop-at-test.true
    (sym c.key_past.ensures ∙ c.if-key_past.true) c.left_of-at.ensures

pub loop-at-smaller : goal.loop-at-smaller
loop-at-smaller c =
    omega (arith, c.right_of-at.ensures, sides_earlier c.loop-at.invariant.any c.loop-at-test.true)

pub loop-at-preserved : goal.loop-at-preserved
loop-at-preserved c =
    past_right false c.args.low.now c.loop-at.invariant c.loop-at-test.true
    (sym c.key_past.ensures ∙ c.if-key_past.false) c.right_of-at.ensures

pub returns : goal.returns
returns c =
    let a = c.args in
    seek_end c.loop-at.invariant (past_none a.words.now a.text.now false a.low.now) c.loop-at-test.false
