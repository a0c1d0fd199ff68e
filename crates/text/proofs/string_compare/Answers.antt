-- string_compare meets its contract: what is left from i on says how the whole compares.
use native.Mathlib.Omega.{arith}
use Rattle.text.proofs.Texts.{order_is, bytes_same, bytes_differ, compares_ended}
use Rattle.text.proofs.string_compare.Goals as goal

pub returns-then-a-i : goal.returns-then-a-i
returns-then-a-i c =
    bytes_differ c.loop-i.invariant (omega arith) (omega arith) c.if-a-i.true _ (order_is _ _ _ c.cmp.ensures)

pub loop-i-preserved : goal.loop-i-preserved
loop-i-preserved c =
    bytes_same c.loop-i.invariant (omega arith) (omega arith) (omega arith)

pub returns : goal.returns
returns c =
    compares_ended c.loop-i.invariant _ c.min-n.ensures (omega arith) _ (order_is _ _ _ c.cmp-2.ensures)
