-- all_allowed meets its contract: the bytes before b are tested.
use native.Mathlib.Omega.{arith}
use Rattle.text.proofs.Texts.{pass_byte, pass_end}
use Rattle.text_query.proofs.all_allowed.Goals as goal

pub loop-b-preserved : goal.loop-b-preserved
loop-b-preserved c =
    pass_byte c.loop-b.invariant (omega arith) c.allowed-ok.ensures

pub returns : goal.returns
returns c =
    pass_end c.loop-b.invariant (omega arith)
