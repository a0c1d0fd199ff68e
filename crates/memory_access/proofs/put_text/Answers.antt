-- `memory_access::put_text` meets its contract. The loop's invariant: the first bytes are put.
use native.Mathlib.Omega.{arith}
use Rattle.memory.specs.Grown.{put_text}
use Rattle.memory.proofs.Pasted.{pasting_none, pasting_more, pasting_done}
use Rattle.memory_access.proofs.put_text.Goals as goal

pub loop-i-init : goal.loop-i-init
unfolding put_text
loop-i-init c =
    pasting_none _ _ _ _

pub loop-i-preserved : goal.loop-i-preserved
unfolding put_text
loop-i-preserved c =
    pasting_more (omega arith) c.requires (omega arith) c.loop-i.invariant

pub returns : goal.returns
unfolding put_text
returns c =
    pasting_done c.loop-i.invariant (omega arith)
