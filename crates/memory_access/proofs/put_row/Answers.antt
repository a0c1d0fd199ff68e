-- `memory_access::put_row` meets its contract. The loop's invariant: the first words are put.
use native.Mathlib.Omega.{arith}
use Rattle.memory.specs.Grown.{put}
use Rattle.memory.proofs.Pasted.{pasting_none, pasting_more, pasting_done}
use Rattle.memory_access.proofs.put_row.Goals as goal

pub overflow_mul-base : goal.overflow_mul-base
unfolding put
overflow_mul-base c =
    omega arith

pub loop-i-init : goal.loop-i-init
unfolding put
loop-i-init c =
    pasting_none _ _ _ _

pub loop-i-preserved : goal.loop-i-preserved
unfolding put
loop-i-preserved c =
    pasting_more (omega arith) c.requires.0 (omega arith) c.loop-i.invariant

pub returns : goal.returns
unfolding put
returns c =
    pasting_done c.loop-i.invariant (omega arith)
