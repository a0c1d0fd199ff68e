-- `memory_access::row_of` meets its contract. The loop's invariant: the first words are copied.
use mathlib.Core.Path.{refl}
use Rattle.memory.proofs.RecordAt.{record_length, copied_more, copied_all}
use native.Mathlib.Omega.{arith}
use Rattle.memory_access.proofs.row_of.Goals as goal

pub loop-i-init : goal.loop-i-init
loop-i-init c =
    record { below = omega arith; size = refl; same = refl }

pub loop-i-preserved : goal.loop-i-preserved
loop-i-preserved c =
    copied_more (record_length c.args.words.now c.args.link (omega arith) (omega arith)) (omega arith) c.word_of.ensures
    c.loop-i.invariant

pub returns : goal.returns
returns c =
    copied_all (record_length c.args.words.now c.args.link (omega arith) (omega arith))
    c.loop-i.invariant (omega arith)
