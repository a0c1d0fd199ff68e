-- `sound_field::end_of` meets its contract. The loop's invariant: the end of what is left is the end of the whole.
use native.Mathlib.Omega.{arith}
use Rattle.sound_field.proofs.Noted.{going_start, going_less, going_on, going_end, going_noted}
use Rattle.sound_field.proofs.end_of.Goals as goal

pub loop-x-init : goal.loop-x-init
loop-x-init c =
    going_start c.requires

pub returns-then-next-eq0 : goal.returns-then-next-eq0
returns-then-next-eq0 c =
    going_end c.requires c.loop-x.invariant (rw c.word.ensures at c.word_of-next.ensures)
    c.if-next-eq0.true

pub loop-x-smaller : goal.loop-x-smaller
loop-x-smaller c =
    going_less c.requires c.loop-x.invariant (rw c.word.ensures at c.word_of-next.ensures)

pub loop-x-preserved : goal.loop-x-preserved
loop-x-preserved c =
    going_on c.requires c.loop-x.invariant (rw c.word.ensures at c.word_of-next.ensures) c.if-next-eq0.false

pub returns : goal.returns
returns c =
    rw c.on.ensures (going_noted c.requires c.loop-x.invariant (omega arith))
