-- `sound_field::next_end` meets its contract.
use Rattle.sound_field.proofs.Noted.{far_on, far_here}
use Rattle.sound_field.proofs.next_end.Goals as goal

pub returns-then-next-eq0 : goal.returns-then-next-eq0
returns-then-next-eq0 c =
    far_here c.requires.0 (rw c.word.ensures at c.word_of-next.ensures) c.if-next-eq0.true

pub returns : goal.returns
returns c =
    rw c.on.ensures (far_on c.requires.0 (rw c.word.ensures at c.word_of-next.ensures) c.if-next-eq0.false c.requires.1)
