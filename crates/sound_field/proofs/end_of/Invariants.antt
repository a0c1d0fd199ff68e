-- `sound_field::end_of` meets its contract. The loop's invariant: the end of what is left is the end of the whole.
use Rattle.sound_field.specs.Fields.{link_word}
use Rattle.sound_field.proofs.Noted.{Going}
use Rattle.sound_field.proofs.end_of.Given as goal

abbrev pub invariant-loop-x : goal.invariant-loop-x
invariant-loop-x l =
    Going l.words (link_word l.side) l.from l.x

abbrev pub decreases-loop-x : goal.decreases-loop-x
decreases-loop-x l =
    l.x
