-- `sound::pass` meets its contract. The loop's invariant: the records before the link are right, and noted.
use Rattle.sound.specs.Notes.{NotesOn}
use Rattle.sound.proofs.Rows.{Rows}
use Rattle.sound.proofs.pass.Given as goal

abbrev pub invariant-loop-link : goal.invariant-loop-link
invariant-loop-link l =
    Rows l.words l.text l.used l.link × NotesOn l.words l.link l.initial.notes l.notes
