-- `sound::note` meets its contract.
use Rattle.sound_field.proofs.Noted.{can_note_on}
use Rattle.sound.proofs.note.Goals as goal

pub next_end-requires : goal.next_end-requires
next_end-requires c =
    (can_note_on c.requires, c.if-at-notes.true)

pub next_end-requires-then-at-notes : goal.next_end-requires-then-at-notes
next_end-requires-then-at-notes c =
    (can_note_on c.requires, c.if-at-notes.true)
