-- The notes of a pass: at its start, at a record, and after it.
use Prim.Native.Nat.{ℕ, ◌+◌}
use mathlib.Core.Path.{◌∙◌}
use mathlib.Core.List.{List}
use Rattle.sound_field.specs.declared.Ends.{Ends}
use Rattle.sound.specs.Notes.{NotesOn}

pub notes_next : {ws : List ℕ} {notes notes' notes'' : List Ends} {l : ℕ} → NotesOn ws l notes notes'
    → NotesOn ws (l + 1) notes' notes'' → NotesOn ws (l + 1) notes notes''
notes_next n m = record { size = m.size ∙ n.size; noted = m.noted }
