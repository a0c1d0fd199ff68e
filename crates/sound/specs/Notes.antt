-- The notes of a pass over the records.
use Rattle.std.specs.Prelude.{ℕ, ◌≡◌, List, length}
use Rattle.sound_field.specs.Fields.{Noted}
use Rattle.sound_field.specs.declared.Ends.{Ends}

-- The notes go on to link l.
pub record NotesOn (ws : List ℕ) (l : ℕ) (notes notes' : List Ends) : Type 0 where
  pub size : length notes' ≡ length notes
  pub noted : Noted ws l notes'
