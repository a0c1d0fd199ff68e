-- The table that lent bytes stand for.
use Rattle.std.specs.Prelude.{◌≡◌, ℕ, List, length}
use Rattle.screen_memory.specs.Memory.{state_bytes, header_in, words_in}
use Rattle.table.specs.declared.Table.{Table}
use Rattle.table.specs.Header.{IsSound}

-- The table that a state spells.
abbrev pub table_at : List ℕ → Table
table_at st = record { header = header_in st }

-- The lent bytes are a sound table: a state of sixteen bytes, and the memory of the requirements.
pub record SoundBytes (st bs txt : List ℕ) : Type 0 where
  pub size : length st ≡ state_bytes
  pub sound : IsSound (words_in bs) txt (table_at st)
