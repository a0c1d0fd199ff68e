-- A table in memory, by its header: what a sound one is, and the source's table that it reads as.
use Rattle.std.specs.Prelude.{ℕ, ◌+◌, ◌*◌, List, take}
use Rattle.source.specs.Limits.{record_words}
use Rattle.source.specs.Table.{Table}
use Rattle.source.specs.Calls.{State}
use Rattle.memory.specs.Layout.{Which, names, modules, trieˢ, kind, what}
use Rattle.memory.specs.Sound.{LinkOk, Used}
use Rattle.memory_table.specs.declared.Header.{Header}

-- A root of the header.
abbrev pub root_at : Which → Header → ℕ
root_at names h = h.names
root_at modules h = h.modules

-- A sound table: its used records are right, and its roots are tries or none.
pub record Sound (ws txt : List ℕ) (h : Header) : Type 0 where
  pub right : Used ws txt h.records h.text
  pub names_link : LinkOk ws (h.records + 1) h.names (kind names trieˢ)
  pub modules_link : LinkOk ws (h.records + 1) h.modules (kind modules trieˢ)

-- The words of its used records, and its used text.
abbrev pub used_words : List ℕ → Header → List ℕ
used_words ws h = take (h.records * record_words) ws

abbrev pub used_text : List ℕ → Header → List ℕ
used_text txt h = take h.text txt

-- The source's table, by the header.
abbrev pub table_of : List ℕ → List ℕ → Header → Table
table_of ws txt h =
    record { tbl_lids = what names ws txt h.names trieˢ; tbl_mods = what modules ws txt h.modules trieˢ }

-- The table by value, as the source's table and what is used.
abbrev pub state_of : List ℕ → List ℕ → Header → State
state_of ws txt h = record { table = table_of ws txt h; records_used = h.records; text_used = h.text }
