-- A line struct: what a row gives, and what line record it is.
use Rattle.std.specs.Prelude.{ℕ, zero, suc, List, set}
use Rattle.std.proofs.Math.Option.{Option, none, some}
use Rattle.source.specs.Calls.{LineRecord}
use Rattle.memory.specs.Layout.{Which, Item}
use Rattle.listing_ask.specs.Ask.{asked}
use Rattle.listing_ask.specs.declared.Ask.{Ask}
use Rattle.listing_row.specs.Rows.{words_at, row_in, item_seen}
use Rattle.listing_row.specs.declared.Row.{Row}
use Rattle.table_count.specs.MatchLength.{held_length}
use Rattle.table_typed.specs.declared.Line.{Line}

-- ---- From rows

-- The line that a row is.
abbrev pub line_of_row : Row → Line
line_of_row r = record {
  match_length = held_length r.matched;
  item = r.item;
  candidate = r.candidate;
  annotation = r.annotation;
}

-- Line k of the bytes.
unfoldable pub line_at : Ask → List ℕ → ℕ → Line
line_at ask flat k = line_of_row (row_in (asked ask) (words_at flat k))

-- The first n lines of f, stored from the start of ls.
abbrev pub stored_lines : (ℕ → Line) → List Line → ℕ → List Line
stored_lines f ls zero = ls
stored_lines f ls (suc n) = set (stored_lines f ls n) n (f n)

-- ---- To line records

-- The line record of a line with this item.
abbrev pub record_with : {A : Type 0} → Line → Option A → Option (LineRecord A)
record_with ln none = none
record_with ln (some a) = some (record {
  match_length = ln.match_length;
  item_of = a;
  candidate = record { start = ln.candidate.start; len = ln.candidate.len };
  annotation = record { start = ln.annotation.start; len = ln.annotation.len };
})

-- The line record that a line is, its item's texts in the table's text; none where it has an item of the other table.
abbrev pub record_seen : (w : Which) → List ℕ → Line → Option (LineRecord (Item w))
record_seen w txt ln = record_with ln (item_seen w txt ln.item)
