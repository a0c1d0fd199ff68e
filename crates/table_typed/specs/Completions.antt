-- What the typed completion hands back, and what it leaves of the lent output.
use Rattle.std.specs.Prelude.{ℕ, ◌*◌, ◌/◌, ◌≤◌, min, ◌≡◌, Bool, List, map, length, take, drop}
use Rattle.std.proofs.Math.Option.{some}
use Rattle.source.specs.Text.{Str}
use Rattle.source.specs.Table as S
use Rattle.source.specs.Calls as C
use Rattle.source.specs.Calls.{Output, output_lines}
use Rattle.source.specs.Shared.{Allˡ}
use Rattle.memory.specs.Layout as L
use Rattle.memory.specs.Sound.{Says}
use Rattle.memory_table.specs.Table.{used_words, used_text}
use Rattle.listing_ask.specs.Ask.{asked}
use Rattle.listing_output.specs.Output.{line_bytes}
use Rattle.listing_ask.specs.declared.Ask.{Ask}
use Rattle.listing_row.specs.Rows.{ItemInside}
use Rattle.table.specs.Header.{IsSound, table_in}
use Rattle.listing.specs.Completes.{CompletesAs}
use Rattle.table.specs.Completions.{completion}
use Rattle.table.specs.declared.Table.{Table}
use Rattle.listing_ask.specs.declared.Request.{Request}
use Rattle.table_typed.specs.declared.Line.{Line}
use Rattle.table_count.specs.LinesIn.{lines_in}
use Rattle.table_typed.specs.Lines.{record_seen}
use Rattle.listing.specs.declared.Listed.{Listed}
use Rattle.table.specs.declared.Answer.{Answer}

-- The output lent: a line takes a line struct and 48 bytes; lines and bytes past those that 32 bits count are not lent.
abbrev pub output : (room : ℕ) (flat out : List ℕ) → Output
output room flat out =
    record { lines = min (min (length flat / line_bytes) room) 4294967295; text = min (length out) 4294967295 }

-- The lines stand in the first line structs, their items' texts in the table's text, and the structs after are as they were.
pub record Shown (w : L.Which) (txt : List ℕ) (ls ls' : List Line) (lines : List (S.Line (L.Item w))) : Type 0 where
  pub first : map (record_seen w txt) (take (length lines) ls') ≡ map some (output_lines 0 lines)
  pub inside : Allˡ (λ ln. ItemInside (length txt) ln.item) (take (length lines) ls')
  pub after : drop (length lines) ls' ≡ drop (length lines) ls

-- By the requirements' answer: listed, the lines are shown; refused, no line has changed.
abbrev pub ShownAs : (ask : Ask) (txt : List ℕ) (ls ls' : List Line) → C.Completed (L.Item (asked ask)) → Type 0
ShownAs ask txt ls ls' (C.listed lines entered) = Shown (asked ask) txt ls ls' lines
ShownAs ask txt ls ls' (C.refused n) = ls' ≡ ls

module _ (ws txt : List ℕ) (tab : Table) (q : Request) (query : Str) where
  -- The requirements' answer; b says whether the memory is sound.
  abbrev pub answer : (b : Bool) → Output → C.Completed (L.Item (asked q.ask))
  answer b out = completion b (table_in ws txt tab) q.ask q.budget out query

  -- The completion into bytes, lent for at most so many lines; the table comes back as it was.
  pub record FlatCompletes (room : ℕ) (flat flat' out out' : List ℕ) (r : Answer Listed) : Type 0 where
    pub table : r.table ≡ tab
    pub says : (b : Bool) → Says b (IsSound ws txt tab)
        → CompletesAs q.ask (used_words ws tab.header) (used_text txt tab.header) flat flat' out out'
        r.answer
        (answer b (output room flat out))
    pub fit : lines_in r.answer ≤ room
    pub lent : lines_in r.answer * line_bytes ≤ length flat

  -- The completion into line structs: as into bytes (roots' CompletesAs), and the lines are shown, their items' texts in the used text.
  pub record CompletesLines (ls ls' : List Line) (flat flat' out out' : List ℕ) (r : Answer Listed) : Type 0 where
    pub table : r.table ≡ tab
    pub says : (b : Bool) → Says b (IsSound ws txt tab)
        → CompletesAs q.ask (used_words ws tab.header) (used_text txt tab.header) flat flat' out out'
        r.answer
        (answer b (output (length ls) flat out))
    pub shows : (b : Bool) → Says b (IsSound ws txt tab)
        → ShownAs q.ask (used_text txt tab.header) ls ls' (answer b (output (length ls) flat out))
