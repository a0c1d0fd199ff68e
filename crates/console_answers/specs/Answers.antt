-- What an answer leaves: the table, everything lent, and the reply. Between lines the lent output (flat, pane) is scratch: a completion
-- writes its lines there (table's `Completes`) and they are read back at once; nothing is read that an earlier line left there.
use Rattle.std.specs.Prelude.{ℕ, ◌-◌, ◌*◌, ◌≤◌, ◌≡◌, List, length, take, drop}
use Rattle.source.specs.Limits.{record_words}
use Rattle.source.specs.Shared.{Allˡ}
use Rattle.text.specs.Laid.{Laid}
use Rattle.script_decimal.specs.Bytes.{Str, All}
use Rattle.script.specs.Script.{ask, Reads}
use Rattle.script.specs.declared.Question.{Question}
use Rattle.script_decimal.specs.declared.Sort.TheVariants.{Line}
use Rattle.listing.specs.Completes.{output}
use Rattle.table.specs.Header.{IsSound, state, lent}
use Rattle.source.specs.Lent.{Outside}
use Rattle.table.specs.Registrations.{Unchanged}
use Rattle.table.specs.declared.Table.{Table}
use Rattle.console_registrations.specs.declared.Done.{Done}
use Rattle.console_questions.specs.Left.{OutputKept, OutputLeft}
use Rattle.console_answers.specs.Outcomes.{NoneAccepted, NoCompletion, Replied, Session, unlines}
use Rattle.console_answers.specs.declared.AfterLines.{AfterLines}

-- What a line that asks leaves of the lent output.
abbrev pub AsksLeave : (ws txt : List ℕ) (tab : Table) (flat flat' pane pane' : List ℕ) → Str → Type 0
AsksLeave ws txt tab flat flat' pane pane' line =
    (what : Question) (q : Str) → Reads line (ask what q) → OutputLeft ws txt tab q flat flat' pane pane' what

-- The answer r to a line: the outcome that it must have, its reply in the reply text from at on and its table in what is lent, of
-- which only the free part that was taken has changed. The table is sound. Where nothing is registered, header, words and text are as
-- they were; where no completion is asked for, the lent output is.
pub record Answered (ws txt ws' txt' : List ℕ) (tab : Table) (line : Str) (flat flat' pane pane' reply reply' : List ℕ)
    (at : ℕ) (r : Done) : Type 0 where
  pub text : Str
  pub replied : Replied (lent ws txt) (output flat pane) (state ws txt tab) line
      (record { text = text; after = state ws' txt' r.table })
  pub laid : Laid reply reply' at r.end text
  pub sound : IsSound ws' txt' r.table
  pub words : Outside (tab.header.records * record_words) (r.table.header.records * record_words) ws ws'
  pub texts : Outside tab.header.text r.table.header.text txt txt'
  pub grows : (tab.header.records ≤ r.table.header.records) × (tab.header.text ≤ r.table.header.text)
  pub still : NoneAccepted (lent ws txt) (state ws txt tab) line → Unchanged ws txt ws' txt' tab r.table
  pub asks : AsksLeave ws txt tab flat flat' pane pane' line
  pub quiet : NoCompletion line → OutputKept flat flat' pane pane'

-- The answer r to the lines of an input from a place on, up to another: their session, its replies at the start of the reply text,
-- which is as it was past them. Of words and text only the free part that was taken has changed; where no line registers, nothing of
-- them or of the header. Where no line asks for a completion, the lent output is as it was. It stops where no line feed is left, or
-- where the reply text is too full for one more.
pub record Talked (ws txt ws' txt' : List ℕ) (tab : Table) (input : Str) (from : ℕ)
    (flat flat' pane pane' reply reply' : List ℕ) (r : AfterLines) : Type 0 where
  pub lines : List Str
  pub each : Allˡ (All Line) lines
  pub cut : take (r.next - from) (drop from input) ≡ unlines lines
  pub text : Str
  pub session : Session (lent ws txt) (output flat pane) (state ws txt tab) lines text (state ws' txt' r.table)
  pub laid : Laid reply reply' 0 r.end text
  pub sound : IsSound ws' txt' r.table
  pub words : Outside (tab.header.records * record_words) (r.table.header.records * record_words) ws ws'
  pub texts : Outside tab.header.text r.table.header.text txt txt'
  pub still : Allˡ (NoneAccepted (lent ws txt) (state ws txt tab)) lines → Unchanged ws txt ws' txt' tab r.table
  pub quiet : Allˡ NoCompletion lines → OutputKept flat flat' pane pane'
  pub next_fits : (from ≤ r.next) × (r.next ≤ length input)
  pub goes_on : r.next ≡ from → (r.end ≡ 0) × All Line (drop from input)
