-- What the program holds between reads, and what a step and the end of the input do.
use Rattle.std.specs.Prelude.{ℕ, ◌*◌, ◌<◌, ◌≤◌, ◌≡◌, true, false, List, length, take, drop}
use Rattle.source.specs.Limits.{record_words}
use Rattle.source.specs.Shared.{Allˡ}
use Rattle.text.specs.Laid.{Laid}
use Rattle.script_decimal.specs.Bytes.{Str, ◌·◌, All}
use Rattle.script_decimal.specs.declared.Sort.TheVariants.{Line}
use Rattle.listing.specs.Completes.{output}
use Rattle.table.specs.Header.{IsSound, state, lent}
use Rattle.table.specs.Registrations.{Unchanged}
use Rattle.source.specs.Lent.{Outside}
use Rattle.console_registrations.specs.declared.Done.{Done}
use Rattle.console_backlog.specs.Moves.{bytes_kept}
use Rattle.console_backlog.specs.LastLine.{last_line}
use Rattle.console_questions.specs.Left.{OutputKept}
use Rattle.console_answers.specs.Outcomes.{NoneAccepted, NoCompletion, Session, unlines}
use Rattle.console_answers.specs.Answers.{AsksLeave}
use Rattle.console_feed.specs.declared.Feed.{Feed}
use Rattle.console_feed.specs.declared.Progress.{Progress}

-- The bytes that are not answered yet.
abbrev pub pending : Feed → List ℕ → Str
pending f input = drop f.from (take f.have input)

-- They lie in the input text.
pub record Inside (f : Feed) (input : List ℕ) : Type 0 where
  pub started : f.from ≤ f.have
  pub ended : f.have ≤ length input

-- What is kept of bytes: all, or of a line's start as many as make it too long.
pub data Kept : Str → Str → Type 0 where
  whole : {s : Str} → Kept s s
  start : {s : Str} → All Line s → Kept s (take bytes_kept s)

-- A step: the session of some whole lines, its replies at the start of the reply text, and what follows them kept; the input past
-- that is as it was. Where no line registers, header, words and text are; where none asks for a completion, the lent output is.
pub record Feeds (ws txt ws' txt' : List ℕ) (f : Feed) (input input' flat flat' pane pane' reply reply' : List ℕ)
    (r : Progress) : Type 0 where
  pub lines : List Str
  pub each : Allˡ (All Line) lines
  pub rest : Str
  pub cut : pending f input ≡ unlines lines · rest
  pub text : Str
  pub session : Session (lent ws txt) (output flat pane) (state ws txt f.table) lines text
      (state ws' txt' r.feed.table)
  pub laid : Laid reply reply' 0 r.end text
  pub kept : Kept rest (pending r.feed input')
  pub sound : IsSound ws' txt' r.feed.table
  pub words : Outside (f.table.header.records * record_words) (r.feed.table.header.records * record_words) ws ws'
  pub texts : Outside f.table.header.text r.feed.table.header.text txt txt'
  pub still : Allˡ (NoneAccepted (lent ws txt) (state ws txt f.table)) lines
      → Unchanged ws txt ws' txt' f.table r.feed.table
  pub quiet : Allˡ NoCompletion lines → OutputKept flat flat' pane pane'
  pub inside : Inside r.feed input'
  pub past : drop r.feed.have input' ≡ drop r.feed.have input
  pub goes_on : r.more ≡ true → (f.from < r.feed.from) × (r.feed.have ≡ f.have) × (input' ≡ input)
  pub stops : r.more ≡ false → (r.feed.from ≡ 0) × (r.feed.have ≤ bytes_kept) × All Line (pending r.feed input')

-- The end of the input: the session of what is left, as a line, and what it leaves.
pub record Ends (ws txt ws' txt' : List ℕ) (f : Feed) (input flat flat' pane pane' reply reply' : List ℕ)
    (r : Done) : Type 0 where
  pub text : Str
  pub session : Session (lent ws txt) (output flat pane) (state ws txt f.table) (last_line (pending f input)) text
      (state ws' txt' r.table)
  pub laid : Laid reply reply' 0 r.end text
  pub sound : IsSound ws' txt' r.table
  pub words : Outside (f.table.header.records * record_words) (r.table.header.records * record_words) ws ws'
  pub texts : Outside f.table.header.text r.table.header.text txt txt'
  pub still : Allˡ (NoneAccepted (lent ws txt) (state ws txt f.table)) (last_line (pending f input))
      → Unchanged ws txt ws' txt' f.table r.table
  pub asks : Allˡ (AsksLeave ws txt f.table flat flat' pane pane') (last_line (pending f input))
  pub quiet : Allˡ NoCompletion (last_line (pending f input)) → OutputKept flat flat' pane pane'
