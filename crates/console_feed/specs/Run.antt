-- A whole run of the program: reads and steps in any order, then the end; and the lines of an input.
use Rattle.std.specs.Prelude.{ℕ, ◌+◌, ◌≤◌, ◌≡◌, List, [], ◌∷◌, ◌++◌, eqb, length, take, drop}
use Rattle.source.specs.Calls.{Output, State}
use Rattle.memory.specs.Layout.{pick}
use Rattle.script_decimal.specs.Bytes.{Str, ◌·◌, All}
use Rattle.script_decimal.specs.declared.Sort.TheVariants.{Line}
use Rattle.listing.specs.Completes.{output}
use Rattle.table.specs.Header.{state}
use Rattle.console_registrations.specs.declared.Done.{Done}
use Rattle.console_backlog.specs.LastLine.{last_line}
use Rattle.console_feed.specs.Feed.{pending, Inside, Feeds, Ends}
use Rattle.console_feed.specs.declared.Feed.{Feed}
use Rattle.console_feed.specs.declared.Progress.{Progress}

-- ---- The lines of an input: each ends in a line feed, which the last one may lack

-- Those after the start of a line.
unfoldable pub lines_after : Str → Str → List Str
lines_after line [] = last_line line
lines_after line (b ∷ s) = pick (eqb b 10) (line ∷ lines_after [] s) (lines_after (line ++ (b ∷ [])) s)

abbrev pub lines_of : Str → List Str
lines_of input = lines_after [] input

-- ---- A run

-- What the program holds.
pub record Program : Type 0 where
  pub words : List ℕ
  pub text : List ℕ
  pub input : List ℕ
  pub feed : Feed

-- More bytes stand after those that it has.
abbrev pub fed : Program → (input : List ℕ) → ℕ → Program
fed p input n = record {
  words = p.words;
  text = p.text;
  input = input;
  feed = record { table = p.feed.table; from = p.feed.from; have = p.feed.have + n };
}

-- From what it holds: the bytes of each read to come, what is handed to the writes to come put together, and the table after.
-- As much output is lent to each step.
pub data Run (out : Output) : Program → List Str → Str → State → Type 0 where
  read : {p : Program} {reads : List Str} {written : Str} {σ : State} (input : List ℕ) (n : ℕ)
      → Inside p.feed p.input
      → take p.feed.have input ≡ take p.feed.have p.input → p.feed.have + n ≤ length input
      → Run out (fed p input n) reads written σ → Run out p (take n (drop p.feed.have input) ∷ reads) written σ
  step : {p : Program} {reads : List Str} {written : Str} {σ : State} {ws txt input reply reply' : List ℕ}
      {flat flat' pane pane' : List ℕ} {r : Progress} → out ≡ output flat pane
      → Feeds p.words p.text ws txt p.feed p.input input flat flat' pane pane' reply reply' r
      → Run out (record { words = ws; text = txt; input = input; feed = r.feed }) reads written σ
      → Run out p reads (take r.end reply' · written) σ
  end : {p : Program} {ws txt flat flat' pane pane' reply reply' : List ℕ} {r : Done}
      → All Line (pending p.feed p.input) → out ≡ output flat pane
      → Ends p.words p.text ws txt p.feed p.input flat flat' pane pane' reply reply' r
      → Run out p [] (take r.end reply') (state ws txt r.table)

-- Texts one after another.
unfoldable pub joined : List Str → Str
joined [] = []
joined (s ∷ ss) = s · joined ss
