-- What the line of a question replies, and what it leaves of the lent output (flat, pane).
use Rattle.std.specs.Prelude.{ℕ, ◌≡◌, true, List}
use Rattle.source.specs.declared.KindFilter.TheVariants.{Every}
use Rattle.text.specs.Laid.{Laid}
use Rattle.script_decimal.specs.Bytes.{Str}
use Rattle.script.specs.declared.Question.{Question}
use Rattle.script.specs.declared.Question.TheVariants.{Find, Complete, Modules}
use Rattle.listing_ask.specs.Ask.{asked}
use Rattle.listing_ask.specs.declared.Ask.{Ask}
use Rattle.listing_ask.specs.declared.Ask.TheVariants as ask
use Rattle.listing_ask.specs.declared.Filter.TheVariants.{All}
use Rattle.listing.specs.Completes.{output}
use Rattle.table.specs.Header.{table_in}
use Rattle.table.specs.Completions.{completion, Completes}
use Rattle.table.specs.declared.Table.{Table}
use Rattle.console_questions.specs.Questions.{budget, completed_text, asked_text}
use Rattle.listing.specs.declared.Listed.{Listed}
use Rattle.table.specs.declared.Answer.{Answer}

-- Both are as they were.
pub record OutputKept (flat flat' pane pane' : List ℕ) : Type 0 where
  pub flat_is : flat' ≡ flat
  pub pane_is : pane' ≡ pane

-- They are as a completion leaves them: listed, with its lines from the start on; refused, as they were.
pub record OutputListed (ws txt : List ℕ) (tab : Table) (a : Ask) (q : Str)
    (flat flat' pane pane' : List ℕ) : Type 0 where
  pub listing : Answer Listed
  pub completes : Completes ws txt tab (record { ask = a; budget = budget }) q flat flat' pane pane' listing

-- What a question leaves of them.
abbrev pub OutputLeft : (ws txt : List ℕ) (tab : Table) (q : Str) (flat flat' pane pane' : List ℕ) → Question → Type 0
OutputLeft ws txt tab q flat flat' pane pane' Find = OutputKept flat flat' pane pane'
OutputLeft ws txt tab q flat flat' pane pane' Complete =
    OutputListed ws txt tab (ask.Names Every) q flat flat' pane pane'
OutputLeft ws txt tab q flat flat' pane pane' Modules =
    OutputListed ws txt tab (ask.Modules All) q flat flat' pane pane'

-- The line of a completion: its reply stands in the reply text from at to e.
pub record CompletedLine (ws txt : List ℕ) (tab : Table) (a : Ask) (q : Str)
    (flat flat' pane pane' reply reply' : List ℕ) (at e : ℕ) : Type 0 where
  pub laid : Laid reply reply' at e
      (completed_text (asked a) (completion true (table_in ws txt tab) a budget (output flat pane) q))
  pub lists : OutputListed ws txt tab a q flat flat' pane pane'

-- The line of a question.
pub record AskedLine (ws txt : List ℕ) (tab : Table) (what : Question) (q : Str)
    (flat flat' pane pane' reply reply' : List ℕ) (at e : ℕ) : Type 0 where
  pub laid : Laid reply reply' at e (asked_text (output flat pane) (table_in ws txt tab) what q)
  pub leaves : OutputLeft ws txt tab q flat flat' pane pane' what
