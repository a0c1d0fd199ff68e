-- What holds between reads.
use Rattle.std.specs.Prelude.{ℕ, ◌≤◌, ◌≡◌, List, take, Result, OnOk}
use Rattle.source.specs.Calls.{Output}
use Rattle.script_decimal.specs.Bytes.{All}
use Rattle.script_decimal.specs.declared.Sort.TheVariants.{Line}
use Rattle.listing.specs.Completes.{output}
use Rattle.table.specs.Header.{IsSound}
use Rattle.console_registrations.specs.declared.Done.{Done}
use Rattle.console_backlog.specs.Moves.{bytes_kept}
use Rattle.console_feed.specs.Feed.{pending, Inside, Feeds, Ends}
use Rattle.console_feed.specs.Run.{Program}
use Rattle.console_feed.specs.declared.Feed.{Feed}
use Rattle.console_feed.specs.declared.Progress.{Progress}
use Rattle.console_streams.specs.Put.{Put}
use Rattle.console.specs.declared.AfterRead.{AfterRead}

-- Steps of the program, one after another, as feed's `Run` has them.
pub data Steps (out : Output) (p : Program) : Program → Type 0 where
  none : Steps out p p
  more : {q : Program} {ws txt input flat flat' pane pane' reply reply' : List ℕ} {r : Progress} → Steps out p q
      → out ≡ output flat pane
      → Feeds q.words q.text ws txt q.feed q.input input flat flat' pane pane' reply reply' r
      → Steps out p (record { words = ws; text = txt; input = input; feed = r.feed })

-- Steps were made. The table is sound, and what is left lies in the input; after all replies no whole line is left, and the rest
-- stands at its start and leaves room for a read.
pub record Rests (ws txt ws' txt' input input' : List ℕ) (out : Output) (f : Feed) (r : AfterRead) : Type 0 where
  pub steps : Steps out (record { words = ws; text = txt; input = input; feed = f })
      (record { words = ws'; text = txt'; input = input'; feed = r.feed })
  pub sound : IsSound ws' txt' r.feed.table
  pub inside : Inside r.feed input'
  pub short : OnOk r.written ((r.feed.from ≡ 0) × (r.feed.have ≤ bytes_kept) × All Line (pending r.feed input'))

-- The end of the input is answered; of the writing of its reply no more is known than `Put` says.
pub record Closes {T E : Type 0} (ws txt ws' txt' : List ℕ) (f : Feed)
    (input flat flat' pane pane' reply reply' : List ℕ) (r : Result T E) : Type 0 where
  pub done : Done
  pub ends : Ends ws txt ws' txt' f input flat flat' pane pane' reply reply' done
  pub written : Put (take done.end reply') r
