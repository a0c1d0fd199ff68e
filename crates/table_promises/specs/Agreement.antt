-- Demand 3 of the calls: what a caller reads of the lines in the lent output (rows' `lines_seen`), and what it has to do with look-up.
use Rattle.std.specs.Prelude.{ℕ, ◌≡◌, List, Ok, Option}
use Rattle.source.specs.Text.{Str}
use Rattle.source.specs.Calls.{Found}
use Rattle.source.specs.Table.{ModSymbol, Line}
use Rattle.promises.specs.Agreement.{Agree, EachFound}
use Rattle.source.specs.declared.LidSymbol.{LidSymbol}
use Rattle.source.specs.declared.KindFilter.{KindFilter}
use Rattle.source.specs.declared.KindFilter.TheVariants.{Every}
use Rattle.memory.specs.Layout.{Item}
use Rattle.listing_ask.specs.Ask.{asked}
use Rattle.listing_ask.specs.declared.Ask.{Ask}
use Rattle.listing_ask.specs.declared.Ask.TheVariants.{Names, Modules}
use Rattle.listing_ask.specs.declared.Filter.{Filter}
use Rattle.listing_ask.specs.declared.Filter.TheVariants.{All}
use Rattle.listing_row.specs.Rows.{lines_seen}
use Rattle.table_roots.specs.Answers.{name_found, module_found}
use Rattle.table.specs.Answers.{Finds, FindsModule}
use Rattle.table.specs.Completions.{Completes}
use Rattle.table.specs.declared.Table.{Table}
use Rattle.listing.specs.declared.Listed.{Listed}
use Rattle.memory.specs.declared.ModSymbol.{ModSymbol as StoredSymbol}
use Rattle.table.specs.declared.Answer.{Answer}

-- What a caller holds of a look-up of a name that answered a.
pub record HoldsName (ws txt : List ℕ) (tab : Table) (name : Str) (a : Found LidSymbol) : Type 0 where
  pub reply : Answer (Option LidSymbol)
  pub finds : Finds ws txt tab name reply
  pub is : name_found reply.answer ≡ a

-- The same of a module or namespace.
pub record HoldsModule (ws txt : List ℕ) (tab : Table) (name : Str) (a : Found ModSymbol) : Type 0 where
  pub reply : Answer (Option StoredSymbol)
  pub finds : FindsModule ws txt tab name reply
  pub is : module_found txt reply.answer ≡ a

-- What a caller holds of a completion that is not refused, and the lines that it reads in the lent output.
pub record HoldsLines (ws txt : List ℕ) (tab : Table) (ask : Ask) (query : Str)
    (lines : List (Line (Item (asked ask)))) : Type 0 where
  pub budget : ℕ
  pub count : ℕ
  pub entered : ℕ
  pub flat : List ℕ
  pub flat' : List ℕ
  pub out : List ℕ
  pub out' : List ℕ
  pub reply : Answer Listed
  pub completes : Completes ws txt tab (record { ask = ask; budget = budget }) query flat flat' out out' reply
  pub listed : reply.answer ≡ Ok (record { lines = count; entered = entered })
  pub read : lines_seen (asked ask) txt flat' out' count ≡ lines

-- Whatever memory is lent, on either root: the lines that a completion of all kinds, or unfiltered, left there show what look-up answered.
pub record CallsAgree : Type 0 where
  pub names : (ws txt : List ℕ) (tab : Table) → Agree (HoldsName ws txt tab) (HoldsLines ws txt tab (Names Every))
  pub modules : (ws txt : List ℕ) (tab : Table) → Agree (HoldsModule ws txt tab) (HoldsLines ws txt tab (Modules All))

-- The other way round, of every kind and filter: each line that a completion left there is what look-up finds.
pub record CallsFound : Type 0 where
  pub names : (ws txt : List ℕ) (tab : Table) (f : KindFilter)
      → EachFound (HoldsName ws txt tab) (HoldsLines ws txt tab (Names f))
  pub modules : (ws txt : List ℕ) (tab : Table) (f : Filter)
      → EachFound (HoldsModule ws txt tab) (HoldsLines ws txt tab (Modules f))
