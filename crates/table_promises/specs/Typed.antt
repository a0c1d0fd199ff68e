-- Demand 3 of the typed completion: the lines in the line structs, and what they have to do with look-up.
use Rattle.std.specs.Prelude.{ℕ, ◌≡◌, List, length, Ok}
use Rattle.source.specs.Text.{Str}
use Rattle.source.specs.Table as S
use Rattle.source.specs.Calls.{output_text}
use Rattle.promises.specs.Agreement.{Agree, EachFound}
use Rattle.source.specs.declared.KindFilter.{KindFilter}
use Rattle.source.specs.declared.KindFilter.TheVariants.{Every}
use Rattle.memory.specs.Layout as L
use Rattle.text.specs.Laid.{Laid}
use Rattle.listing_ask.specs.Ask.{asked}
use Rattle.listing_ask.specs.declared.Ask.{Ask}
use Rattle.listing_ask.specs.declared.Ask.TheVariants.{Names, Modules}
use Rattle.listing_ask.specs.declared.Filter.{Filter}
use Rattle.listing_ask.specs.declared.Filter.TheVariants.{All}
use Rattle.table.specs.declared.Table.{Table}
use Rattle.table_typed.specs.Completions.{Shown, CompletesLines}
use Rattle.table_typed.specs.declared.Line.{Line}
use Rattle.table_promises.specs.Agreement.{HoldsName, HoldsModule}
use Rattle.listing.specs.declared.Listed.{Listed}
use Rattle.table.specs.declared.Answer.{Answer}

-- The n lines stand in the first line structs, and their texts from the start of the output text on.
pub record LinesStand (w : L.Which) (txt : List ℕ) (ls ls' : List Line) (out out' : List ℕ) (n : ℕ)
    (lines : List (S.Line (L.Item w))) : Type 0 where
  pub count : n ≡ length lines
  pub shown : Shown w txt ls ls' lines
  pub texts : Laid out out' 0 (length (output_text lines)) (output_text lines)

-- What a caller holds of a typed completion that is not refused, and the lines that stand in its line structs.
pub record HoldsTyped (ws txt : List ℕ) (tab : Table) (ask : Ask) (query : Str)
    (lines : List (S.Line (L.Item (asked ask)))) : Type 0 where
  pub budget : ℕ
  pub count : ℕ
  pub entered : ℕ
  pub ls : List Line
  pub ls' : List Line
  pub flat : List ℕ
  pub flat' : List ℕ
  pub out : List ℕ
  pub out' : List ℕ
  pub reply : Answer Listed
  pub completes : CompletesLines ws txt tab
      (record { ask = ask; budget = budget }) query ls ls' flat flat' out out' reply
  pub listed : reply.answer ≡ Ok (record { lines = count; entered = entered })
  pub stand : LinesStand (asked ask) txt ls ls' out out' count lines

-- Whatever memory is lent, on either root: lines of a completion of all kinds, or unfiltered, show look-up's answer.
pub record TypedAgree : Type 0 where
  pub names : (ws txt : List ℕ) (tab : Table) → Agree (HoldsName ws txt tab) (HoldsTyped ws txt tab (Names Every))
  pub modules : (ws txt : List ℕ) (tab : Table) → Agree (HoldsModule ws txt tab) (HoldsTyped ws txt tab (Modules All))

-- The other way round, of every kind and filter: each line in the line structs is what look-up finds.
pub record TypedFound : Type 0 where
  pub names : (ws txt : List ℕ) (tab : Table) (f : KindFilter)
      → EachFound (HoldsName ws txt tab) (HoldsTyped ws txt tab (Names f))
  pub modules : (ws txt : List ℕ) (tab : Table) (f : Filter)
      → EachFound (HoldsModule ws txt tab) (HoldsTyped ws txt tab (Modules f))
