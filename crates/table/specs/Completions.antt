-- What a completion hands back, and what it leaves of the lent output.
use Rattle.std.specs.Prelude.{ℕ, ◌≡◌, Bool, List}
use Rattle.source.specs.Text.{Str}
use Rattle.source.specs.Table as S
use Rattle.source.specs.Calls as C
use Rattle.source.specs.Calls.{Output, complete, complete_modules}
use Rattle.memory.specs.Layout.{Item}
use Rattle.memory.specs.Sound.{Says}
use Rattle.memory_table.specs.Table.{used_words, used_text}
use Rattle.listing_ask.specs.Ask.{asked, filter_in}
use Rattle.listing_ask.specs.declared.Ask.{Ask}
use Rattle.listing_ask.specs.declared.Ask.TheVariants.{Names, Modules}
use Rattle.listing_ask.specs.declared.Request.{Request}
use Rattle.listing.specs.Completes.{output, CompletesAs}
use Rattle.table.specs.Header.{IsSound, table_in}
use Rattle.table.specs.declared.Table.{Table}
use Rattle.listing.specs.declared.Listed.{Listed}
use Rattle.table.specs.declared.Answer.{Answer}

-- The requirements' answer to what is asked.
abbrev pub completion : (sound : Bool) → S.Table → (ask : Ask) → (budget : ℕ) → Output → Str
    → C.Completed (Item (asked ask))
completion sound tbl (Names f) budget out query = complete sound tbl f budget out query
completion sound tbl (Modules f) budget out query = complete_modules sound tbl (filter_in f) budget out query

-- What a completion hands back, in any memory: the table as it was, and the answer of the definition, its lines' items from used records, their
-- texts in the used text; b says whether the memory is sound.
pub record Completes (ws txt : List ℕ) (tab : Table) (request : Request) (query : Str) (flat flat' out out' : List ℕ)
    (r : Answer Listed) : Type 0 where
  pub table : r.table ≡ tab
  pub says : (b : Bool) → Says b (IsSound ws txt tab)
      → CompletesAs request.ask (used_words ws tab.header) (used_text txt tab.header)
      flat flat' out out' r.answer
      (completion b (table_in ws txt tab) request.ask request.budget (output flat out) query)
