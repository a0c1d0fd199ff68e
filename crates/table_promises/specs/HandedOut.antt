-- What a look-up or a completion handed out lies in the used text, which no registration changes: it reads the same afterwards.
use Rattle.std.specs.Prelude.{ℕ, ◌≡◌, Bool, List, Option}
use Rattle.source.specs.Text.{Str}
use Rattle.source.specs.Table.{Line}
use Rattle.source.specs.Calls.{Call}
use Rattle.memory.specs.Layout.{Item}
use Rattle.memory_table.specs.Table.{used_text}
use Rattle.listing_ask.specs.Ask.{asked}
use Rattle.listing_ask.specs.declared.Ask.{Ask}
use Rattle.listing_row.specs.Rows.{lines_seen}
use Rattle.table_roots.specs.Answers.{module_found}
use Rattle.table.specs.Answers.{FindsModule}
use Rattle.table.specs.Header.{IsSound}
use Rattle.table.specs.Registrations.{Answers}
use Rattle.table.specs.declared.Table.{Table}
use Rattle.table_promises.specs.Agreement.{HoldsLines}
use Rattle.memory.specs.declared.ModSymbol.{ModSymbol}
use Rattle.table.specs.declared.Answer.{Answer}

-- A registration, accepted or refused, leaves the text that was used. In any text that has it, a module that was found and the lines of a
-- completion read as they did.
pub record HandedOut (ws txt txt' : List ℕ) (tab : Table) : Type 0 where
  pub after : (b : Bool) (ws' : List ℕ) (c : Call) (r : Answer Unit) → Answers b ws txt ws' txt' tab c r
      → used_text txt' tab.header ≡ used_text txt tab.header
  pub found : used_text txt' tab.header ≡ used_text txt tab.header
      → (name : Str) (reply : Answer (Option ModSymbol)) → FindsModule ws txt tab name reply
      → module_found txt' reply.answer ≡ module_found txt reply.answer
  pub listed : used_text txt' tab.header ≡ used_text txt tab.header → IsSound ws txt tab
      → (ask : Ask) (query : Str) (lines : List (Line (Item (asked ask))))
      (held : HoldsLines ws txt tab ask query lines)
      → lines_seen (asked ask) txt' held.flat' held.out' held.count ≡ lines
