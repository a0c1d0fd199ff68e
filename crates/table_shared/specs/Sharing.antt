-- What a completion with its shared length hands back, and what it leaves of the lent output.
use Rattle.std.specs.Prelude.{ℕ, ◌≡◌, Bool, List}
use Rattle.source.specs.Text.{Str}
use Rattle.source.specs.Calls.{shared_length}
use Rattle.memory.specs.Sound.{Says}
use Rattle.listing_ask.specs.declared.Request.{Request}
use Rattle.listing_shared.specs.Shared.{shared_seen}
use Rattle.listing.specs.Completes.{output}
use Rattle.table_count.specs.LinesIn.{lines_in}
use Rattle.table.specs.Header.{IsSound, table_in}
use Rattle.table.specs.Completions.{completion, Completes}
use Rattle.table.specs.declared.Table.{Table}
use Rattle.table_shared.specs.declared.Sharing.{Sharing}
use Rattle.listing.specs.declared.Listed.{Listed}
use Rattle.table.specs.declared.Answer.{Answer}

-- A listing, with what its lines share where they stand in flat and out.
abbrev pub sharing_seen : (flat out : List ℕ) → Answer Listed → Sharing
sharing_seen flat out r = record { listing = r; shared = shared_seen flat out (lines_in r.answer) }

-- In any memory: all that a completion hands back and leaves, and the shared length of the definition's answer; b says whether the memory is sound.
pub record CompletesShared (ws txt : List ℕ) (tab : Table) (request : Request) (query : Str)
    (flat flat' out out' : List ℕ) (r : Sharing) : Type 0 where
  pub listing : Completes ws txt tab request query flat flat' out out' r.listing
  pub shared : (b : Bool) → Says b (IsSound ws txt tab)
      → r.shared
      ≡ shared_length (completion b (table_in ws txt tab) request.ask request.budget (output flat out) query)
