-- What a completion hands back and leaves is enough to read its lines and say what they share: CompletesShared, from Completes.
use Prim.Native.Nat.{ℕ}
use mathlib.Core.Path.{◌≡◌, refl}
use mathlib.Core.Bool.{Bool}
use mathlib.Core.List.{List}
use mathlib.Core.Option.{none-ne-some}
use Rattle.source.specs.Text.{Str}
use Rattle.source.specs.Calls as C
use Rattle.memory.specs.Layout.{Item}
use Rattle.memory.specs.Sound.{Says}
use Rattle.memory_table.specs.Table.{used_words, used_text}
use Rattle.listing_ask.specs.Ask.{asked}
use Rattle.listing_ask.specs.declared.Ask.{Ask}
use Rattle.listing_ask.specs.declared.Request.{Request}
use Rattle.listing_shared.specs.Shared.{CandidatesIn}
use Rattle.listing_shared.proofs.Shared.{Leaves, leaves_shared, left_candidates}
use Rattle.listing.specs.Completes.{output, CompletesAs}
use Rattle.table_count.specs.LinesIn.{lines_in}
use Rattle.table.specs.Header.{IsSound, table_in}
use Rattle.table.specs.Completions.{completion, Completes}
use Rattle.table.specs.declared.Table.{Table}
use Rattle.table_shared.specs.Sharing.{sharing_seen, CompletesShared}
use Rattle.table_shared.specs.declared.Sharing.{Sharing}
use Rattle.listing.specs.declared.Listed.{Listed}
use Rattle.refusals.specs.declared.Refusal.{Refusal}
use Rattle.table.specs.declared.Answer.{Answer}
use Rattle.std.specs.Prelude.{Err, Ok, Result}

module _ (ask : Ask) (ws txt flat flat' out out' : List ℕ) where
  leaves : (r : Result Listed Refusal) (v : C.Completed (Item (asked ask)))
      → CompletesAs ask ws txt flat flat' out out' r v
      → Leaves (asked ask) ws txt flat flat' out out' (lines_in r) v
  leaves r (C.listed lines entered) a = rw a.0 (refl, a.1)
  leaves (Ok listed) (C.refused n) a = absurd (none-ne-some n a.0)
  leaves (Err x) (C.refused n) a = refl

module _ {ws txt : List ℕ} {tab : Table} {request : Request} {query : Str} {flat flat' out out' : List ℕ}
    {got : Answer Listed}
    (x : Completes ws txt tab request query flat flat' out out' got) where
  abbrev answer : Bool → C.Completed (Item (asked request.ask))
  answer b = completion b (table_in ws txt tab) request.ask request.budget (output flat out) query

  -- The memory that the lines are from.
  abbrev ws' : List ℕ
  ws' = used_words ws tab.header

  abbrev txt' : List ℕ
  txt' = used_text txt tab.header

  left : (b : Bool) → Says b (IsSound ws txt tab)
      → Leaves (asked request.ask) ws' txt' flat flat' out out' (lines_in got.answer) (answer b)
  left b h = leaves request.ask ws' txt' flat flat' out out' got.answer (answer b) (x.says b h)

  pub completes_candidates : CandidatesIn flat' out' (lines_in got.answer)
  completes_candidates = left_candidates (asked request.ask) ws' txt' flat flat' out out' (lines_in got.answer) answer left

  pub completes_shared : {r : Sharing} → r ≡ sharing_seen flat' out' got
      → CompletesShared ws txt tab request query flat flat' out out' r
  completes_shared e = rw e (record {
    listing = x;
    shared = λ b h. leaves_shared (asked request.ask) ws' txt' flat flat' out out' (lines_in got.answer) (answer b) (left b h);
  })
