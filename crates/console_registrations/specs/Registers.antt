-- The line of a registration: what it replies and what it leaves.
use Rattle.std.specs.Prelude.{ℕ, ◌*◌, ◌≤◌, ◌≡◌, true, List, Err, Ok, Result}
use Rattle.source.specs.Limits.{record_words}
use Rattle.source.specs.Calls as C
use Rattle.source.specs.Calls.{State, Call, register}
use Rattle.text.specs.Laid.{Laid}
use Rattle.script_decimal.specs.Bytes.{Str}
use Rattle.script_replies.specs.Replies.{ok_reply, refused_reply}
use Rattle.table.specs.Header.{IsSound, state, lent}
use Rattle.refusals.specs.Refusals.{number}
use Rattle.source.specs.Lent.{Outside}
use Rattle.table.specs.Registrations.{Accepts, Unchanged}
use Rattle.table.specs.declared.Table.{Table}
use Rattle.console_registrations.specs.declared.Done.{Done}
use Rattle.refusals.specs.declared.Refusal.{Refusal}
use Rattle.table.specs.declared.Answer.{Answer}

-- The reply to a line, with the table after it.
pub record Outcome : Type 0 where
  pub text : Str
  pub after : State

-- Accepted: all records used. Refused: the table is as before.
abbrev pub registration : State → C.Registered → Outcome
registration σ (C.accepted σ') = record { text = ok_reply σ'.records_used; after = σ' }
registration σ (C.refused n) = record { text = refused_reply n; after = σ }

-- The table has become one that reads as the outcome's and is sound, only the free part that was taken has changed, and the
-- outcome's reply stands in the reply text from at on.
pub record Leaves (ws txt ws' txt' : List ℕ) (tab : Table) (reply reply' : List ℕ) (at : ℕ) (o : Outcome)
    (r : Done) : Type 0 where
  pub sound : IsSound ws' txt' r.table
  pub reads : state ws' txt' r.table ≡ o.after
  pub words : Outside (tab.header.records * record_words) (r.table.header.records * record_words) ws ws'
  pub texts : Outside tab.header.text r.table.header.text txt txt'
  pub grows : (tab.header.records ≤ r.table.header.records) × (tab.header.text ≤ r.table.header.text)
  pub laid : Laid reply reply' at r.end o.text

-- A registration; an accepted one has its texts laid and the other root as it was, a refused one leaves header, words and text.
pub record Registers (ws txt ws' txt' : List ℕ) (tab : Table) (c : Call) (reply reply' : List ℕ) (at : ℕ)
    (r : Done) : Type 0 where
  pub leaves : Leaves ws txt ws' txt' tab reply reply' at
      (registration (state ws txt tab) (register true (lent ws txt) (state ws txt tab) c)) r
  pub accepts : (σ : State) → register true (lent ws txt) (state ws txt tab) c ≡ C.accepted σ
      → Accepts ws txt ws' txt' tab r.table c σ
  pub still : (n : ℕ) → register true (lent ws txt) (state ws txt tab) c ≡ C.refused n
      → Unchanged ws txt ws' txt' tab r.table

-- ---- From the answer of the call

abbrev pub registered_text : (records : ℕ) → Result Unit Refusal → Str
registered_text records (Ok _) = ok_reply records
registered_text records (Err x) = refused_reply (number x)

-- The reply to a registration has been written.
pub record Finished (reply reply' : List ℕ) (at : ℕ) (r : Answer Unit) (a : Done) : Type 0 where
  pub laid : Laid reply reply' at a.end (registered_text r.table.header.records r.answer)
  pub table_is : a.table ≡ r.table
