-- What a registration hands back, and what it leaves of everything lent.
use Rattle.std.specs.Prelude.{ℕ, ◌≡◌, Bool, List, Result, Ok, Err}
use Rattle.std.proofs.Math.Option.{Option, none, some}
use Rattle.source.specs.Calls as C
use Rattle.source.specs.Calls.{State, Call, register}
use Rattle.memory.specs.Sound.{Says}
use Rattle.register.specs.Writes as R
use Rattle.table.specs.Header.{IsSound, state, lent}
use Rattle.refusals.specs.Refusals.{number}
use Rattle.refusals.specs.declared.Refusal.{Refusal}
use Rattle.table.specs.declared.Table.{Table}
use Rattle.table.specs.declared.Answer.{Answer}

-- The number of a refusal, none of an accepted call.
abbrev pub refusal_of : Result Unit Refusal → Option ℕ
refusal_of (Ok _) = none
refusal_of (Err r) = some (number r)

-- By the call c the table tab has become tab′, which reads as the state σ and has the other root as it was. Only the free part that
-- was taken has changed, and of the text it is the call's texts.
abbrev pub Accepts : (ws txt ws' txt' : List ℕ) (tab tab' : Table) (c : Call) (σ : State) → Type 0
Accepts ws txt ws' txt' tab tab' c σ = R.Accepts ws txt ws' txt' tab.header tab'.header c σ

-- Nothing has changed.
pub record Unchanged (ws txt ws' txt' : List ℕ) (tab tab' : Table) : Type 0 where
  pub table : tab' ≡ tab
  pub words : ws' ≡ ws
  pub text : txt' ≡ txt

-- The answer to a call, by that of the definition.
abbrev pub AnswersAs : C.Registered → (ws txt ws' txt' : List ℕ) → Table → Call → Answer Unit → Type 0
AnswersAs (C.accepted σ) ws txt ws' txt' tab c r =
    (refusal_of r.answer ≡ none) × Accepts ws txt ws' txt' tab r.table c σ
AnswersAs (C.refused n) ws txt ws' txt' tab c r =
    (refusal_of r.answer ≡ some n) × Unchanged ws txt ws' txt' tab r.table

-- The answer r to a call; b says whether the memory is sound.
pub record Answers (b : Bool) (ws txt ws' txt' : List ℕ) (tab : Table) (c : Call) (r : Answer Unit) : Type 0 where
  pub says : AnswersAs (register b (lent ws txt) (state ws txt tab) c) ws txt ws' txt' tab c r

-- The same, of any memory.
abbrev pub Total : (ws txt ws' txt' : List ℕ) → Table → Call → Answer Unit → Type 0
Total ws txt ws' txt' tab c r = (b : Bool) → Says b (IsSound ws txt tab) → Answers b ws txt ws' txt' tab c r
