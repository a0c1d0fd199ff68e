-- What a registration hands back, by its rows.
use Prim.Native.Nat.{ℕ}
use mathlib.Core.Path.{◌≡◌, refl, ◌∙◌}
use mathlib.Core.Logic.{◌↔◌}
use mathlib.Core.Bool.{Bool, true, false}
use mathlib.Core.List.{List}
use mathlib.Core.Option.{none, some}
use Rattle.source.specs.Text.{Str}
use Rattle.source.specs.Calls.{first_row, argument_rows, State, Lent, Call, registration_rows, after, Registered, accepted, refused, register, include, opens}
use Rattle.table.specs.Header.{state, lent}
use Rattle.register_kind.proofs.Shapes.{open_module_is_include}
use Rattle.refusals.specs.Refusals.{number}
use Rattle.register.specs.Writes as R
use Rattle.register.specs.Writes.{laid_texts, untouched}
use Rattle.memory_table.specs.declared.Header.{Header}
use Rattle.table.specs.Registrations.{Accepts, AnswersAs, Answers}
use Rattle.table.specs.declared.Table.{Table}
use Rattle.refusals.specs.declared.Refusal.{Refusal}
use Rattle.refusals.specs.declared.Refusal.TheVariants.{Unsound}
use Rattle.table.specs.declared.Answer.{Answer}
use Rattle.std.specs.Prelude.{Ok, Err}

module _ (b : Bool) (loan : Lent) (σ : State) (c : Call) where
  register_refused : {n : ℕ} → first_row (registration_rows b loan σ c) ≡ some n → register b loan σ c ≡ refused n
  unfolding register
  register_refused e = rw (register, e)

  register_accepted : first_row (registration_rows b loan σ c) ≡ none → register b loan σ c ≡ accepted (after σ c)
  unfolding register
  register_accepted e = rw (register, e)

pub register_unsound : (loan : Lent) (σ : State) (c : Call) → register false loan σ c ≡ refused 1
unfolding register registration_rows argument_rows first_row
register_unsound loan σ c = refl

module _ {ws txt : List ℕ} {tab : Table} {c : Call} where
  pub answers_refused : {x : Refusal}
      → first_row (registration_rows true (lent ws txt) (state ws txt tab) c) ≡ some (number x)
      → Answers true ws txt ws txt tab c (record { table = tab; answer = Err x })
  answers_refused e = record { says = rw (register_refused true _ _ c e) (refl, record { table = refl; words = refl; text = refl }) }

  pub answers_accepted : {ws' txt' : List ℕ} {tab' : Table}
      → first_row (registration_rows true (lent ws txt) (state ws txt tab) c) ≡ none
      → Accepts ws txt ws' txt' tab tab' c (after (state ws txt tab) c)
      → Answers true ws txt ws' txt' tab c (record { table = tab'; answer = Ok tt })
  answers_accepted e a = record { says = rw (register_accepted true _ _ c e) (refl, a) }

  pub answers_unsound : Answers false ws txt ws txt tab c (record { table = tab; answer = Err Unsound })
  answers_unsound = record { says = rw register_unsound (refl, record { table = refl; words = refl; text = refl }) }

-- Calls with the same texts and the same other root are accepted alike.
pub accepts_like : {ws txt ws' txt' : List ℕ} {h h' : Header} {c d : Call} {σ : State} → laid_texts c ≡ laid_texts d
    → untouched c ≡ untouched d
    → R.Accepts ws txt ws' txt' h h' c σ → R.Accepts ws txt ws' txt' h h' d σ
accepts_like e f a = record {
  reads = a.reads;
  sound = a.sound;
  other_root = rw f at a.other_root;
  words = a.words;
  text = a.text;
  laid = a.laid ∙ e;
}

module _ (ws txt ws' txt' : List ℕ) (tab : Table) (r : Answer Unit) (c d : Call) (e : laid_texts c ≡ laid_texts d)
    (f : untouched c ≡ untouched d) where
  answers_like : (v : Registered) → AnswersAs v ws txt ws' txt' tab c r → AnswersAs v ws txt ws' txt' tab d r
  answers_like (accepted s) (n, a) = (n, accepts_like e f a)
  answers_like (refused n) a = a

-- register_open_module promises what register_include does, at either door.
pub open_module_answers : {b : Bool} {ws txt ws' txt' : List ℕ} {tab : Table} {host query : Str} {r : Answer Unit}
    → Answers b ws txt ws' txt' tab (opens true host query) r ↔ Answers b ws txt ws' txt' tab (include host query) r
open_module_answers {b} {ws} {txt} {ws'} {txt'} {tab} {host} {query} {r} =
    let o = opens true host query in
    let i = include host query in
    let v : Call → Registered = register b (lent ws txt) (state ws txt tab) in (
      λ a. record { says = rw (← open_module_is_include) (answers_like ws txt ws' txt' tab r o i refl refl (v o) a.says) },
      λ a. record { says = rw open_module_is_include (answers_like ws txt ws' txt' tab r i o refl refl (v i) a.says) },
    )
