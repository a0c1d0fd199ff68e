-- The reply to a registration is that of the definition (`Registers`).
use Prim.Native.Nat.{ℕ, ◌≤◌}
use native.Mathlib.Omega.{arith}
use mathlib.Core.Path.{◌≡◌, refl, ap, ◌∙◌, subst}
use mathlib.Core.Bool.{true}
use mathlib.Core.List.{List}
use mathlib.Core.Option.{Option, none, some}
use Rattle.source.specs.Calls as C
use Rattle.source.specs.Calls.{Call, State, Lent, register, registration_rows, first_row, after}
use Rattle.text.specs.Laid.{Laid}
use Rattle.script_replies.specs.Replies.{ok_reply, refused_reply}
use Rattle.table.specs.Header.{IsSound, state, lent}
use Rattle.refusals.specs.Refusals.{number}
use Rattle.source.proofs.Outside.{outside_none}
use Rattle.table.specs.Registrations.{refusal_of, Accepts, Unchanged, AnswersAs, Answers}
use Rattle.table.specs.declared.Table.{Table}
use Rattle.console_registrations.specs.Registers.{registration, Leaves, Registers, registered_text, Finished}
use Rattle.console_registrations.specs.declared.Done.{Done}
use Rattle.refusals.specs.declared.Refusal.{Refusal}
use Rattle.table.specs.declared.Answer.{Answer}
use Rattle.std.specs.Prelude.{Err, Ok, Result}

text_accepted : (records : ℕ) (r : Result Unit Refusal) → refusal_of r ≡ none
    → registered_text records r ≡ ok_reply records
text_accepted records (Ok _) e = refl
text_accepted records (Err x) e = let z : ◌≡◌ {A = ℕ} 0 1 = cc in absurd (omega arith)

text_refused : (records n : ℕ) (r : Result Unit Refusal) → refusal_of r ≡ some n
    → registered_text records r ≡ refused_reply n
text_refused records n (Ok _) e = let z : ◌≡◌ {A = ℕ} 0 1 = cc in absurd (omega arith)
text_refused records n (Err x) e = let z : number x ≡ n = cc in ap refused_reply z

-- What is used never shrinks.
Grows : State → C.Registered → Type 0
Grows σ (C.accepted σ') = (σ.records_used ≤ σ'.records_used) × (σ.text_used ≤ σ'.text_used)
Grows σ (C.refused n) = Unit {0}

register_grows : (k : Lent) (σ : State) (c : Call) → Grows σ (register true k σ c)
unfolding register after Grows
register_grows k σ c = go (first_row (registration_rows true k σ c))
  where
    go : (o : Option ℕ) → Grows σ (elim o [ none ↦ C.accepted (after σ c) | some n ↦ C.refused n ])
    go none = (omega arith, omega arith)
    go (some n) = tt

module _ {ws txt ws' txt' reply reply' : List ℕ} {tab : Table} {at : ℕ} {r : Answer Unit} {a : Done}
    (f : Finished reply reply' at r a) where
  leaves : (c : Call) → IsSound ws txt tab → (v : C.Registered) → Grows (state ws txt tab) v
      → AnswersAs v ws txt ws' txt' tab c r
      → Leaves ws txt ws' txt' tab reply reply' at (registration (state ws txt tab) v) a
  unfolding Grows
  leaves c sound (C.accepted σ) g (e, x) =
      rw f.table_is (record {
        sound = x.sound;
        reads = x.reads;
        words = x.words;
        texts = x.text;
        grows = (omega (arith, g.0, ap (λ (z : State). z.records_used) x.reads), omega (arith, g.1, ap (λ (z : State). z.text_used) x.reads));
        laid = subst (Laid reply reply' at a.end)
            (text_accepted r.table.header.records r.answer e ∙ ap (λ (σ : State). ok_reply σ.records_used) x.reads) f.laid;
      })
  leaves c sound (C.refused n) g (e, x) =
      rw (f.table_is, x.table, x.words, x.text) (record {
        sound = sound;
        reads = refl;
        words = outside_none ws;
        texts = outside_none txt;
        grows = (omega arith, omega arith);
        laid = subst (Laid reply reply' at a.end) (text_refused r.table.header.records n r.answer e) f.laid;
      })

  accepts : (c : Call) (v : C.Registered) → AnswersAs v ws txt ws' txt' tab c r → (σ : State) → v ≡ C.accepted σ
      → Accepts ws txt ws' txt' tab a.table c σ
  accepts c (C.accepted z) (e, x) σ p = let q : z ≡ σ = cc in rw (f.table_is, ← q) x
  accepts c (C.refused n) x σ p = let z : ◌≡◌ {A = ℕ} 0 1 = cc in absurd (omega arith)

  still : (c : Call) (v : C.Registered) → AnswersAs v ws txt ws' txt' tab c r → (n : ℕ) → v ≡ C.refused n
      → Unchanged ws txt ws' txt' tab a.table
  still c (C.accepted s) x n e = let z : ◌≡◌ {A = ℕ} 0 1 = cc in absurd (omega arith)
  still c (C.refused m) (e, x) n p = rw f.table_is x

  pub line_registers : {c : Call} → IsSound ws txt tab → Answers true ws txt ws' txt' tab c r
      → Registers ws txt ws' txt' tab c reply reply' at a
  line_registers {c} s x = record {
    leaves = leaves c s (register true (lent ws txt) (state ws txt tab) c) (register_grows (lent ws txt) (state ws txt tab) c) x.says;
    accepts = accepts c (register true (lent ws txt) (state ws txt tab) c) x.says;
    still = still c (register true (lent ws txt) (state ws txt tab) c) x.says;
  }
