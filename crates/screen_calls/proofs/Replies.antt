-- What a registration replies, by what crate table answers.
use Prim.Native.Nat.{ℕ, zero, suc, ◌*◌, ◌≤◌, ◌<◌}
use mathlib.Core.Path.{◌≡◌, refl, sym, ap, ◌∙◌}
use mathlib.Core.Bool.{Bool, true, false}
use mathlib.Core.List.{List}
use mathlib.Core.Option.{Option, none, some, none-ne-some}
use native.Mathlib.Omega.{arith}
use lib.Dec.{eqb}
use lib.ListN.{length}
use lib.Seq.{take_all}
use Rattle.source.specs.Calls as C
use Rattle.source.specs.Calls.{State, Lent, Call, register}
use Rattle.memory.specs.Sound.{Says}
use Rattle.source.specs.Lent.{Outside}
use Rattle.table.specs.Header.{IsSound, state, lent}
use Rattle.table.specs.Registrations.{refusal_of, AnswersAs, Answers}
use Rattle.table.specs.declared.Table.{Table}
use Rattle.table.proofs.Says.{says_same}
use Rattle.table.proofs.Answers.{register_unsound}
use Rattle.memory_bytes.specs.Bytes.{Stored}
use Rattle.screen_memory.specs.Memory.{header_in, words_lent, words_in, Saved}
use Rattle.screen_memory.proofs.Memory.{words_in_length, words_in_fit}
use Rattle.screen_calls.specs.Memory.{table_at, SoundBytes}
use Rattle.screen_calls.specs.Replies.{flag_for, chosen, unchosen, answer_to, RepliesAs, Replies}
use Rattle.memory_bytes.proofs.Bytes.{read_back}
use Rattle.screen_calls.proofs.Held.{Held, says_memory, says_unsound}
use Rattle.table.specs.declared.Answer.{Answer}

answer_unsound : (loan : Lent) (σ : State) (c : Option Call) → answer_to false loan σ c ≡ C.refused 1
answer_unsound loan σ (some c) = register_unsound loan σ c
answer_unsound loan σ none = refl

pub reply_unsound : {st bs txt : List ℕ} {c : Option Call} → (SoundBytes st bs txt → ⊥)
    → Replies st bs txt st bs txt c 1
reply_unsound {c = c} e = record {
  says = λ b h. rw (says_unsound b e h, answer_unsound _ _ c) (refl, record { state = refl; words = refl; text = refl });
}

-- ---- No call

pub reply_none : {st bs m txt : List ℕ} {tab : Table} {k : ℕ} (r : Bool) → Held st bs m tab → Says r (IsSound m txt tab)
    → C.refused k ≡ unchosen r → Replies st bs txt st bs txt none k
reply_none {txt = txt} r h p e = record {
  says = λ b i. rw (says_same _ b r (says_memory txt h b i) p, ← e) (refl, record { state = refl; words = refl; text = refl });
}

-- ---- A choice by its number

pub flag_some : (n : ℕ) → n < 2 → flag_for n ≡ some (eqb n 1)
unfolding flag_for
flag_some zero h = refl
flag_some (suc zero) h = refl
flag_some (suc (suc n)) h = absurd (omega arith)

pub flag_none : (n : ℕ) → 2 ≤ n → flag_for n ≡ none
unfolding flag_for
flag_none zero h = absurd (omega arith)
flag_none (suc zero) h = absurd (omega arith)
flag_none (suc (suc n)) h = refl

module _ {A : Type 0} {st bs txt st' bs' txt' : List ℕ} {r : ℕ} (f : A → Call) {o : Option A} where
  pub reply_chosen : {a : A} → o ≡ some a → Replies st bs txt st' bs' txt' (some (f a)) r
      → Replies st bs txt st' bs' txt' (chosen f o) r
  reply_chosen e p = rw e p

  pub reply_unchosen : o ≡ none → Replies st bs txt st' bs' txt' none r → Replies st bs txt st' bs' txt' (chosen f o) r
  reply_unchosen e p = rw e p

-- ---- A call, by crate table's answer

-- The records of an accepted call fit the words lent.
module _ (ws txt ws' txt' : List ℕ) (tab : Table) (c : Call) (r : Answer Unit)
    (taken : refusal_of r.answer ≡ none) where
  fit_as : (x : C.Registered) → AnswersAs x ws txt ws' txt' tab c r → r.table.header.records * 12 ≤ length ws
  fit_as (C.accepted s) a = omega (arith, a.1.sound.right.records_fit, a.1.words.size)
  fit_as (C.refused n) a = absurd (none-ne-some n (sym taken ∙ a.0))

by_bytes : (n : ℕ) → n * 12 * 4 ≡ n * 48
by_bytes n = omega arith

module _ {st bs txt m ws txt' : List ℕ} {tab : Table} {c : Call} {r : Answer Unit} (h : Held st bs m tab)
    (sound : IsSound m txt tab) (a : Answers true m txt ws txt' tab c r) where
  accepted_fits : refusal_of r.answer ≡ none → r.table.header.records * 12 ≤ length (words_in bs)
  accepted_fits taken = rw h.lent at (fit_as m txt ws txt' tab c r taken (register true (lent m txt) (state m txt tab) c) a.says)

  pub store_fits : refusal_of r.answer ≡ none → length ws ≡ length m
      → (r.table.header.records * 12 * 4 ≤ length bs) × (r.table.header.records * 12 ≤ length ws)
  store_fits taken e = let f = accepted_fits taken in (omega (arith, words_in_fit bs), omega (arith, ap length h.lent))

  answers : (b : Bool) → Says b (SoundBytes st bs txt)
      → AnswersAs (register b (lent (words_in bs) txt) (state (words_in bs) txt (table_at st)) c)
      (words_in bs) txt ws txt' (table_at st) c r
  answers b i = rw (says_same _ b true (says_memory txt h b i) sound, ← h.lent, h.spelt.header) a.says

  -- It is accepted, and the new words and the new header are stored.
  module _ {st' bs' : List ℕ} (taken : refusal_of r.answer ≡ none)
      (saved : Saved ws tab.header.records r.table.header bs bs' st') where
    kept : Stored ws ((header_in st).records * 12) (r.table.header.records * 12) bs bs'
    kept = rw h.spelt.header saved.stored

    words_back : Outside ((header_in st).records * 12) (r.table.header.records * 12) (words_in bs) ws
        → words_in bs' ≡ ws
    unfolding words_in
    words_back o =
        rw kept.rest.size
        (read_back (words_lent (length bs)) o (take_all (words_lent (length bs)) ws (omega (arith, o.size, words_in_length bs))) kept)

    accepted_as : (x : C.Registered) → AnswersAs x (words_in bs) txt ws txt' (table_at st) c r
        → RepliesAs x st bs txt st' bs' txt' (some c) 0
    accepted_as (C.accepted s) a = (
      refl,
      record {
        size = saved.spelt.size;
        table = rw (saved.spelt.header, words_back a.1.words) a.1;
        bytes = rw saved.spelt.header (rw (by_bytes (header_in st).records, by_bytes r.table.header.records) at kept.rest);
      },
    )
    accepted_as (C.refused n) a = absurd (none-ne-some n (sym taken ∙ a.0))

    pub reply_accepted : Replies st bs txt st' bs' txt' (some c) 0
    reply_accepted = record { says = λ b i. accepted_as (register b (lent (words_in bs) txt) (state (words_in bs) txt (table_at st)) c) (answers b i) }

  -- It is refused.
  module _ {x k : ℕ} (no : refusal_of r.answer ≡ some x) (told : k ≡ x) where
    refused_as : (y : C.Registered) → AnswersAs y (words_in bs) txt ws txt' (table_at st) c r
        → RepliesAs y st bs txt st bs txt' (some c) k
    refused_as (C.accepted s) a = absurd (none-ne-some x (sym a.0 ∙ no))
    refused_as (C.refused n) a = (let e = a.0 in cc, record { state = refl; words = refl; text = a.1.text })

    pub reply_refused : Replies st bs txt st bs txt' (some c) k
    reply_refused = record { says = λ b i. refused_as (register b (lent (words_in bs) txt) (state (words_in bs) txt (table_at st)) c) (answers b i) }
