-- What the number of a refusal says, and what a call has passed that is not refused.
use Prim.Native.Nat.{ℕ, ◌≤◌, ◌<◌}
use mathlib.Core.Path.{◌≡◌, refl, sym, subst}
use mathlib.Core.Bool.{Bool, true, false, not, ◌||◌}
use mathlib.Core.List.{List, [], ◌∷◌, ◌++◌}
use mathlib.Core.Option.{Option, none, some, none-ne-some}
use native.Mathlib.Omega.{arith}
use lib.Dec.{ltb}
use borrow.Author.Tests.{not-false}
use Rattle.source.specs.Text.{Str, segments, ends_in_dot}
use Rattle.source.specs.Types.{Trie, Value, bind}
use Rattle.source.specs.Tries.{trie_find_exact}
use Rattle.source.specs.Table.{Line}
use Rattle.source.specs.Calls.{Argument, a_look_up, is_empty, any, bad_query, malformed, empty_name, too_long, Row, ◌when◌, first_row, argument_rows}
use Rattle.source.specs.Calls.{State}
use Rattle.source.specs.Calls.{Lent, whole_records, free, Call, arguments, registered, records, text_taken, crowded, deep, registration_rows, after}
use Rattle.source.specs.Calls.{Registered, accepted, refused, register, Output, completion_rows, Found, found_of, look_up, Completed, listed, completed}
use Rattle.source.proofs.Queries.{or_parts}
use Rattle.source.specs.Shared.{Allˡ}

-- ---- any
pub any_append : (p : Argument → Bool) (xs ys : List Argument) → any p (xs ++ ys) ≡ any p xs || any p ys
unfolding any
any_append p [] ys = refl
any_append p (a ∷ xs) ys = go (p a) (any_append p xs ys)
  where
    go : (b : Bool) → any p (xs ++ ys) ≡ any p xs || any p ys → b || any p (xs ++ ys) ≡ (b || any p xs) || any p ys
    go true e = refl
    go false e = e

-- A row's number, and whether its condition holds.
abbrev pub number : Row → ℕ
number (n when b) = n

abbrev pub holds : Row → Bool
holds (n when b) = b

-- ---- first-row
-- Of two lots of rows.
pub first_row_stops : (xs ys : List Row) {n : ℕ} → first_row xs ≡ some n → first_row (xs ++ ys) ≡ some n
unfolding first_row
first_row_stops [] ys e = absurd (none-ne-some _ e)
first_row_stops ((k when true) ∷ xs) ys e = e
first_row_stops ((k when false) ∷ xs) ys e = first_row_stops xs ys e

pub first_row_past : (xs ys : List Row) → first_row xs ≡ none → first_row (xs ++ ys) ≡ first_row ys
unfolding first_row
first_row_past [] ys e = refl
first_row_past ((k when true) ∷ xs) ys e = absurd (none-ne-some _ (sym e))
first_row_past ((k when false) ∷ xs) ys e = first_row_past xs ys e

-- It is the number of some row.
first_row_among : (P : ℕ → Type 0) (rows : List Row) {n : ℕ} → Allˡ (λ r. P (number r)) rows → first_row rows ≡ some n
    → P n
unfolding first_row
first_row_among P [] a e = absurd (none-ne-some _ e)
first_row_among P ((k when true) ∷ rows) {n} a e = let z : k ≡ n = cc in subst P z a.0
first_row_among P ((k when false) ∷ rows) a e = first_row_among P rows a.1 e

pub first_row_none : (rows : List Row) → first_row rows ≡ none → Allˡ (λ r. holds r ≡ false) rows
unfolding first_row
first_row_none [] e = tt
first_row_none ((n when true) ∷ rows) e = absurd (none-ne-some n (sym e))
first_row_none ((n when false) ∷ rows) e = (refl, first_row_none rows e)

pub none_first_row : (rows : List Row) → Allˡ (λ r. holds r ≡ false) rows → first_row rows ≡ none
unfolding first_row
none_first_row [] a = refl
none_first_row ((n when b) ∷ rows) a = rw a.0 (none_first_row rows a.1)

pub first_row_parts : (xs ys : List Row) → first_row (xs ++ ys) ≡ none → (first_row xs ≡ none) × (first_row ys ≡ none)
unfolding first_row
first_row_parts [] ys e = (refl, e)
first_row_parts ((n when true) ∷ xs) ys e = absurd (none-ne-some n (sym e))
first_row_parts ((n when false) ∷ xs) ys e = first_row_parts xs ys e

-- ---- the calls' rows
-- A call that passes rows 1 to 4.
pub record Admitted (sound : Bool) (args : List Argument) : Type 0 where
  pub is_sound : sound ≡ true
  pub well_formed : any malformed args ≡ false
  pub named : any empty_name args ≡ false
  pub short : any too_long args ≡ false

pub argument_rows_none : (sound : Bool) (args : List Argument) → first_row (argument_rows sound args) ≡ none
    → Admitted sound args
unfolding argument_rows
argument_rows_none sound args e =
    let h = first_row_none (argument_rows sound args) e in
    record { is_sound = not-false sound h.0; well_formed = h.1.0; named = h.1.1.0; short = h.1.1.1.0 }

-- A look-up's query ends in a dot, and has a segment
pub look_up_whole : (sound : Bool) (name : Str) → Admitted sound (a_look_up name ∷ []) → ends_in_dot name ≡ true
unfolding malformed any bad_query
look_up_whole sound name h =
    not-false (ends_in_dot name) (or_parts (not (ends_in_dot name)) _ (or_parts _ false h.well_formed).0).0

pub look_up_segment : (sound : Bool) (name : Str) → Admitted sound (a_look_up name ∷ [])
    → is_empty (segments name) ≡ false
unfolding empty_name any
look_up_segment sound name h =
    (or_parts (any is_empty (segments name)) (is_empty (segments name)) (or_parts (empty_name (a_look_up name)) false h.named).0).1

-- A registration that passes rows 1 to 8.
pub record Acceptable (sound : Bool) (lent : Lent) (σ : State) (c : Call) : Type 0 where
  pub admitted : Admitted sound (arguments c)
  pub light : crowded (registered σ.table c) ≡ false
  pub shallow : deep (registered σ.table c) ≡ false
  pub records_fit : ltb (free (whole_records lent.words) σ.records_used) (records σ.table c) ≡ false
  pub text_fits : ltb (free lent.text σ.text_used) (text_taken (arguments c)) ≡ false

pub registration_rows_none : (sound : Bool) (lent : Lent) (σ : State) (c : Call)
    → first_row (registration_rows sound lent σ c) ≡ none → Acceptable sound lent σ c
unfolding registration_rows
registration_rows_none sound lent σ c e =
    let p = first_row_parts (argument_rows sound (arguments c)) _ e in
    let h = first_row_none _ p.1 in
    record {
      admitted = argument_rows_none sound (arguments c) p.0;
      light = h.0;
      shallow = h.1.0;
      records_fit = h.1.1.0;
      text_fits = h.1.1.1.0;
    }

-- ---- accepted registrations
accepted_view : (sound : Bool) (lent : Lent) (σ σ' : State) (c : Call)
    → register sound lent σ c ≡ accepted σ' → Acceptable sound lent σ c × (σ' ≡ after σ c)
unfolding register
accepted_view sound lent σ σ' c e = go (first_row (registration_rows sound lent σ c)) (registration_rows_none sound lent σ c) e
  where
    go : (o : Option ℕ) → (o ≡ none → Acceptable sound lent σ c)
        → ◌≡◌ {A = Registered} (elim o [ none ↦ accepted (after σ c) | some n ↦ refused n ]) (accepted σ') → Acceptable sound lent σ c × (σ' ≡ after σ c)
    go none f e = (f refl, cc)
    go (some n) f e = let z : ◌≡◌ {A = ℕ} 0 1 = cc in absurd (omega arith)

pub accepted_is : (sound : Bool) (lent : Lent) (σ σ' : State) (c : Call) → register sound lent σ c ≡ accepted σ'
    → σ' ≡ after σ c
accepted_is sound lent σ σ' c e = (accepted_view sound lent σ σ' c e).1

pub accepted_acceptable : (sound : Bool) (lent : Lent) (σ σ' : State) (c : Call) → register sound lent σ c ≡ accepted σ'
    → Acceptable sound lent σ c
accepted_acceptable sound lent σ σ' c e = (accepted_view sound lent σ σ' c e).0

-- ---- refused look-ups and completions
pub look_up_refused : {A : Type 0} (sound : Bool) (root : Trie A) (q : Str) {n : ℕ} → look_up sound root q ≡ refused n
    → (0 < n) × (n ≤ 10)
unfolding look_up argument_rows found_of
look_up_refused {A} sound root q {n} e = go (first_row (argument_rows sound (a_look_up q ∷ []))) refl (found_of (trie_find_exact root (segments q)))
    (λ m. found_not (trie_find_exact root (segments q)) m) e
  where
    found_not : (o : Option (Value A bind)) (m : ℕ) → found_of o ≡ refused m → ⊥
    found_not none m e = let z : ◌≡◌ {A = ℕ} 0 1 = cc in omega arith
    found_not (some v) m e = let z : ◌≡◌ {A = ℕ} 0 1 = cc in omega arith

    go : (o : Option ℕ) → first_row (argument_rows sound (a_look_up q ∷ [])) ≡ o → (f : Found A)
        → ((m : ℕ) → f ≡ refused m → ⊥)
        → ◌≡◌ {A = Found A} (elim o [ none ↦ f | some m ↦ refused m ]) (refused n) → (0 < n) × (n ≤ 10)
    go none h f k e = absurd (k n e)
    go (some m) h f k e =
        let z : m ≡ n = cc in
        rw (← z) (first_row_among (λ j. (0 < j) × (j ≤ 10)) (argument_rows sound (a_look_up q ∷ []))
        ((omega arith, omega arith), ((omega arith, omega arith), ((omega arith, omega arith), ((omega arith, omega arith), tt)))) h)

pub completed_refused : {A : Type 0} (sound : Bool) (budget : ℕ) (out : Output) (query : Str) (lines : List (Line A))
    (entered : ℕ) {n : ℕ}
    → completed sound budget out query lines entered ≡ refused n → (0 < n) × (n ≤ 10)
unfolding completed completion_rows argument_rows
completed_refused {A} sound budget out query lines entered {n} e = go (first_row (completion_rows sound budget out query lines entered)) refl e
  where
    go : (o : Option ℕ) → first_row (completion_rows sound budget out query lines entered) ≡ o
        → ◌≡◌ {A = Completed A} (elim o [ none ↦ listed lines entered | some m ↦ refused m ]) (refused n) → (0 < n) × (n ≤ 10)
    go none h e = let z : ◌≡◌ {A = ℕ} 0 1 = cc in absurd (omega arith)
    go (some m) h e =
        let z : m ≡ n = cc in
        rw (← z) (first_row_among (λ j. (0 < j) × (j ≤ 10)) (completion_rows sound budget out query lines entered) (
          (omega arith, omega arith),
          (
            (omega arith, omega arith),
            ((omega arith, omega arith), ((omega arith, omega arith), ((omega arith, omega arith), ((omega arith, omega arith), tt)))),
          ),
        ) h)
