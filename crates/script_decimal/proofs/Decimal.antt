-- Laws of a number in decimal; what is written of a number is what is read as that number.
use mathlib.Core.Path.{◌≡◌, refl, sym, ap, ◌∙◌}
use mathlib.Core.Bool.{Bool, true, false}
use mathlib.Core.List.{[], ◌∷◌, ◌++◌}
use Prim.Native.Nat.{ℕ, zero, suc, ◌+◌, ◌-◌, ◌*◌, ◌/◌, ◌%◌, ◌<◌, ◌≤◌}
use native.Mathlib.Omega.{arith}
use lib.Dec.{ltb}
use lib.ListN.{length, get_or, length-append, get_or-append}
use borrow.Author.Tests.{ltb-true, ltb-false, lt-ltb, le-ltb, le-leb}
use Rattle.script_decimal.specs.declared.Sort.TheVariants.{Digit}
use Rattle.script_decimal.specs.Bytes.{Str, byte_ok, All}
use Rattle.script_decimal.specs.Numerals.{value_from, Numeral, digits, decimal}

-- ---- Written

pub by_ten : {A : Type 0} (n : ℕ) → (n < 10 → A) → (10 ≤ n → A) → A
by_ten {A} n f g = go (ltb n 10) refl
  where
    go : (b : Bool) → ltb n 10 ≡ b → A
    go true e = f (ltb-true n 10 e)
    go false e = g (ltb-false n 10 e)

digits_small : (f n : ℕ) → n < 10 → digits (suc f) n ≡ (48 + n) ∷ []
unfolding digits
digits_small f n h = rw (lt-ltb n 10 h, digits) refl

digits_large : (f n : ℕ) → 10 ≤ n → digits (suc f) n ≡ digits f (n / 10) ++ ((48 + n % 10) ∷ [])
unfolding digits
digits_large f n h = rw (le-ltb n 10 h, digits) refl

-- More fuel changes nothing.
digits_more : (f g n : ℕ) → n ≤ f → n ≤ g → digits (suc f) n ≡ digits (suc g) n
digits_more zero g n h k = digits_small zero n (omega arith) ∙ sym (digits_small g n (omega arith))
digits_more (suc f) zero n h k = digits_small (suc f) n (omega arith) ∙ sym (digits_small zero n (omega arith))
digits_more (suc f) (suc g) n h k =
    by_ten n
    (λ l. digits_small (suc f) n l ∙ sym (digits_small (suc g) n l))
    (λ l. digits_large (suc f) n l ∙ ap (λ (s : Str). s ++ ((48 + n % 10) ∷ [])) (digits_more f g (n / 10) (omega arith) (omega arith))
    ∙ sym (digits_large (suc g) n l))

pub decimal_small : (n : ℕ) → n < 10 → decimal n ≡ (48 + n) ∷ []
unfolding decimal
decimal_small n h = digits_small n n h

pub decimal_large : (n : ℕ) → 10 ≤ n → decimal n ≡ decimal (n / 10) ++ ((48 + n % 10) ∷ [])
unfolding decimal
decimal_large zero h = absurd (omega arith)
decimal_large (suc m) h =
    digits_large (suc m) (suc m) h ∙ ap (λ (s : Str). s ++ ((48 + suc m % 10) ∷ [])) (digits_more m (suc m / 10) (suc m / 10) (omega arith) (omega arith))

pub decimal_tenth : (n : ℕ) → 10 ≤ n → length (decimal n) ≡ length (decimal (n / 10)) + 1
decimal_tenth n h = ap length (decimal_large n h) ∙ length-append (decimal (n / 10)) ((48 + n % 10) ∷ [])

-- Ten times ten, k times.
ten : ℕ → ℕ
ten zero = 10
ten (suc k) = ten k * 10

decimal_length : (k n : ℕ) → n < ten k → length (decimal n) ≤ suc k
unfolding ten
decimal_length zero n h = rw (decimal_small n h) (omega arith)
decimal_length (suc k) n h =
    by_ten n
    (λ l. rw (decimal_small n l) (omega arith))
    (λ l. rw (decimal_tenth n l) (omega (arith, decimal_length k (n / 10) (omega arith))))

pub decimal_short : (n : ℕ) → n < 4294967296 → length (decimal n) ≤ 10
unfolding ten
decimal_short n h = decimal_length 9 n (omega arith)

-- ---- Read back

digit_ok : (b : ℕ) → 48 ≤ b → b ≤ 57 → byte_ok Digit b ≡ true
unfolding byte_ok
digit_ok b g h = rw (le-leb 48 b g, le-leb b 57 h) refl

all_then : (s : Str) (d : ℕ) → All Digit s → byte_ok Digit d ≡ true → All Digit (s ++ (d ∷ []))
all_then [] d a e = (e, tt)
all_then (b ∷ s) d a e = (a.0, all_then s d a.1 e)

value_then : (v : ℕ) (s : Str) (d : ℕ) → value_from v (s ++ (d ∷ [])) ≡ value_from v s * 10 + (d - 48)
unfolding value_from
value_then v [] d = refl
value_then v (b ∷ s) d = value_then (v * 10 + (b - 48)) s d

-- Digits of the number; the first is 0 only of 0.
record Written (ds : Str) (n : ℕ) : Type 0 where
  digits : All Digit ds
  some : 0 < length ds
  lead : get_or ds 0 0 ≡ 48 → n ≡ 0
  value : value_from 0 ds ≡ n

written_small : (n : ℕ) → n < 10 → Written ((48 + n) ∷ []) n
unfolding value_from
written_small n h = record { digits = (digit_ok (48 + n) (omega arith) (omega arith), tt); some = omega arith; lead = λ e. omega arith; value = omega arith }

written_large : (n : ℕ) (s : Str) → 10 ≤ n → Written s (n / 10) → Written (s ++ ((48 + n % 10) ∷ [])) n
written_large n s h w = record {
  digits = all_then s (48 + n % 10) w.digits (digit_ok (48 + n % 10) (omega arith) (omega arith));
  some = rw (length-append s ((48 + n % 10) ∷ [])) (omega arith);
  lead = λ e. absurd (omega (arith, w.lead (sym (get_or-append s ((48 + n % 10) ∷ []) 0 0 w.some) ∙ e)));
  value = value_then 0 s (48 + n % 10) ∙ rw w.value (omega arith);
}

written : (k n : ℕ) → n ≤ k → Written (decimal n) n
written zero n h = rw (decimal_small n (omega arith)) (written_small n (omega arith))
written (suc k) n h =
    by_ten n
    (λ l. rw (decimal_small n l) (written_small n l))
    (λ l. rw (decimal_large n l) (written_large n (decimal (n / 10)) l (written k (n / 10) (omega arith))))

pub decimal_reads : (n : ℕ) → n ≤ 4294967295 → Numeral (decimal n) n
decimal_reads n h =
    let w = written n n (omega arith) in
    record {
      digits = w.digits;
      some = w.some;
      lead = λ e. ap (λ (m : ℕ). length (decimal m)) (w.lead e) ∙ ap length (decimal_small 0 (omega arith));
      value = w.value;
      fits = h;
    }
