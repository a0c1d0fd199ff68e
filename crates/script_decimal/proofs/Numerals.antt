-- Laws of digits and the number that they are read as.
use mathlib.Core.Path.{◌≡◌, refl, sym, ap, ◌∙◌}
use mathlib.Core.Bool.{Bool, true, false, ◌&&◌}
use mathlib.Core.List.{[], ◌∷◌}
use Prim.Native.Nat.{ℕ, ◌+◌, ◌-◌, ◌*◌, ◌<◌, ◌≤◌}
use native.Mathlib.Omega.{arith}
use native.Mathlib.Numerals.{add-one}
use lib.Dec.{leb}
use lib.ListN.{length, get_or, take, drop}
use lib.Seq.{drop-cons, drop-length, take-length}
use borrow.Author.Tests.{leb-true}
use Rattle.script_decimal.specs.declared.Sort.TheVariants.{Digit}
use Rattle.script_decimal.specs.Bytes.{Str, byte_ok, All}
use Rattle.script_decimal.specs.Numerals.{value_from, Valued}
use Rattle.script_decimal.proofs.Bytes.{true_false, sort_at, all_more}

and_both : (a b : Bool) → a && b ≡ true → (a ≡ true) × (b ≡ true)
and_both true b e = (refl, e)
and_both false b e = absurd (true_false e refl)

pub digit_bounds : (b : ℕ) → byte_ok Digit b ≡ true → (48 ≤ b) × (b ≤ 57)
unfolding byte_ok
digit_bounds b e =
    let p = and_both (leb 48 b) (leb b 57) e in
    (leb-true 48 b p.0, leb-true b 57 p.1)

pub value_step : (v : ℕ) (s : Str) (i : ℕ) → i < length s
    → value_from v (drop i s) ≡ value_from (v * 10 + (get_or s i 0 - 48)) (drop (i + 1) s)
unfolding value_from
value_step v s i l = rw (add-one i, drop-cons s i 0 l) refl

pub value_end : (v : ℕ) (s : Str) (i : ℕ) → i ≡ length s → value_from v (drop i s) ≡ v
unfolding value_from
value_end v s i e = rw (e, drop-length s) refl

pub value_grows : (v : ℕ) (s : Str) → v ≤ value_from v s
unfolding value_from
value_grows v [] = omega arith
value_grows v (d ∷ s) = omega (arith, value_grows (v * 10 + (d - 48)) s)

-- ---- `value`

-- The first i digits are read, and v is their number.
pub record Counted (ds : Str) (v i : ℕ) : Type 0 where
  pub below : i ≤ length ds
  pub digits : All Digit (take i ds)
  pub value : value_from 0 ds ≡ value_from v (drop i ds)
  pub fits : v ≤ 4294967295

module _ {ds : Str} {v i : ℕ} (k : Counted ds v i) where
  pub counted_done : i ≡ length ds → Valued ds v
  counted_done e = record {
    digits = rw (e, take-length ds) at k.digits;
    value = k.value ∙ value_end v ds i e;
    fits = k.fits;
  }

  module _ (l : i < length ds) where
    pub counted_other : byte_ok Digit (get_or ds i 0) ≡ false → (n : ℕ) → Valued ds n → ⊥
    counted_other h n r = true_false (sort_at Digit ds i r.digits l) h

    pub counted_over : 4294967295 < v * 10 + (get_or ds i 0 - 48) → (n : ℕ) → Valued ds n → ⊥
    counted_over h n r = omega (arith, r.value, r.fits, k.value, value_step v ds i l, value_grows (v * 10 + (get_or ds i 0 - 48)) (drop (i + 1) ds))

    pub counted_more : byte_ok Digit (get_or ds i 0) ≡ true → {w : ℕ} → w ≡ v * 10 + (get_or ds i 0 - 48)
        → w ≤ 4294967295
        → Counted ds w (i + 1)
    counted_more h {w} e f = record {
      below = omega arith;
      digits = rw (add-one i) (all_more Digit ds i l k.digits h);
      value = k.value ∙ value_step v ds i l ∙ ap (λ (x : ℕ). value_from x (drop (i + 1) ds)) (sym e);
      fits = f;
    }
