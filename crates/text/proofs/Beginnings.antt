-- The order of two texts by the numbers of their beginnings.
use Prim.Native.Nat.{Ordering}
use Prim.Native.Nat.{ℕ, zero, suc, ◌+◌, ◌*◌, ◌^◌, ◌≤◌, ◌<◌}
use mathlib.Core.Path.{◌≡◌, refl, sym}
use mathlib.Core.List.{[], ◌∷◌}
use native.Mathlib.Decide.{ℕ_discrete}
use native.Mathlib.Nat.{pow-suc, pow-le-pow_right}
use native.Mathlib.Numerals.{add-one}
use native.Mathlib.Omega.{arith}
use lib.ListN.{length, get_or, get_or-eq_default}
use Rattle.source.specs.Text.{Str, then, string_compare}
use Rattle.text.specs.Text.{leading, beginning}
use Rattle.text.proofs.Texts.{compare_is}

-- Each one is a byte.
abbrev pub Bytes : Str → Type 0
Bytes s = (j : ℕ) → get_or s j 0 < 256

-- ---- The number by one byte more

-- The first i bytes are counted.
pub record Leading (s : Str) (n i : ℕ) : Type 0 where
  pub few : i ≤ 8
  pub is : n ≡ leading i s
  pub below : n < 256 ^ i

pub leading_none : (s : Str) → Leading s 0 0
unfolding leading
leading_none s = record { few = omega arith; is = refl; below = omega arith }

module _ {s : Str} {n i : ℕ} (o : Leading s n i) (h : i < 8) where
  pub leading_fits : n * 256 + 255 < 2 ^ 64
  leading_fits = omega (arith, o.below, pow-le-pow_right {n = 256} (omega arith) {i = i} {j = 7} (omega arith))

  pub leading_byte : get_or s i 0 < 256 → Leading s (n * 256 + get_or s i 0) (i + 1)
  unfolding leading
  leading_byte b = rw (add-one i) (record { few = omega arith; is = rw o.is; below = omega (arith, o.below, pow-suc 256 i) })

  pub leading_end : length s ≤ i → Leading s (n * 256) (i + 1)
  leading_end e =
      let z : get_or s i 0 ≡ 0 = get_or-eq_default s 0 e in
      let k : n * 256 + get_or s i 0 ≡ n * 256 = omega arith in
      rw k at (leading_byte (omega arith))

-- ---- What the numbers say

-- The text a comes before b.
pub record Before (a b : Str) : Type 0 where
  pub is_less : string_compare a b ≡ Ordering.lt
  pub is_more : string_compare b a ≡ Ordering.gt

-- The first byte that differs, with 0 past the end, decides.
by_byte : (a b : Str) (k : ℕ) → ((j : ℕ) → j < k → get_or a j 0 ≡ get_or b j 0) → get_or a k 0 < get_or b k 0
    → Before a b
unfolding string_compare then
by_byte [] [] k e h = absurd (omega arith)
by_byte [] (y ∷ b) k e h = record { is_less = refl; is_more = refl }
by_byte (x ∷ a) [] k e h = absurd (omega arith)
by_byte (x ∷ a) (y ∷ b) zero e h = record { is_less = rw (compare_is x y Ordering.lt h); is_more = rw (compare_is y x Ordering.gt h) }
by_byte (x ∷ a) (y ∷ b) (suc k) e h =
    let f : x ≡ y = e 0 (omega arith) in
    let r = by_byte a b k (λ j l. e (suc j) (omega arith)) h in
    record {
      is_less = rw (compare_is x y Ordering.eq f) r.is_less;
      is_more = rw (compare_is y x Ordering.eq (sym f)) r.is_more;
    }

module _ (a b : Str) (p : Bytes a) (q : Bytes b) where
  -- Texts with the same number have the same bytes.
  same_bytes : (k : ℕ) → leading k a ≡ leading k b → (j : ℕ) → j < k → get_or a j 0 ≡ get_or b j 0
  unfolding leading
  same_bytes zero e j h = absurd (omega arith)
  same_bytes (suc k) e j h =
      elim (ℕ_discrete j k) [
        | yes f ↦ rw f (omega (arith, p k, q k))
        | no n ↦ same_bytes k (omega (arith, p k, q k)) j (omega arith)
      ]

  leading_says : (k : ℕ) → leading k a < leading k b → Before a b
  unfolding leading
  leading_says zero h = absurd (omega arith)
  leading_says (suc k) h =
      elim (ℕ_discrete (leading k a) (leading k b)) [
        | yes e ↦ by_byte a b k (same_bytes k e) (omega arith)
        | no n ↦ leading_says k (omega (arith, p k, q k))
      ]

  -- The text with the smaller number comes before the other.
  pub beginning_says : beginning a < beginning b → Before a b
  beginning_says h = leading_says 8 h
