-- What two texts share is a beginning of each: common-prefix.
use Prim.Native.Nat.{ℕ, ◌≤◌}
use mathlib.Core.Path.{◌≡◌, refl, sym}
use mathlib.Core.Bool.{Bool, true, false, ◌&&◌, true≢false}
use mathlib.Core.List.{[], ◌∷◌}
use native.Mathlib.Omega.{arith}
use native.Mathlib.Decide.{ℕ_discrete}
use lib.Dec.{eqb}
use lib.ListN.{length}
use borrow.Author.Tests.{eqb-true, eq-eqb, ne_eqb}
use Rattle.source.specs.Text.{Str, starts_with, common_prefix}

-- p is a beginning of s.
abbrev pub Begins : Str → Str → Type 0
Begins p s = starts_with s p ≡ true

-- ---- Beginnings

pub begins_next : (a b : ℕ) (p s : Str) → a ≡ b → Begins p s → Begins (b ∷ p) (a ∷ s)
unfolding starts_with
begins_next a b p s e h = rw (eq-eqb a b e) h

pub begins_parts : (a b : ℕ) (p s : Str) → Begins (b ∷ p) (a ∷ s) → (a ≡ b) × Begins p s
unfolding starts_with
begins_parts a b p s h = go (eqb a b) refl h
  where
    go : (x : Bool) → eqb a b ≡ x → x && starts_with s p ≡ true → (a ≡ b) × Begins p s
    go true e h = (eqb-true a b e, h)
    go false e h = absurd (true≢false (sym h))

pub begins_length : (p s : Str) → Begins p s → length p ≤ length s
unfolding starts_with
begins_length [] s h = omega arith
begins_length (b ∷ p) [] h = absurd (true≢false (sym h))
begins_length (b ∷ p) (a ∷ s) h = omega (arith, begins_length p s (begins_parts a b p s h).1)

-- ---- Of two texts

pub common_same : (a b : ℕ) (s t : Str) → a ≡ b → common_prefix (a ∷ s) (b ∷ t) ≡ a ∷ common_prefix s t
unfolding common_prefix
common_same a b s t e = rw (common_prefix, eq-eqb a b e)

pub common_differ : (a b : ℕ) (s t : Str) → (a ≡ b → ⊥) → common_prefix (a ∷ s) (b ∷ t) ≡ []
unfolding common_prefix
common_differ a b s t n = rw (common_prefix, ne_eqb a b n)

pub common_begins : (s t : Str) → Begins (common_prefix s t) s × Begins (common_prefix s t) t
unfolding common_prefix starts_with
common_begins [] t = (refl, refl)
common_begins (a ∷ s) [] = (refl, refl)
common_begins (a ∷ s) (b ∷ t) =
    elim (ℕ_discrete a b) [
      | yes e ↦ let r = common_begins s t in
          rw (common_prefix, eq-eqb a b e) (begins_next a a (common_prefix s t) s refl r.0, begins_next b a (common_prefix s t) t (sym e) r.1)
      | no n ↦ rw (common_prefix, ne_eqb a b n) (refl, refl)
    ]
