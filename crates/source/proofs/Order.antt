-- The order of byte strings, as a relation; string-compare decides it.
use Prim.Native.Nat.compare
use Prim.Native.Nat.{ℕ, zero, suc, ◌<◌, compare, Ordering}
use Prim.Native.Nat.{suc-le-suc, zero-le}
use mathlib.Core.Path.{◌≡◌, refl, sym, ap, ◌∙◌}
use mathlib.Core.Logic.{inl, inr}
use mathlib.Core.Bool.{true}
use mathlib.Core.List.{[], ◌∷◌}
use native.Mathlib.Omega.{arith}
use borrow.Author.Tests.{eq-eqb}
use Rattle.source.specs.Text.{Str, then, string_compare, starts_with}
use Rattle.source.specs.Rules.{◌<ˢ◌}

-- numbers
abbrev pub Viewℕ : ℕ → ℕ → Ordering → Type 0
Viewℕ a b Ordering.lt = a < b
Viewℕ a b Ordering.eq = a ≡ b
Viewℕ a b Ordering.gt = b < a

up : (a b : ℕ) (o : Ordering) → Viewℕ a b o → Viewℕ (suc a) (suc b) o
up a b Ordering.lt h = suc-le-suc h
up a b Ordering.eq h = ap suc h
up a b Ordering.gt h = suc-le-suc h

pub compare_view : (a b : ℕ) → Viewℕ a b (compare a b)
compare_view zero zero = refl
compare_view zero (suc b) = rw compare.zero-suc (suc-le-suc zero-le)
compare_view (suc a) zero = rw compare.suc-zero (suc-le-suc zero-le)
compare_view (suc a) (suc b) = rw compare.suc-suc (up a b (compare a b) (compare_view a b))

-- strings
abbrev pub View : Str → Str → Ordering → Type 0
View s t Ordering.lt = s <ˢ t
View s t Ordering.eq = s ≡ t
View s t Ordering.gt = t <ˢ s

cons_view : (a b : ℕ) (s t : Str) (o o' : Ordering) → Viewℕ a b o → View s t o' → View (a ∷ s) (b ∷ t) (then o o')
unfolding then
cons_view a b s t Ordering.lt o' h v = inl h
cons_view a b s t Ordering.eq Ordering.lt h v = inr (h, v)
cons_view a b s t Ordering.eq Ordering.eq h v = cc
cons_view a b s t Ordering.eq Ordering.gt h v = inr (sym h, v)
cons_view a b s t Ordering.gt o' h v = inl h

pub compare_strings : (s t : Str) → View s t (string_compare s t)
unfolding string_compare
compare_strings [] [] = refl
compare_strings [] (b ∷ t) = tt
compare_strings (a ∷ s) [] = tt
compare_strings (a ∷ s) (b ∷ t) = cons_view a b s t (compare a b) (string_compare s t) (compare_view a b) (compare_strings s t)

pub <ˢ_irrefl : (s : Str) → s <ˢ s → ⊥
<ˢ_irrefl [] h = h
<ˢ_irrefl (a ∷ s) (inl h) = omega arith
<ˢ_irrefl (a ∷ s) (inr h) = <ˢ_irrefl s h.1

pub <ˢ_trans : (s t u : Str) → s <ˢ t → t <ˢ u → s <ˢ u
<ˢ_trans [] [] u h k = absurd h
<ˢ_trans [] (b ∷ t) [] h k = k
<ˢ_trans [] (b ∷ t) (c ∷ u) h k = tt
<ˢ_trans (a ∷ s) [] u h k = absurd h
<ˢ_trans (a ∷ s) (b ∷ t) [] h k = k
<ˢ_trans (a ∷ s) (b ∷ t) (c ∷ u) (inl h) (inl k) = inl (omega arith)
<ˢ_trans (a ∷ s) (b ∷ t) (c ∷ u) (inl h) (inr k) = inl (omega arith)
<ˢ_trans (a ∷ s) (b ∷ t) (c ∷ u) (inr h) (inl k) = inl (omega arith)
<ˢ_trans (a ∷ s) (b ∷ t) (c ∷ u) (inr h) (inr k) = inr (h.0 ∙ k.0, <ˢ_trans s t u h.1 k.1)

pub compare_self : (s : Str) → string_compare s s ≡ Ordering.eq
compare_self s = go (string_compare s s) (compare_strings s s)
  where
    go : (o : Ordering) → View s s o → o ≡ Ordering.eq
    go Ordering.lt v = absurd (<ˢ_irrefl s v)
    go Ordering.eq v = refl
    go Ordering.gt v = absurd (<ˢ_irrefl s v)

pub starts_self : (s : Str) → starts_with s s ≡ true
unfolding starts_with
starts_self [] = refl
starts_self (a ∷ s) = rw (eq-eqb a a refl) (starts_self s)
