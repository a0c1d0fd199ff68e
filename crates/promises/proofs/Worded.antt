-- The conditions of demand 3 are as worded: refused by no number, covered segment by segment; a name covers itself.
use Prim.Native.Nat.{ℕ, zero, suc, ◌≤◌, ◌<◌}
use mathlib.Core.Path.{◌≡◌, refl}
use mathlib.Core.Logic.{◌↔◌}
use mathlib.Core.Bool.{true}
use mathlib.Core.List.{[], ◌∷◌}
use native.Mathlib.Omega.{arith}
use lib.ListN.{length, get_or}
use Rattle.source.specs.Text.{Query, starts_with}
use Rattle.source.specs.Calls.{Found, found, not_found, refused}
use Rattle.promises.specs.Agreement.{Covers, NotRefused}
use Rattle.source.proofs.Order.{starts_self}

pub not_refused_exactly : {A : Type 0} (f : Found A) → NotRefused f ↔ ((n : ℕ) → f ≡ refused n → ⊥)
not_refused_exactly (found a) = (λ _ n e. let z : ◌≡◌ {A = ℕ} 0 1 = cc in absurd (omega arith), λ _. tt)
not_refused_exactly not_found = (λ _ n e. let z : ◌≡◌ {A = ℕ} 0 1 = cc in absurd (omega arith), λ _. tt)
not_refused_exactly (refused n) = (λ h. absurd h, λ h. h n refl)

-- At least as many segments, and each segment of the query begins the name's segment at its place.
pub covers_exactly : (query name : Query)
    → Covers query name ↔ ((length query ≤ length name)
    × ((i : ℕ) → i < length query → starts_with (get_or name i []) (get_or query i []) ≡ true))
covers_exactly [] name = (λ _. (omega arith, λ i h. absurd (omega arith)), λ _. tt)
covers_exactly (p ∷ query) [] = (λ h. absurd h, λ h. absurd (omega (arith, h.0)))
covers_exactly (p ∷ query) (s ∷ name) = go (covers_exactly query name)
  where
    at : starts_with s p ≡ true
        → ((i : ℕ) → i < length query → starts_with (get_or name i []) (get_or query i []) ≡ true)
        → (i : ℕ) → i < suc (length query) → starts_with (get_or (s ∷ name) i []) (get_or (p ∷ query) i []) ≡ true
    at h f zero l = h
    at h f (suc i) l = f i (omega arith)

    go : Covers query name ↔ ((length query ≤ length name)
        × ((i : ℕ) → i < length query → starts_with (get_or name i []) (get_or query i []) ≡ true))
        → Covers (p ∷ query) (s ∷ name)
        ↔ ((suc (length query) ≤ suc (length name))
        × ((i : ℕ) → i < suc (length query) → starts_with (get_or (s ∷ name) i []) (get_or (p ∷ query) i []) ≡ true))
    go e = (
      λ h. let r = e.0 h.1 in (omega (arith, r.0), at h.0 r.1),
      λ h. (h.1 0 (omega arith), e.1 (omega (arith, h.0), λ i l. h.1 (suc i) (omega arith))),
    )

pub covers_itself : (q : Query) → Covers q q
covers_itself [] = tt
covers_itself (s ∷ q) = (starts_self s, covers_itself q)
