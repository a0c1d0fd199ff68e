-- What a tally says past the limits.
use Prim.Native.Nat.{ℕ, ◌+◌, ◌<◌, ◌≤◌}
use mathlib.Core.Path.{◌≡◌, refl}
use mathlib.Core.Logic.{◌⊎◌, inl, inr}
use native.Mathlib.Omega.{arith}
use Rattle.listing_output.specs.declared.run.Tally.{Tally}
use Rattle.listing_output.specs.declared.run.Limits.{Limits}
use Rattle.listing_line.specs.Goes.{Capped, Past}

over : (limit x k a : ℕ) → limit < x → Capped limit (x + k) a → limit < a
over limit x k a h (inl e) = omega arith
over limit x k a h (inr p) = p.1

module _ (lim : Limits) where
  pub past_more : {i b : ℕ} (n m : ℕ) → Past lim i b → Past lim (i + n) (b + m)
  past_more n m (inl h) = inl (omega arith)
  past_more n m (inr h) = inr (omega arith)

  pub not_past : {P : Type 0} {n b : ℕ} → n ≤ lim.lines → b ≤ lim.bytes → Past lim n b → P
  not_past f g (inl h) = absurd (omega arith)
  not_past f g (inr h) = absurd (omega arith)

  abbrev Tells : (n b : ℕ) (τ : Tally) → Type 0
  Tells n b τ = ((τ.lines ≡ n) × (τ.bytes ≡ b)) ⊎ (Past lim n b × Past lim τ.lines τ.bytes)

  module _ {n b : ℕ} (τ : Tally) where
    -- Within the limits it is exact.
    pub tells_is : n ≤ lim.lines → b ≤ lim.bytes → Tells n b τ → (τ.lines ≡ n) × (τ.bytes ≡ b)
    tells_is f g (inl p) = p
    tells_is f g (inr p) = not_past f g p.0

    pub tally_is : τ.lines ≤ lim.lines → τ.bytes ≤ lim.bytes → Tells n b τ → (τ.lines ≡ n) × (τ.bytes ≡ b)
    tally_is f g (inl p) = p
    tally_is f g (inr p) = not_past f g p.1

    -- A tally past the limits is of totals past them.
    pub tells_past : Past lim τ.lines τ.bytes → Tells n b τ → Past lim n b
    tells_past p (inl e) = rw (e.0, e.1) at p
    tells_past p (inr q) = q.0

  -- n lines and m bytes more.
  module _ (n m : ℕ) (τ τ' : Tally)
      (more_lines : (x : ℕ) → Capped lim.lines x τ.lines → Capped lim.lines (x + n) τ'.lines)
      (more_bytes : (x : ℕ) → Capped lim.bytes x τ.bytes → Capped lim.bytes (x + m) τ'.bytes) where
    both : (i b : ℕ) → Capped lim.lines (i + n) τ'.lines → Capped lim.bytes (b + m) τ'.bytes
        → Tells (i + n) (b + m) τ'
    both i b (inl e) (inl f) = inl (e, f)
    both i b (inr p) f = inr (inl p.0, inl p.1)
    both i b (inl e) (inr p) = inr (inr p.0, inr p.1)

    still : Past lim τ.lines τ.bytes → Past lim τ'.lines τ'.bytes
    still (inl h) = inl (over lim.lines τ.lines n τ'.lines h (more_lines τ.lines (inl refl)))
    still (inr h) = inr (over lim.bytes τ.bytes m τ'.bytes h (more_bytes τ.bytes (inl refl)))

    pub tells_more : (i b : ℕ) → Tells i b τ → Tells (i + n) (b + m) τ'
    tells_more i b (inl p) = both i b (more_lines i (inl p.0)) (more_bytes b (inl p.1))
    tells_more i b (inr p) = inr (past_more n m p.0, still p.1)
