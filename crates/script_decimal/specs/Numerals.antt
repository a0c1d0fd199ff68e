-- Numbers in decimal: what digits are read as, and what is written of a number.
use Rattle.std.specs.Prelude.{◌≡◌, true, false, Option, Some, None, [], ◌∷◌, ◌++◌, ℕ, zero, suc, ◌+◌, ◌-◌, ◌*◌, ◌/◌, ◌%◌, ◌<◌, ◌≤◌, ltb, length, get_or}
use Rattle.script_decimal.specs.declared.Sort.TheVariants.{Digit}
use Rattle.script_decimal.specs.Bytes.{Str, All}

-- ---- Read

-- The number that digits are, where v stands before them.
unfoldable pub value_from : ℕ → Str → ℕ
value_from v [] = v
value_from v (d ∷ ds) = value_from (v * 10 + (d - 48)) ds

-- N: decimal, without leading zeros, at most 4294967295.
pub record Numeral (ds : Str) (n : ℕ) : Type 0 where
  pub digits : All Digit ds
  pub some : 0 < length ds
  pub lead : get_or ds 0 0 ≡ 48 → length ds ≡ 1
  pub value : value_from 0 ds ≡ n
  pub fits : n ≤ 4294967295

-- Digits and their number, where it is at most 4294967295.
pub record Valued (ds : Str) (n : ℕ) : Type 0 where
  pub digits : All Digit ds
  pub value : value_from 0 ds ≡ n
  pub fits : n ≤ 4294967295

-- The number of the digits, or that there is none.
abbrev pub ValueSays : Str → Option ℕ → Type 0
ValueSays ds (Some n) = Valued ds n
ValueSays ds None = (n : ℕ) → Valued ds n → ⊥

-- The number that is spelled, or that none is.
abbrev pub NumberSays : Str → Option ℕ → Type 0
NumberSays ds (Some n) = Numeral ds n
NumberSays ds None = (n : ℕ) → Numeral ds n → ⊥

-- ---- Written

-- The digits of a number below ten, or of its tenth and then its last digit; fuel of them at most.
unfoldable pub digits : (fuel n : ℕ) → Str
digits zero n = []
digits (suc fuel) n = elim (ltb n 10) [ true ↦ (48 + n) ∷ [] | false ↦ digits fuel (n / 10) ++ ((48 + n % 10) ∷ []) ]

-- A number in decimal, without leading zeros.
unfoldable pub decimal : ℕ → Str
decimal n = digits (suc n) n
