-- Bytes that may all stand in a part, one after another.
use mathlib.Core.Path.{◌≡◌}
use mathlib.Core.Bool.{Bool, true, false}
use mathlib.Core.List.{[], ◌∷◌}
use Prim.Native.Nat.{ℕ, zero, suc, ◌<◌}
use native.Mathlib.Omega.{arith}
use lib.ListN.{length, get_or, take}
use Rattle.script_decimal.specs.declared.Sort.{Sort}
use Rattle.script_decimal.specs.Bytes.{Str, byte_ok, All}

pub true_false : {b : Bool} → b ≡ true → b ≡ false → ⊥
true_false t f = let z : ◌≡◌ {A = ℕ} 0 1 = cc in omega arith

pub sort_at : (sort : Sort) (s : Str) (i : ℕ) → All sort s → i < length s → byte_ok sort (get_or s i 0) ≡ true
sort_at sort [] i a l = absurd (omega arith)
sort_at sort (b ∷ s) zero a l = a.0
sort_at sort (b ∷ s) (suc i) a l = sort_at sort s i a.1 (omega arith)

pub all_more : (sort : Sort) (s : Str) (i : ℕ) → i < length s → All sort (take i s) → byte_ok sort (get_or s i 0) ≡ true
    → All sort (take (suc i) s)
all_more sort [] i l a e = absurd (omega arith)
all_more sort (b ∷ s) zero l a e = (e, tt)
all_more sort (b ∷ s) (suc i) l a e = (a.0, all_more sort s i (omega arith) a.1 e)
