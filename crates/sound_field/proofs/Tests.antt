-- What tests of numbers, and of two statements together, say.
use Prim.Native.Nat.{ℕ, ◌≤◌}
use mathlib.Core.Path.{◌≡◌, refl}
use mathlib.Core.Bool.{Bool, true, false, ◌&&◌}
use lib.Dec.{eqb, leb}
use borrow.Author.Tests.{eqb-true, eqb-false, leb-true, leb-false}
use native.Mathlib.Omega.{arith}
use Rattle.memory.specs.Sound.{Says}
use Rattle.memory.proofs.Says.{says_iff}

says_by : (b : Bool) {P : Type 0} → (b ≡ true → P) → (b ≡ false → P → ⊥) → Says b P
says_by true f g = f refl
says_by false f g = g refl

pub says_same : (a b : ℕ) → Says (eqb a b) (a ≡ b)
says_same a b = says_by (eqb a b) (eqb-true a b) (eqb-false a b)

pub says_most : (a b : ℕ) → Says (leb a b) (a ≤ b)
says_most a b = says_by (leb a b) (leb-true a b) (λ e h. let g = leb-false a b e in omega arith)

pub says_both : (a b : Bool) (P Q : Type 0) → Says a P → Says b Q → Says (a && b) (P × Q)
says_both true b P Q h i = says_iff b i (λ q. (h, q)) (λ r. r.1)
says_both false b P Q h i = λ r. h r.0
