-- What follows from a test's answer.
use Prim.Native.Nat.{ℕ}
use mathlib.Core.Path.{◌≡◌, sym, ◌∙◌}
use mathlib.Core.Bool.{Bool, true, false, true≢false}
use native.Mathlib.Omega.{arith}
use Rattle.memory.specs.Sound.{Says}

pub says_holds : (b : Bool) {P : Type 0} → Says b P → b ≡ true → P
says_holds true h e = h
says_holds false h e = let z : ◌≡◌ {A = ℕ} 0 1 = cc in absurd (omega arith)

pub says_fails : (b : Bool) {P : Type 0} → Says b P → b ≡ false → P → ⊥
says_fails true h e p = let z : ◌≡◌ {A = ℕ} 0 1 = cc in omega arith
says_fails false h e p = h p

-- A test of one statement is a test of an equivalent one.
pub says_iff : (b : Bool) {P Q : Type 0} → Says b P → (P → Q) → (Q → P) → Says b Q
says_iff true h f g = f h
says_iff false h f g = λ q. h (g q)

-- What follows from either answer of a test follows without the test, where it may be shown by contradiction.
pub either_way : {P Q : Type 0} → (((Q → ⊥) → ⊥) → Q) → ((b : Bool) → Says b P → Q) → Q
either_way stable h = stable (λ n. n (h false (λ p. n (h true p))))

-- A test's answer says that the test says-holds.
pub says_true : (b test : Bool) → b ≡ test → Says b (test ≡ true)
says_true true test e = sym e
says_true false test e = λ h. true≢false (sym h ∙ sym e)
