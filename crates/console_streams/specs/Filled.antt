-- What a read does to the bytes that it is lent, and to what is left to read.
use Rattle.std.specs.Prelude.{ℕ, ◌≤◌, ◌<◌, ◌≡◌, Option, List, length, take, slice_range, Result, IfOk, MatchResult}
use Rattle.std.specs.Io.KnownBytes.{Keeps, Consumes, IsAtEnd}

-- A read leaves the bytes that were there, and what is read stands after them (a read of feed's `Run`). One that failed counts none.
pub record Filled {E : Type 0} (input input' : List ℕ) (have : ℕ) (r : Result ℕ E) : Type 0 where
  pub kept : take have input' ≡ take have input
  pub size : length input' ≡ length input
  pub more : IfOk r (λ n. have ≤ n)
  pub inside : IfOk r (λ n. n ≤ length input')

-- Where it is known what is left to read, what was next stands there now, and none is left where there was room and nothing came.
-- A read that failed took none.
abbrev pub Taken : {E : Type 0} → Option (List ℕ) → Option (List ℕ) → List ℕ → ℕ → Result ℕ E → Type 0
Taken left left' input' have r =
    MatchResult r
    (λ n. Consumes left left' (slice_range input' have n) × (n ≡ have → have < length input' → IsAtEnd left'))
    (λ _. Keeps left left')
