-- What it is to write a text, or words, into a lent part.
use Rattle.std.specs.Prelude.{ℕ, ◌+◌, ◌≤◌, ◌≡◌, List, ◌++◌, length, take, drop}

-- From d came d′: s stands from at to r, and nothing else changed.
pub record Laid (d d' : List ℕ) (at r : ℕ) (s : List ℕ) : Type 0 where
  pub end : r ≡ at + length s
  pub fits : r ≤ length d
  pub is : d' ≡ take at d ++ (s ++ drop r d)
