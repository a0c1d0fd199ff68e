-- What is kept of the bytes of a read.
use Rattle.std.specs.Prelude.{ℕ, ◌-◌, min, ◌≡◌, List, ◌++◌, take, drop}

-- Bytes kept of a line: it has at most 2,048, and one more tells that it is too long.
abbrev pub bytes_kept : ℕ
bytes_kept = 2049

-- The first r bytes are those that followed from, as many as are kept at most; the others are as they were.
pub record Moves (input input' : List ℕ) (from have r : ℕ) : Type 0 where
  pub size : r ≡ min (have - from) bytes_kept
  pub is : input' ≡ take r (drop from input) ++ drop r input
