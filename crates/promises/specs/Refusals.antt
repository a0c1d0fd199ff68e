-- Each refusal under exactly its condition.
use Rattle.std.specs.Prelude.{ℕ, ◌≡◌, true, false, List, ◌∷◌, ◌++◌}
use Rattle.source.specs.Calls.{Row, ◌when◌}
use Rattle.source.specs.Shared.{Allˡ}

-- The row does not apply.
abbrev pub Passed : Row → Type 0
Passed (n when b) = b ≡ false

-- The refusal n is that of the first row that applies: the rows before it do not.
pub record FirstRow (rows : List Row) (n : ℕ) : Type 0 where
  pub before : List Row
  pub after : List Row
  pub split : rows ≡ before ++ ((n when true) ∷ after)
  pub passed : Allˡ Passed before
