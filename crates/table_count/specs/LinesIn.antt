-- How many lines a completion lists.
use Rattle.std.specs.Prelude.{ℕ, Err, Ok, Result}
use Rattle.listing.specs.declared.Listed.{Listed}
use Rattle.refusals.specs.declared.Refusal.{Refusal}

-- How many lines an answer lists.
abbrev pub lines_in : Result Listed Refusal → ℕ
lines_in (Ok listed) = listed.lines
lines_in (Err r) = 0
