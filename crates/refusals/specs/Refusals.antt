-- The refusals by number.
use Rattle.std.specs.Prelude.{ℕ, Result, Ok, Err, ⊤}
use Rattle.std.proofs.Math.Option.{Option, none, some}
use Rattle.refusals.specs.declared.Refusal.{Refusal}
use Rattle.refusals.specs.declared.Refusal.TheVariants.{Unsound, Malformed, Empty, TooLong, Crowded, Deep, Full, TextFull, Spent, Lines}

-- The number of a refusal. The rows of a call are a list in the order in which they are looked at: a number says nothing of a row's place in it.
abbrev pub number : Refusal → ℕ
number Unsound = 1
number Malformed = 2
number Empty = 3
number TooLong = 4
number Crowded = 5
number Deep = 6
number Full = 7
number TextFull = 8
number Spent = 9
number Lines = 10

-- The number of the row that a call meets.
abbrev pub row_of : Result ⊤ Refusal → Option ℕ
row_of (Ok x) = none
row_of (Err r) = some (number r)
