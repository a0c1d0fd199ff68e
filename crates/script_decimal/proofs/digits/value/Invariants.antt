-- `value`: `v` is the number of the digits so far.
use Rattle.script_decimal.proofs.Numerals.{Counted}
use Rattle.script_decimal.proofs.digits.value.Given as goal

abbrev pub invariant-loop-b : goal.invariant-loop-b
invariant-loop-b l =
    Counted l.digits l.v l.b-index
