-- beginning meets its contract: n is the number of the first i bytes.
use Rattle.text.proofs.Beginnings.{Leading}
use Rattle.text.proofs.beginning.Given as goal

abbrev pub invariant-loop-i : goal.invariant-loop-i
invariant-loop-i l =
    Leading l.s l.n l.i
