-- least_from meets its contract: the tree at hand and what is found say what the whole tree says.
use mathlib.Core.Bool.{false}
use Rattle.match_next.proofs.Least.{Seeking, branches_past}
use Rattle.match_next.proofs.least_from.Given as goal

abbrev pub invariant-loop-at : goal.invariant-loop-at
invariant-loop-at l =
    Seeking l.words l.text (branches_past l.words l.text false l.low) l.root l.at l.found

abbrev pub decreases-loop-at : goal.decreases-loop-at
decreases-loop-at l =
    l.at
