-- branch_above meets its contract: the tree at hand has the branch, and with what is found says what the whole tree says.
use Rattle.match_next.proofs.Least.{Nearing}
use Rattle.match_next.proofs.branch_above.Given as goal

abbrev pub invariant-loop-link : goal.invariant-loop-link
invariant-loop-link l =
    Nearing l.words l.text l.root l.at l.link l.found

abbrev pub decreases-loop-link : goal.decreases-loop-link
decreases-loop-link l =
    l.link
