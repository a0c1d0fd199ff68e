-- least_of meets its contract: the tree at hand and what is found say what the whole tree says.
use Rattle.find_tree.specs.Links.{branches}
use Rattle.match_next.proofs.Least.{Seeking}
use Rattle.match_next.proofs.least_of.Given as goal

abbrev pub invariant-loop-at : goal.invariant-loop-at
invariant-loop-at l =
    Seeking l.words l.text (branches l.words) l.root l.at l.found

abbrev pub decreases-loop-at : goal.decreases-loop-at
decreases-loop-at l =
    l.at
