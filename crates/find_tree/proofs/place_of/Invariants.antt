-- place_of meets its contract: what the tree at hand says is what the whole says.
use Rattle.find_tree.proofs.Placed.{Search}
use Rattle.find_tree.proofs.place_of.Given as goal

abbrev pub invariant-loop-link : goal.invariant-loop-link
invariant-loop-link l =
    Search l.words l.text l.root l.key l.link l.count

abbrev pub decreases-loop-link : goal.decreases-loop-link
decreases-loop-link l =
    l.link
