-- `descend` notes the matches of a tree past a bound: the tree at hand and the notes say the whole.
use Rattle.match_notes.proofs.Noting.{Descending}
use Rattle.match_notes.proofs.descend.Given as goal

abbrev pub invariant-loop-at : goal.invariant-loop-at
invariant-loop-at l =
    Descending l.words l.text l.prefix l.low l.strict l.from l.at l.initial.notes l.notes

abbrev pub decreases-loop-at : goal.decreases-loop-at
decreases-loop-at l =
    l.at
