-- `note_left` notes the matches of a tree that is all after the prefix: the tree at hand and the notes say the whole.
use Rattle.match_notes.proofs.Noting.{Lefting}
use Rattle.match_notes.proofs.note_left.Given as goal

abbrev pub invariant-loop-at : goal.invariant-loop-at
invariant-loop-at l =
    Lefting l.words l.text l.prefix l.from l.at l.initial.notes l.notes

abbrev pub decreases-loop-at : goal.decreases-loop-at
decreases-loop-at l =
    l.at
