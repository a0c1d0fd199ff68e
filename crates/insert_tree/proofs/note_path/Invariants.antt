-- note_path meets its contract: what is noted leads from the root to the link at hand.
use Rattle.insert_tree.proofs.Marked.{Marking}
use Rattle.insert_tree.proofs.note_path.Given as goal

abbrev pub invariant-loop-link : goal.invariant-loop-link
invariant-loop-link l =
    Marking l.initial.words l.text l.key l.records l.root l.count l.words l.at l.link

abbrev pub decreases-loop-link : goal.decreases-loop-link
decreases-loop-link l =
    l.link
