-- `merge::Merge::next` meets its contract. The loop passes over cells with the key of the last entry; the measure is how many branches the cells have left.
use Rattle.merge.specs.Stream.{left_in, state_of}
use Rattle.merge.proofs.Steps.{PassingAll}
use Rattle.merge.proofs.Merge.next.Given as goal

abbrev pub invariant-loop-given : goal.invariant-loop-given
invariant-loop-given l =
    PassingAll l.words l.text l.prefix (state_of l.initial.self) (state_of l.self)

abbrev pub decreases-loop-given : goal.decreases-loop-given
decreases-loop-given l =
    left_in l.words l.text l.prefix (state_of l.self)
