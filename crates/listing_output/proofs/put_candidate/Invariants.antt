-- `listing_output::put_candidate` meets its contract. The loop's invariant: the first keys are written, each with a dot.
use Rattle.listing_output.proofs.Texts.{Joining}
use Rattle.listing_output.proofs.put_candidate.Given as goal

abbrev pub invariant-loop-link : goal.invariant-loop-link
invariant-loop-link l =
    Joining l.words l.text l.path.links l.path.n l.initial.out l.out l.at l.end l.link-index
