-- `shared_length` meets its contract: what the first i candidates share is the front of the first.
use Rattle.listing_shared.proofs.Shared.{Narrowed}
use Rattle.listing_shared.proofs.shared_length.Given as goal

abbrev pub invariant-loop-i : goal.invariant-loop-i
invariant-loop-i l =
    Narrowed l.flat l.out l.n l.first l.shared l.i
