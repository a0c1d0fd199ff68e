-- with_shared meets its contract.
use Rattle.screen_calls.proofs.with_shared.Goals as goal

pub returns : goal.returns
returns c =
    rw (← c.shared_length-shared.ensures) c.shared_reply.ensures
