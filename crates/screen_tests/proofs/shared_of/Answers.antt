-- `screen_tests::shared_of` meets its contract.
use Rattle.screen_tests.proofs.shared_of.Goals as goal

pub returns : goal.returns
returns c =
    rw (← c.lines_reply.ensures) c.shared_reply.ensures
