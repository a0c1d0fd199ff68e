-- `screen_tests::reply_of` meets its contract.
use Rattle.screen_tests.proofs.reply_of.Goals as goal

pub returns : goal.returns
returns c =
    rw c.refusal_of.ensures
