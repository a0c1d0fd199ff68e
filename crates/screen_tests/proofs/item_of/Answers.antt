-- `screen_tests::item_of` meets its contract.
use Rattle.screen_tests.proofs.item_of.Goals as goal

pub returns : goal.returns
returns c =
    rw c.kind_of.ensures
