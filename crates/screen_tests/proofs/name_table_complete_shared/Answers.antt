-- `screen_tests::name_table_complete_shared` meets its contract.
use Rattle.screen_tests.proofs.Replies.{shares_replies}
use Rattle.screen_tests.proofs.name_table_complete_shared.Goals as goal

pub returns : goal.returns
returns c =
    shares_replies c.table_of-t.ensures c.ask_of.ensures c.complete.ensures
    c.shared_of.ensures
