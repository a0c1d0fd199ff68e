-- `screen_tests::name_table_complete` meets its contract.
use Rattle.screen_tests.proofs.Replies.{lists_replies}
use Rattle.screen_tests.proofs.name_table_complete.Goals as goal

pub returns : goal.returns
returns c =
    lists_replies c.table_of-t.ensures c.ask_of.ensures c.complete.ensures
    c.lines_reply.ensures
