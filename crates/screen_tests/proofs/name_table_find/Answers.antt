-- `screen_tests::name_table_find` meets its contract.
use Rattle.screen_tests.proofs.Replies.{finds_replies}
use Rattle.screen_tests.proofs.name_table_find.Goals as goal

pub returns : goal.returns
returns c =
    finds_replies c.table_of-t.ensures c.find.ensures c.name_reply.ensures
