-- `screen_tests::name_table_include` meets its contract.
use Rattle.screen_tests.proofs.Replies.{register_replies}
use Rattle.screen_tests.proofs.name_table_include.Goals as goal

pub returns : goal.returns
returns c =
    register_replies c.table_of-t.ensures c.register_include.ensures c.reply_of.ensures
