-- `screen_tests::name_table_open_namespace` meets its contract.
use Rattle.screen_tests.proofs.Replies.{register_replies}
use Rattle.screen_tests.proofs.name_table_open_namespace.Goals as goal

pub returns : goal.returns
returns c =
    register_replies c.table_of-t.ensures c.register_open_namespace.ensures c.reply_of.ensures
