-- `screen_tests::name_table_open_module` meets its contract.
use Rattle.screen_tests.proofs.Replies.{register_replies}
use Rattle.screen_tests.proofs.name_table_open_module.Goals as goal

pub returns : goal.returns
returns c =
    register_replies c.table_of-t.ensures c.register_open_module.ensures c.reply_of.ensures
