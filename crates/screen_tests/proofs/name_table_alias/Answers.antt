-- `screen_tests::name_table_alias` meets its contract.
use Rattle.screen_tests.proofs.Replies.{register_replies}
use Rattle.screen_tests.proofs.name_table_alias.Goals as goal

pub returns : goal.returns
returns c =
    register_replies c.table_of-t.ensures c.register_alias.ensures c.reply_of.ensures
