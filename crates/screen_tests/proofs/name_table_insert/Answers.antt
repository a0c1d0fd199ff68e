-- `screen_tests::name_table_insert` meets its contract.
use Rattle.screen_tests.proofs.Replies.{register_replies}
use Rattle.screen_tests.proofs.name_table_insert.Goals as goal

pub returns : goal.returns
returns c =
    register_replies c.table_of-t.ensures (rw c.item_of.ensures at c.insert.ensures) c.reply_of.ensures
