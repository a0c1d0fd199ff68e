-- `screen_tests::name_table_insert_sound` meets its contract.
use Rattle.screen_tests.proofs.Replies.{replies_sound}
use Rattle.screen_tests.proofs.name_table_insert_sound.Goals as goal

pub insert_sound-requires : goal.insert_sound-requires
insert_sound-requires c =
    rw c.table_of-t.ensures c.requires

pub returns : goal.returns
returns c =
    replies_sound c.table_of-t.ensures c.requires (rw c.item_of.ensures at c.insert_sound.ensures)
    c.reply_of.ensures
