-- `screen_tests::name_table_find_sound` meets its contract.
use Rattle.screen_tests.proofs.Replies.{finds_replies}
use Rattle.screen_tests.proofs.name_table_find_sound.Goals as goal

pub find_sound-requires : goal.find_sound-requires
find_sound-requires c =
    rw c.table_of-t.ensures c.requires

pub returns : goal.returns
returns c =
    finds_replies c.table_of-t.ensures c.find_sound.ensures c.name_reply.ensures
