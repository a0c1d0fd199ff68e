-- `screen_tests::name_table_complete_shared_sound` meets its contract.
use Rattle.screen_tests.proofs.Replies.{shares_replies}
use Rattle.screen_tests.proofs.name_table_complete_shared_sound.Goals as goal

pub complete_sound-requires : goal.complete_sound-requires
complete_sound-requires c =
    rw c.table_of-t.ensures c.requires

pub returns : goal.returns
returns c =
    shares_replies c.table_of-t.ensures c.ask_of.ensures c.complete_sound.ensures
    c.shared_of.ensures
