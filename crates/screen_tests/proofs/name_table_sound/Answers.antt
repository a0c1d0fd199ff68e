-- `screen_tests::name_table_sound` meets its contract.
use Rattle.screen_tests.proofs.name_table_sound.Goals as goal

pub returns : goal.returns
returns c =
    rw c.table_of-t.ensures at c.is_sound.ensures
