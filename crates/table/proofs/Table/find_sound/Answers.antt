-- Table::find_sound meets its contract.
use Rattle.table.proofs.Finds.{finds_sound}
use Rattle.table.proofs.Table.find_sound.Goals as goal

pub find-answer-requires : goal.find-answer-requires
find-answer-requires c =
    c.requires

pub returns : goal.returns
returns c =
    finds_sound c.requires c.find-answer.ensures
