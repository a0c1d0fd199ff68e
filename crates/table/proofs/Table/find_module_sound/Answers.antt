-- Table::find_module_sound meets its contract.
use Rattle.table.proofs.Finds.{finds_module_sound}
use Rattle.table.proofs.Table.find_module_sound.Goals as goal

pub find_module-answer-requires : goal.find_module-answer-requires
find_module-answer-requires c =
    c.requires

pub returns : goal.returns
returns c =
    finds_module_sound c.requires c.find_module-answer.ensures
