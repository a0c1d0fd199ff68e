-- Table::register_open_module_sound meets its contract.
use Rattle.table.proofs.Answers.{open_module_answers}
use Rattle.table.proofs.Table.register_open_module_sound.Goals as goal

pub returns : goal.returns
returns c =
    open_module_answers.1 c.register_sound.ensures
