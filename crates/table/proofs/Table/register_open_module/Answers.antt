-- Table::register_open_module meets its contract.
use Rattle.table.proofs.Answers.{open_module_answers}
use Rattle.table.proofs.Table.register_open_module.Goals as goal

pub returns : goal.returns
returns c b h =
    open_module_answers.1 (c.register.ensures b h)
