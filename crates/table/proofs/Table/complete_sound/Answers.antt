-- Table::complete_sound meets its contract.
use Rattle.table.proofs.Completes.{completes_table}
use Rattle.table.proofs.Table.complete_sound.Goals as goal

pub complete-answer-requires : goal.complete-answer-requires
complete-answer-requires c =
    c.requires

pub returns : goal.returns
returns c =
    completes_table c.requires c.complete-answer.ensures
