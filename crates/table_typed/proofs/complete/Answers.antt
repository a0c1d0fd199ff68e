-- `table_typed::complete` meets its contract.
use Rattle.table_typed.proofs.Completes.{asked_at, told_at}
use Rattle.table_typed.proofs.complete.Goals as goal

pub store_lines-requires : goal.store_lines-requires
store_lines-requires c = asked_at c.complete_flat-r.ensures c.lines_in-n.ensures c.complete_flat-r.auto.flat

pub returns : goal.returns
returns c = told_at c.complete_flat-r.ensures c.lines_in-n.ensures c.store_lines.ensures
