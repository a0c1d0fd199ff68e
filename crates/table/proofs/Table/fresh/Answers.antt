-- Table::fresh meets its contract.
use Rattle.memory_table.proofs.Table.{fresh_memory_sound, fresh_state}
use Rattle.table.proofs.Table.fresh.Goals as goal

pub returns : goal.returns
returns c =
    record { sound = fresh_memory_sound; reads = fresh_state }
