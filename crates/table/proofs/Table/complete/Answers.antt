-- Table::complete meets its contract.
use Rattle.memory.proofs.Says.{says_holds, says_fails}
use Rattle.table.proofs.Completes.{completes_unsound}
use Rattle.table.proofs.Table.complete.Goals as goal

pub complete_sound-requires : goal.complete_sound-requires
complete_sound-requires c =
    says_holds _ c.is_sound.ensures c.if-is_sound.true

pub returns-then-is_sound : goal.returns-then-is_sound
returns-then-is_sound c =
    c.complete_sound.ensures

pub returns : goal.returns
returns c =
    completes_unsound (says_fails _ c.is_sound.ensures c.if-is_sound.false)
