-- Table::find meets its contract.
use Rattle.memory.proofs.Says.{says_holds, says_fails}
use Rattle.table.proofs.Finds.{finds_unsound}
use Rattle.table.proofs.Table.find.Goals as goal

pub find_sound-requires : goal.find_sound-requires
find_sound-requires c =
    says_holds _ c.is_sound.ensures c.if-is_sound.true

pub returns-then-is_sound : goal.returns-then-is_sound
returns-then-is_sound c =
    c.find_sound.ensures

pub returns : goal.returns
returns c =
    finds_unsound (says_fails _ c.is_sound.ensures c.if-is_sound.false)
