-- Table::register meets its contract.
use mathlib.Core.Path.{◌∙◌}
use Rattle.memory.proofs.Says.{says_holds}
use Rattle.table.proofs.Says.{says_same}
use Rattle.table.proofs.Answers.{answers_unsound}
use Rattle.table.proofs.Table.register.Goals as goal

pub register_sound-requires : goal.register_sound-requires
register_sound-requires c =
    says_holds _ c.is_sound.ensures c.if-is_sound.true

pub returns-then-is_sound : goal.returns-then-is_sound
returns-then-is_sound c b h =
    rw (says_same _ b c.is_sound.result h c.is_sound.ensures ∙ c.if-is_sound.true) c.register_sound.ensures

pub returns : goal.returns
returns c b h =
    rw (says_same _ b c.is_sound.result h c.is_sound.ensures ∙ c.if-is_sound.false) answers_unsound
