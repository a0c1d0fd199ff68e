-- `ask_line` meets its contract.
use mathlib.Core.Path.{refl}
use mathlib.Core.Bool.{true}
use Rattle.console_questions.proofs.ask_line.Goals as goal

pub returns-in-Find : goal.returns-in-Find
returns-in-Find c =
    rw c.in-Find.is (record {
      laid = rw (c.find_sound-f.ensures.says true c.requires.sound) at
          c.put_found.ensures;
      leaves = record { flat_is = refl; pane_is = refl };
    })

pub returns-in-Complete : goal.returns-in-Complete
returns-in-Complete c =
    rw c.in-Complete.is (record { laid = c.complete_line.ensures.laid; leaves = c.complete_line.ensures.lists })

pub returns-in-Modules : goal.returns-in-Modules
returns-in-Modules c =
    rw c.in-Modules.is
    (record { laid = c.complete_line-in-Modules.ensures.laid; leaves = c.complete_line-in-Modules.ensures.lists })
