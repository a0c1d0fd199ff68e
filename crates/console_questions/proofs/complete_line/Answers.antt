-- `complete_line` meets its contract.
use Rattle.text.specs.Laid.{Laid}
use mathlib.Core.Path.{subst}
use native.Mathlib.Omega.{arith}
use Rattle.console_questions.proofs.Shown.{completes_tells}
use Rattle.console_questions.proofs.complete_line.Goals as goal

pub put_completed-requires : goal.put_completed-requires
put_completed-requires c =
    record {
      rows_shown = (completes_tells c.requires.sound c.complete_sound-l.ensures).shown;
      pane_in_bounds = omega (arith, c.requires.pane_in_bounds);
    }

pub returns : goal.returns
returns c =
    record {
      laid = subst (Laid _ _ _ _)
          (completes_tells c.requires.sound
          c.complete_sound-l.ensures).text_is c.put_completed.ensures;
      lists = record { listing = c.complete_sound-l.result; completes = c.complete_sound-l.ensures };
    }
