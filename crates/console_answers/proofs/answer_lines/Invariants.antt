-- `answer_lines` meets its contract.
use Rattle.console_answers.proofs.Talked.{Going}
use Rattle.console_questions.specs.RowReplies.{room}
use lib.ListN.{length}
use Prim.Native.Nat.{◌-◌}
use mathlib.Core.Path.{◌≡◌}
use Rattle.console_answers.proofs.answer_lines.Given as goal

abbrev pub invariant-loop-reply : goal.invariant-loop-reply
invariant-loop-reply l =
    (l.size ≡ room l.initial.flat l.initial.pane) × Going l.initial.words l.initial.text l.initial.t l.input l.from l.initial.flat l.initial.pane
    l.initial.reply l.words l.text l.flat l.pane l.reply l.t l.at l.i

abbrev pub decreases-loop-reply : goal.decreases-loop-reply
decreases-loop-reply l =
    length l.input - l.i
