-- `step` meets its contract.
use mathlib.Core.Path.{sym}
use native.Mathlib.Omega.{arith}
use lib.Seq.{length-take-le}
use Rattle.console_feed.proofs.Steps.{steps_on, steps_out}
use borrow.Author.Rules.{rules}
use Rattle.console_feed.proofs.step.Goals as goal

pub slice_bounds-answer_lines-end-2 : goal.slice_bounds-answer_lines-end-2
slice_bounds-answer_lines-end-2 c =
    sym (length-take-le c.args.f.have c.args.input.now c.requires.inside.ended)

pub answer_lines-r-requires : goal.answer_lines-r-requires
answer_lines-r-requires c =
    record {
      sound = c.requires.sound;
      pane_in_bounds = c.requires.pane_in_bounds;
      from_in_bounds = omega (
        arith,
        c.requires.inside.started,
        c.requires.inside.ended,
        length-take-le c.args.f.have c.args.input.now c.requires.inside.ended,
      );
    }

pub returns-then-from-r : goal.returns-then-from-r
returns-then-from-r c =
    steps_on (c.requires.inside)
    c.answer_lines-r.ensures (omega arith)

pub returns : goal.returns
returns c =
    steps_out (c.requires.inside)
    (c.answer_lines-r.ensures) (omega arith) (search rules) c.keep-kept.ensures
