-- `answer_lines` meets its contract.
use Rattle.console_answers.proofs.Talked.{talk_going_start, talk_going_on, talked_out, talked_full}
use mathlib.Core.Path.{refl}
use native.Mathlib.Omega.{arith}
use borrow.Author.Rules.{rules}
use Rattle.console_answers.proofs.answer_lines.Goals as goal

pub loop-reply-init : goal.loop-reply-init
loop-reply-init c =
    (refl, talk_going_start c.requires.sound c.requires.from_in_bounds)

pub overflow_sub-reply : goal.overflow_sub-reply
overflow_sub-reply c =
    omega (arith, c.loop-reply.invariant.1.fits, c.loop-reply.invariant.1.reply_size)

pub slice_bounds-line_end-count : goal.slice_bounds-line_end-count
slice_bounds-line_end-count c =
    omega (arith, c.loop-reply.invariant.1.inside)

pub overflow_add-e : goal.overflow_add-e
overflow_add-e c =
    omega (arith, c.loop-reply.invariant.1.inside, c.line_end.ensures.within)

pub answer-d-requires : goal.answer-d-requires
answer-d-requires c =
    let inv = c.loop-reply.invariant in
    record {
      sound = inv.1.sound;
      pane_in_bounds = omega (arith, inv.1.fits, inv.1.reply_size, inv.1.flat_size, inv.1.pane_size, inv.0);
    }

pub overflow_add-i : goal.overflow_add-i
overflow_add-i c =
    omega (
      arith,
      c.loop-reply.invariant.1.inside,
      c.line_end.ensures.within,
      c.if-e-input.false,
      c.well_formed.1.1.1.0,
    )

pub loop-reply-preserved : goal.loop-reply-preserved
loop-reply-preserved c = (
  c.loop-reply.invariant.0,
  talk_going_on c.loop-reply.invariant.1 c.line_end.ensures (omega (arith, c.line_end.ensures.within)) (search rules)
      (search rules) c.answer-d.ensures,
)

pub shape_of-words-after-loop-reply : goal.shape_of-words-after-loop-reply
shape_of-words-after-loop-reply c =
    c.loop-reply.invariant.1.words.size

pub shape_of-text-after-loop-reply : goal.shape_of-text-after-loop-reply
shape_of-text-after-loop-reply c =
    c.loop-reply.invariant.1.texts.size

pub shape_of-flat-after-loop-reply : goal.shape_of-flat-after-loop-reply
shape_of-flat-after-loop-reply c =
    c.loop-reply.invariant.1.flat_size

pub shape_of-pane-after-loop-reply : goal.shape_of-pane-after-loop-reply
shape_of-pane-after-loop-reply c =
    c.loop-reply.invariant.1.pane_size

pub shape_of-reply-after-loop-reply : goal.shape_of-reply-after-loop-reply
shape_of-reply-after-loop-reply c =
    c.loop-reply.invariant.1.reply_size

pub returns-after-loop-reply : goal.returns-after-loop-reply
returns-after-loop-reply c =
    talked_full c.loop-reply.invariant.1 c.requires.pane_in_bounds
    (omega (arith, c.loop-reply.invariant.0))

pub shape_of-words-then-e-input : goal.shape_of-words-then-e-input
shape_of-words-then-e-input c =
    c.loop-reply.invariant.1.words.size

pub shape_of-text-then-e-input : goal.shape_of-text-then-e-input
shape_of-text-then-e-input c =
    c.loop-reply.invariant.1.texts.size

pub shape_of-flat-then-e-input : goal.shape_of-flat-then-e-input
shape_of-flat-then-e-input c =
    c.loop-reply.invariant.1.flat_size

pub shape_of-pane-then-e-input : goal.shape_of-pane-then-e-input
shape_of-pane-then-e-input c =
    c.loop-reply.invariant.1.pane_size

pub shape_of-reply-then-e-input : goal.shape_of-reply-then-e-input
shape_of-reply-then-e-input c =
    c.loop-reply.invariant.1.reply_size

pub returns-then-e-input : goal.returns-then-e-input
returns-then-e-input c =
    talked_out c.loop-reply.invariant.1 c.line_end.ensures c.if-e-input.true
