-- next meets the contract of an iterator over the segments.
use native.Mathlib.Omega.{arith}
use lib.ListN.{length, length-take}
use mathlib.Core.Path.{ap, sym, ◌∙◌}
use borrow.Author.Tests.{eqb-true, eqb-false}
use Rattle.text_query.proofs.Segments.{before_within, segments_none, segments_cut}
use Rattle.text_query.proofs.QuerySegmentsIterator.next.Goals as goal

pub returns-then-is_empty-clause-steps : goal.returns-then-is_empty-clause-steps
returns-then-is_empty-clause-steps c =
    let none = segments_none _ (eqb-true _ _ (sym c.is_empty.ensures ∙ c.if-is_empty.true)) in (none, none)

pub overflow_add-n : goal.overflow_add-n
overflow_add-n c =
    omega (arith, c.segment_length-n.ensures, before_within c.args.self.now.rest.now)

pub slice_bounds-result-end : goal.slice_bounds-result-end
slice_bounds-result-end c =
    omega (arith, c.segment_length-n.ensures, before_within c.args.self.now.rest.now, length-take c.segment_length-n.result c.args.self.now.rest.now)

pub returns-clause-steps : goal.returns-clause-steps
returns-clause-steps c =
    segments_cut _ _ _ c.segment_length-n.ensures c.min.ensures (omega (arith, eqb-false _ _ (sym c.is_empty.ensures ∙ c.if-is_empty.false)))

pub returns-clause-goes : goal.returns-clause-goes
returns-clause-goes c =
    let cut = segments_cut c.args.self.now.rest.now _ _ c.segment_length-n.ensures c.min.ensures
    (omega (arith, eqb-false _ _ (sym c.is_empty.ensures ∙ c.if-is_empty.false))) in
    record { on = λ _. (tt, tt, omega (arith, ap length cut)); keeps = tt; rests = λ _. tt }
