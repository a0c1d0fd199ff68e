-- `cut_query` cuts before the first dot and after it.
use lib.IntN.{pos}
use mathlib.Core.Path.{refl, sym, ◌∙◌}
use lib.Seq.{length-take-le}
use mir.Syntax.{w32}
use mir.ValLaws.{to_z-of_z}
use borrow.Author.Tests.{eqb-true, eqb-false}
use native.Mathlib.Omega.{arith}
use Rattle.text_query.proofs.Segments.{before_inside}
use Rattle.listing_step.proofs.Cuts.{cuts_none, cuts_some, back_is}
use Rattle.listing_step.proofs.cut_query.Goals as goal

pub returns-then-is_empty : goal.returns-then-is_empty
returns-then-is_empty c =
    cuts_none c.args.query.now _ _ (eqb-true _ 0 (sym c.is_empty.ensures ∙ c.if-is_empty.true)) refl refl

pub slice_bounds-result-end : goal.slice_bounds-result-end
slice_bounds-result-end c =
    let some = eqb-false _ 0 (sym c.is_empty.ensures ∙ c.if-is_empty.false) in
    sym (length-take-le c.segment_length-len.result c.args.query.now
    (omega (arith, c.segment_length-len.ensures, before_inside c.args.query.now c.requires.0 (omega (arith, some)))))

pub slice_bounds-result-count : goal.slice_bounds-result-count
slice_bounds-result-count c =
    let some = eqb-false _ 0 (sym c.is_empty.ensures ∙ c.if-is_empty.false) in
    omega (arith, c.segment_length-len.ensures, before_inside c.args.query.now c.requires.0 (omega (arith, some)))

pub slice_bounds-result-start : goal.slice_bounds-result-start
slice_bounds-result-start c =
    let some = eqb-false _ 0 (sym c.is_empty.ensures ∙ c.if-is_empty.false) in
    omega (arith, c.segment_length-len.ensures, before_inside c.args.query.now c.requires.0 (omega (arith, some)))

pub overflow_add-result : goal.overflow_add-result
overflow_add-result c =
    let some = eqb-false _ 0 (sym c.is_empty.ensures ∙ c.if-is_empty.false) in
    omega (arith, c.segment_length-len.ensures, c.requires.1, before_inside c.args.query.now c.requires.0 (omega (arith, some)))

pub overflow_add-result-2 : goal.overflow_add-result-2
overflow_add-result-2 c =
    let some = eqb-false _ 0 (sym c.is_empty.ensures ∙ c.if-is_empty.false) in
    omega (arith, c.segment_length-len.ensures, c.requires.1, c.requires.2, before_inside c.args.query.now c.requires.0 (omega (arith, some)))

pub overflow_cast-result : goal.overflow_cast-result
overflow_cast-result c =
    let some = eqb-false _ 0 (sym c.is_empty.ensures ∙ c.if-is_empty.false) in
    record {
      sfits = omega (
        arith,
        c.segment_length-len.ensures,
        c.requires.1,
        c.requires.2,
        before_inside c.args.query.now c.requires.0 (omega (arith, some)),
      );
    }

pub returns : goal.returns
returns c =
    let some = eqb-false _ 0 (sym c.is_empty.ensures ∙ c.if-is_empty.false) in
    cuts_some c.args.query.now _ _ _ _ c.requires.0 some c.requires.1 c.requires.2 c.segment_length-len.ensures refl (back_is c.args.query.now _) refl
    (to_z-of_z w32 (pos _) (record {
      sfits = omega (arith, c.segment_length-len.ensures, c.requires.1, c.requires.2, before_inside c.args.query.now c.requires.0 (omega (arith, some)));
    }))
