-- `listing_output::put_candidate` meets its contract. The loop's invariant: the first keys are written, each with a dot.
use Rattle.std.proofs.Common.{length-take}
use Rattle.text.proofs.Laid.{laid_length, laid_more}
use Rattle.listing_output.proofs.Texts.{link_at, joining_none, joining_room, joining_more, joining_done}
use native.Mathlib.Omega.{arith}
use Rattle.listing_output.proofs.put_candidate.Goals as goal

pub loop-link-init : goal.loop-link-init
loop-link-init c =
    joining_none (omega (arith, c.requires.branch_in_bounds))

pub put_key-end-requires-clause-branch_in_bounds : goal.put_key-end-requires-clause-branch_in_bounds
put_key-end-requires-clause-branch_in_bounds c =
    let pre = c.requires in
    let k = link_at _ _ _ c.loop-link-test.true in
    rw k.1 (omega (arith, joining_room c.loop-link.invariant k.0 (omega (arith, pre.path_at.len_is, pre.branch_in_bounds))))

pub bounds-out-end : goal.bounds-out-end
bounds-out-end c =
    let pre = c.requires in
    let k = link_at _ _ _ c.loop-link-test.true in
    let e = rw k.1 at c.put_key-end.ensures in
    omega (arith, joining_room c.loop-link.invariant k.0 (omega (arith, pre.path_at.len_is, pre.branch_in_bounds)), e.end, laid_length e)

pub loop-link-preserved : goal.loop-link-preserved
loop-link-preserved c =
    let pre = c.requires in
    let k = link_at _ _ _ c.loop-link-test.true in
    joining_more c.loop-link.invariant k.0 (omega (arith, pre.path_at.len_is, pre.branch_in_bounds)) (rw k.1 at c.put_key-end.ensures)

pub returns : goal.returns
returns c =
    laid_more
    (joining_done c.loop-link.invariant (omega (arith, c.loop-link-test.false, c.requires.path_at.few, length-take c.args.path.now.n c.args.path.now.links)))
    c.put_key.ensures
