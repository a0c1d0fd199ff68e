-- `put_rows` meets its contract.
use Prim.Native.Nat.{◌<◌}
use native.Mathlib.Omega.{arith}
use Rattle.text.proofs.Laid.{laid_length}
use Rattle.console_questions.proofs.RowReplies.{rows_going_start, going_texts, going_space, rows_going_on, rows_going_end}
use Rattle.console_questions.proofs.put_rows.Goals as goal

pub loop-i-init : goal.loop-i-init
loop-i-init c =
    rows_going_start c.requires.rows_in (omega (arith, c.requires.n_in_bounds))

pub row_at-r-requires : goal.row_at-r-requires
row_at-r-requires c =
    omega (arith, c.requires.rows_in.whole)

pub put_row-e-requires : goal.put_row-e-requires
put_row-e-requires c =
    let l : c.loop-i.i < c.args.n = omega arith in
    rw c.row_at-r.ensures (record {
      texts_in = (going_texts c.loop-i.invariant l).0;
      row_in_bounds = omega (
        arith,
        going_space c.loop-i.invariant l,
        c.requires.n_in_bounds,
        laid_length c.loop-i.invariant.laid,
      );
    })

pub loop-i-preserved : goal.loop-i-preserved
loop-i-preserved c =
    let l : c.loop-i.i
    < c.args.n = omega arith in
    rows_going_on c.loop-i.invariant l
    (rw c.row_at-r.ensures at c.put_row-e.ensures.0)
    (rw c.row_at-r.ensures at c.put_row-e.ensures.1)

pub shape_of-reply : goal.shape_of-reply
shape_of-reply c =
    laid_length c.loop-i.invariant.laid

pub returns : goal.returns
returns c =
    rows_going_end c.loop-i.invariant (omega arith)
