-- `put_completed` meets its contract.
use Rattle.text.proofs.Laid.{laid_length, laid_more}
use native.Mathlib.Omega.{arith}
use Rattle.console_questions.proofs.put_completed.Goals as goal

pub put_rows-e-requires : goal.put_rows-e-requires
put_rows-e-requires c =
    let p = rw c.in-Ok.is at c.requires.rows_shown in
    record { rows_in = p.0; n_in_bounds = omega (arith, p.1, c.requires.pane_in_bounds) }

pub put_end-requires : goal.put_end-requires
put_end-requires c =
    let p = rw c.in-Ok.is at c.requires.rows_shown in
    omega (arith, c.put_rows-e.ensures.1, p.1, c.requires.pane_in_bounds, laid_length c.put_rows-e.ensures.0)

pub returns-in-Ok : goal.returns-in-Ok
returns-in-Ok c =
    rw c.in-Ok.is (laid_more c.put_rows-e.ensures.0 c.put_end.ensures)

pub returns-in-Err : goal.returns-in-Err
returns-in-Err c =
    rw c.in-Err.is (rw c.from-n.ensures at c.put_refused.ensures)
