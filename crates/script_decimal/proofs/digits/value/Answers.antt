-- `value`: `v` is the number of the digits so far.
use Rattle.std.proofs.Common.{sym, ◌∙◌, arith}
use Rattle.script_decimal.proofs.Numerals.{digit_bounds, counted_more, counted_over, counted_other, counted_done}
use Rattle.script_decimal.proofs.digits.value.Goals as goal

pub returns-then-not-byte_ok : goal.returns-then-not-byte_ok
returns-then-not-byte_ok c =
    counted_other c.loop-b.invariant c.loop-b-test.true (sym c.byte_ok.ensures ∙ c.if-not-byte_ok.true)

pub returns-in_err-checked_mul : goal.returns-in_err-checked_mul
returns-in_err-checked_mul c =
    rw c.from_residual.ensures
    (counted_over c.loop-b.invariant c.loop-b-test.true (omega (arith, c.in_err-checked_mul.ensures)))

pub overflow_sub-b : goal.overflow_sub-b
overflow_sub-b c =
    omega (arith, (digit_bounds _ (sym c.byte_ok.ensures ∙ c.if-not-byte_ok.false)).0)

pub returns-in_err-v : goal.returns-in_err-v
returns-in_err-v c =
    rw c.from_residual-in_err-v.ensures
    (counted_over c.loop-b.invariant c.loop-b-test.true
    (omega (arith, c.in_err-v.ensures, c.in_ok-checked_mul.ensures.1, c.from.ensures)))

pub loop-b-preserved : goal.loop-b-preserved
loop-b-preserved c =
    counted_more c.loop-b.invariant c.loop-b-test.true (sym c.byte_ok.ensures ∙ c.if-not-byte_ok.false)
    (omega (arith, c.in_ok-v.ensures.1, c.in_ok-checked_mul.ensures.1, c.from.ensures))
    (omega (arith, c.in_ok-v.ensures.0, c.in_ok-v.ensures.1))

pub returns : goal.returns
returns c =
    counted_done c.loop-b.invariant (omega arith)
