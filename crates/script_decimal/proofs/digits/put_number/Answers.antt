-- `put_number`: a number has ten digits at most.
use native.Mathlib.Omega.{arith}
use Rattle.script_decimal.proofs.Decimal.{decimal_short}
use Rattle.script_decimal.proofs.digits.put_number.Goals as goal

pub put_digits-requires : goal.put_digits-requires
put_digits-requires c =
    omega (arith, decimal_short c.args.n (omega arith))

pub returns : goal.returns
returns c =
    (c.put_digits.ensures, omega (arith, c.put_digits.ensures.end, decimal_short c.args.n (omega arith)))
