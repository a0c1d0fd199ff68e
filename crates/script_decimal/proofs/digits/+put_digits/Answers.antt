-- `put_digits` writes its tenth and then its last digit. The measure is the number.
use Rattle.std.proofs.Common.{refl, ap, arith, length}
use Rattle.text.proofs.Laid.{laid_length, laid_none, laid_next}
use Rattle.script_decimal.proofs.Decimal.{decimal_small, decimal_large, decimal_tenth}
use Rattle.script_decimal.proofs.digits.+put_digits.Goals as goal

pub bounds-out-at : goal.bounds-out-at
bounds-out-at t c = omega (arith, c.requires, ap length (decimal_small c.args.n c.if-n-lt10.true))

pub returns-then-n-lt10 : goal.returns-then-n-lt10
returns-then-n-lt10 t c =
    rw (decimal_small c.args.n c.if-n-lt10.true)
    (laid_next _ (laid_none c.args.out.now c.args.at _ refl (omega (arith, c.requires)))
    (omega (arith, c.requires, ap length (decimal_small c.args.n c.if-n-lt10.true))))

pub put_digits-e-requires : goal.put_digits-e-requires
put_digits-e-requires t c =
    (omega (arith, c.decreases), omega (arith, c.requires, decimal_tenth c.args.n c.if-n-lt10.false))

pub bounds-out-e : goal.bounds-out-e
bounds-out-e t c =
    omega (arith, c.requires, c.put_digits-e.ensures.end, laid_length c.put_digits-e.ensures, decimal_tenth c.args.n c.if-n-lt10.false)

pub returns : goal.returns
returns t c =
    rw (decimal_large c.args.n c.if-n-lt10.false)
    (laid_next _ c.put_digits-e.ensures (omega (arith, c.requires, c.put_digits-e.ensures.end, decimal_tenth c.args.n c.if-n-lt10.false)))
