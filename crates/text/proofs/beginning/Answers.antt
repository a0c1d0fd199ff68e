-- beginning meets its contract: n is the number of the first i bytes.
use Prim.Native.Nat.{◌<◌}
use native.Mathlib.Omega.{arith}
use Rattle.text.proofs.Beginnings.{leading_none, leading_byte, leading_end, leading_fits}
use Rattle.text.proofs.beginning.Goals.{then-i-s, else-i-s}
use Rattle.text.proofs.beginning.Goals as goal

pub loop-i-init : goal.loop-i-init
loop-i-init c =
    leading_none _

pub overflow_mul-n : goal.overflow_mul-n
overflow_mul-n c =
    omega (arith, leading_fits c.loop-i.invariant (omega arith))

pub loop-i-preserved : goal.loop-i-preserved
loop-i-preserved c =
    let o = c.loop-i.invariant in
    let h : c.loop-i.i < 8 = omega arith in
    elim c.if-i-s.branch [
      | then-i-s w ↦ rw (w.n-is, w.from-n.ensures) (leading_byte o h (omega (arith, c.type_inv.s c.loop-i.i)))
      | else-i-s w ↦ rw w.n-is (leading_end o h (omega (arith, w.if-i-s.false)))
    ]
