-- key_size is the definition, by the shape.
use native.Mathlib.Omega.{arith}
use Rattle.register_kind.proofs.key_size.Goals as goal

pub returns-then-s : goal.returns-then-s
returns-then-s c =
    (rw (← c.shape_of-s.ensures, c.if-s.true), omega arith)

pub returns : goal.returns
returns c =
    (rw (← c.shape_of-s.ensures, c.if-s.false), omega arith)
