-- flags_of meets its contract.
use Rattle.refusals.proofs.Rows.{one_flagged, both_flagged}
use Rattle.register_kind.proofs.Shapes.{arguments_of}
use Rattle.register.proofs.flags_of.Goals as goal

pub returns : goal.returns
returns c =
    rw (arguments_of, c.either-2.ensures, c.either.ensures, ← c.shape_of-s.ensures)
    (both_flagged c.key_flags-k.ensures
    (both_flagged (one_flagged c.query_flags-h.ensures) (one_flagged c.other_flags-o.ensures)))
