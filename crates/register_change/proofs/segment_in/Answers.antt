-- segment_in meets its contract.
use Rattle.register_change.proofs.QueryPlace.{cut_part}
use native.Mathlib.Omega.{arith}
use Rattle.register_change.proofs.segment_in.Goals as goal

pub overflow_cast-result : goal.overflow_cast-result
overflow_cast-result c =
    let pre = c.requires in omega (arith, (cut_part _ _ _ _ c.segment_length.ensures pre.3 pre.0 pre.1).inside, pre.2)

pub returns : goal.returns
returns c =
    let pre = c.requires in cut_part _ _ _ _ c.segment_length.ensures pre.3 pre.0 pre.1
