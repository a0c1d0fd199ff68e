-- `table_typed::complete_flat` meets its contract.
use mathlib.Core.Path.{sym}
use native.Mathlib.Omega.{arith}
use lib.Seq.{length-take-le}
use Rattle.memory.proofs.Says.{says_holds, says_fails}
use Rattle.table_typed.proofs.FlatCompletes.{flat_completes, flat_unsound}
use Rattle.table_typed.proofs.complete_flat.Goals as goal

pub slice_bounds-complete_sound-end-then-is_sound : goal.slice_bounds-complete_sound-end-then-is_sound
slice_bounds-complete_sound-end-then-is_sound c =
    sym (length-take-le c.bytes_for-lent.result c.args.flat.now
    (omega (arith, c.bytes_for-lent.ensures)))

pub complete_sound-requires : goal.complete_sound-requires
complete_sound-requires c =
    says_holds _ c.is_sound.ensures c.if-is_sound.true

pub returns-then-is_sound : goal.returns-then-is_sound
returns-then-is_sound c =
    flat_completes (says_holds _ c.is_sound.ensures c.if-is_sound.true) c.bytes_for-lent.ensures c.complete_sound.ensures

pub returns : goal.returns
returns c =
    flat_unsound (says_fails _ c.is_sound.ensures c.if-is_sound.false)
