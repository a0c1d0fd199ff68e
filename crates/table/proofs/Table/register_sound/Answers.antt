-- Table::register_sound meets its contract.
use Rattle.register_kind.proofs.Shapes.{cut_used, cut_call}
use Rattle.table.proofs.Answers.{answers_refused, answers_accepted}
use mathlib.Core.Path.{sym}
use lib.Seq.{length-take-le}
use Rattle.table.proofs.Table.register_sound.Goals as goal

pub slice_bounds-key-end : goal.slice_bounds-key-end
slice_bounds-key-end c =
    sym (length-take-le _ _ c.key_size-n.ensures.1)

pub check-requires : goal.check-requires
check-requires c =
    record { sound = c.requires; no_key = cut_used c.args.entry.kind c.args.key.now c.key_size-n.ensures.0 }

pub write-h-requires : goal.write-h-requires
write-h-requires c =
    rw c.in-Ok.is at c.check.ensures

pub returns-in-Err : goal.returns-in-Err
returns-in-Err c =
    let a = c.args in
    answers_refused (rw (cut_call a.entry.kind a.key.now c.key_size-n.ensures.0 a.host.now a.other.now) at
    (rw c.in-Err.is at c.check.ensures))

pub returns-in-Ok : goal.returns-in-Ok
returns-in-Ok c =
    let a = c.args in
    answers_accepted (rw (cut_call a.entry.kind a.key.now c.key_size-n.ensures.0 a.host.now a.other.now) at
    (rw c.in-Ok.is at c.check.ensures).rows)
    (rw (cut_call a.entry.kind a.key.now c.key_size-n.ensures.0 a.host.now a.other.now) at c.write-h.ensures)
