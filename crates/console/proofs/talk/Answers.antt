-- `talk` meets its contract.
use Rattle.std.proofs.Common.{arith}
use Rattle.console.proofs.talk.Goals as goal
use Rattle.console.proofs.talk.Goals.{in-Err, in-Ok+else-got-have+in_default-written}

pub loop-init : goal.loop-init
loop-init c = (omega arith, c.fresh-table.ensures.sound _ _)

pub loop-preserved : goal.loop-preserved
loop-preserved c =
    elim c.match-fill.branch [
      | in-Err w ↦ rw (w.have-is, w.words-is, w.text-is, w.table-is) c.loop.invariant
      | in-Ok+else-got-have+in_default-written w ↦
          let short = rw w.in_default-written.is at w.reply_all-r.ensures.short in
          rw (w.have-is, w.words-is, w.text-is, w.table-is) (short.1, w.reply_all-r.ensures.sound)
    ]
