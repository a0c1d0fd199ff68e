-- `sound::pass` meets its contract.
use native.Mathlib.Omega.{arith}
use Rattle.memory.proofs.Says.{says_holds}
use Rattle.sound.proofs.Notes.{notes_next}
use Rattle.sound.proofs.Rows.{part_record, rows_more}
use Rattle.sound.proofs.pass.Goals as goal

pub record_ok-requires-clause-row_value : goal.record_ok-requires-clause-row_value
record_ok-requires-clause-row_value c =
    part_record c.args.words.now c.loop-link.link

pub loop-link-preserved : goal.loop-link-preserved
loop-link-preserved c = (
  rows_more c.loop-link.invariant.0 (says_holds c.record_ok.result c.record_ok.ensures c.if-not-record_ok.false),
  notes_next c.loop-link.invariant.1 (record { size = c.note.ensures.notes_len; noted = c.note.ensures.ways_noted }),
)

pub returns-else-not-record_ok : goal.returns-else-not-record_ok
returns-else-not-record_ok c =
    let rows = rows_more c.loop-link.invariant.0 (says_holds c.record_ok.result c.record_ok.ensures c.if-not-record_ok.false) in
    record {
      right = record {
        few = omega arith;
        short = omega arith;
        records_fit = omega arith;
        text_fits = omega arith;
        rows = λ l p h. rows.right l p (omega arith);
      };
      names_link = (says_holds c.link_ok.result c.link_ok.ensures c.if-not-link_ok.false);
      modules_link = (says_holds c.link_ok-2.result c.link_ok-2.ensures c.if-not-link_ok-2.false);
    }
