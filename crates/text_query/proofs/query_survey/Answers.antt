-- query_survey meets its contract: the segments before start and the bytes before i are surveyed.
use native.Mathlib.Omega.{arith}
use Rattle.text_query.proofs.Surveys.{survey_dot, survey_byte, survey_open, survey_closed}
use Rattle.text_query.proofs.query_survey.Goals.{then-s-i-eq-DOT, else-s-i-eq-DOT}
use Rattle.text_query.proofs.query_survey.Goals as goal

pub loop-i-preserved : goal.loop-i-preserved
loop-i-preserved c =
    elim c.if-s-i-eq-DOT.branch [
      | then-s-i-eq-DOT w ↦ rw (w.ok-is, w.empty-is, w.long-is, w.segments-is, w.start-is)
          (survey_dot c.loop-i.invariant (omega arith) w.if-s-i-eq-DOT.true)
      | else-s-i-eq-DOT w ↦ rw (w.ok-is, w.empty-is, w.long-is, w.segments-is, w.start-is)
          (survey_byte c.loop-i.invariant (omega arith) w.if-s-i-eq-DOT.false w.name_byte-ok.ensures)
    ]

pub returns-then-start-s : goal.returns-then-start-s
returns-then-start-s c =
    survey_open c.loop-i.invariant (omega arith) c.if-start-s.true

pub returns : goal.returns
returns c =
    survey_closed c.loop-i.invariant (omega arith) c.if-start-s.false
