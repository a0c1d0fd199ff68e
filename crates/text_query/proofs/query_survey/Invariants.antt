-- query_survey meets its contract: the segments before start and the bytes before i are surveyed.
use Rattle.text_query.proofs.Surveys.{Surveying}
use Rattle.text_query.proofs.query_survey.Given as goal

abbrev pub invariant-loop-i : goal.invariant-loop-i
invariant-loop-i l =
    Surveying l.s l.ok l.empty l.long l.segments l.start l.i
