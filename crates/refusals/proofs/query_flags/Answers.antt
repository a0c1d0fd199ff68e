-- query_flags meets its contract, by the survey.
use Rattle.source.specs.Calls.{malformed, empty_name, too_long}
use Rattle.refusals.proofs.query_flags.Goals as goal

pub returns : goal.returns
unfolding malformed empty_name too_long
returns c = let d = c.query_survey-v.ensures in record { malformed = d.malformed; empty = d.empty; long = d.long }
