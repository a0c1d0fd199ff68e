-- look_up_flags meets its contract, by the survey: a query of no segment is empty.
use Rattle.source.specs.Calls.{malformed, empty_name, too_long}
use Rattle.text_query.proofs.Surveys.{empty_length}
use Rattle.refusals.proofs.look_up_flags.Goals as goal

pub returns : goal.returns
unfolding malformed empty_name too_long
returns c =
    let d = c.query_survey-v.ensures in
    record { malformed = d.malformed; empty = rw (d.empty, d.segments, empty_length); long = d.long }
