-- name_flags meets its contract, by the byte rule and the length.
use mathlib.Core.Bool.{not}
use mathlib.Core.Path.{refl, sym, ap}
use Rattle.source.specs.Calls.{malformed, empty_name, too_long}
use Rattle.text_query.proofs.Surveys.{empty_length}
use Rattle.refusals.proofs.name_flags.Goals as goal

pub returns : goal.returns
unfolding malformed empty_name too_long
returns c =
    record { malformed = ap not c.all_allowed.ensures; empty = sym (empty_length c.args.s.now); long = refl }
