-- all_allowed meets its contract: the bytes before b are tested.
use Rattle.text_query.specs.Queries.{byte_rule}
use Rattle.text.proofs.Texts.{Passing}
use Rattle.text_query.proofs.all_allowed.Given as goal

abbrev pub invariant-loop-b : goal.invariant-loop-b
invariant-loop-b l =
    Passing (byte_rule l.rule) l.s l.ok l.b-index
