-- `query_end`: nothing may follow the two brackets.
use Rattle.std.proofs.Common.{sym, ◌∙◌}
use borrow.Author.Tests.{eqb-true, eqb-false}
use Rattle.script_parts.proofs.Parts.{query_piece, query_yes, query_no}
use Rattle.script_parts.proofs.query_end.Goals as goal

pub returns-in_err-query : goal.returns-in_err-query
returns-in_err-query c =
    rw c.from_residual.ensures (λ q r. c.in_err-query.ensures q _ (query_piece r))

pub returns-then-not-is_empty : goal.returns-then-not-is_empty
returns-then-not-is_empty c =
    query_no c.in_ok-query.ensures (eqb-false _ 0 (sym c.is_empty.ensures ∙ c.if-not-is_empty.true))

pub returns : goal.returns
returns c =
    query_yes c.in_ok-query.ensures (eqb-true _ 0 (sym c.is_empty.ensures ∙ c.if-not-is_empty.false))
