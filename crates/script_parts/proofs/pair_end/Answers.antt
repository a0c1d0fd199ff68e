-- `pair_end`: a part, and a query behind it.
use Rattle.script_parts.proofs.Parts.{pair_piece, pair_yes, pair_no}
use Rattle.script_parts.proofs.pair_end.Goals as goal

pub returns-in_err-host : goal.returns-in_err-host
returns-in_err-host c =
    rw c.from_residual.ensures (λ host q r. c.in_err-host.ensures host _ (pair_piece r))

pub returns-in_err-query : goal.returns-in_err-query
returns-in_err-query c =
    rw c.from_residual-in_err-query.ensures (pair_no c.in_ok-host.ensures c.in_err-query.ensures)

pub returns : goal.returns
returns c =
    pair_yes c.in_ok-host.ensures c.in_ok-query.ensures
