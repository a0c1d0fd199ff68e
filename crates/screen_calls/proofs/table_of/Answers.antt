-- table_of meets its contract.
use Rattle.screen_calls.proofs.table_of.Goals as goal

pub returns : goal.returns
returns c =
    λ i. record { header = c.header_of.ensures i }
