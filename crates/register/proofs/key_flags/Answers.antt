-- key_flags meets its contract.
use Rattle.refusals.proofs.Rows.{none_flagged, one_flagged}
use Rattle.register.proofs.key_flags.Goals as goal

pub returns-then-keyed : goal.returns-then-keyed
returns-then-keyed c =
    rw c.if-keyed.true (one_flagged c.name_flags.ensures)

pub returns : goal.returns
returns c =
    rw (c.if-keyed.false, c.no_flags.ensures) none_flagged
