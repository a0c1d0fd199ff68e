-- full meets its contract.
use mathlib.Core.Path.{sym}
use Rattle.source.proofs.Taken.{full_by_product}
use Rattle.refusals.proofs.full.Goals as goal

pub returns : goal.returns
returns c =
    sym (full_by_product c.args.words c.args.used c.args.needed)
