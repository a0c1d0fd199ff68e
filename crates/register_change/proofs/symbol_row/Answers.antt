-- symbol_row meets its contract.
use mathlib.Core.Path.{◌∙◌}
use Rattle.register_change.proofs.symbol_row.Goals as goal

pub returns-then-last : goal.returns-then-last
returns-then-last c =
    c.symbol_row.ensures ∙ rw c.if-last.true

pub returns : goal.returns
returns c =
    c.symbol_row-2.ensures ∙ rw c.if-last.false
