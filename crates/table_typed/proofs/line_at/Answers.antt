-- `line_at` meets its contract.
use mathlib.Core.Path.{ap, ◌∙◌}
use Rattle.table_typed.specs.Lines.{line_of_row, line_at}
use Rattle.table_typed.proofs.line_at.Goals as goal

pub returns : goal.returns
unfolding line_at
returns c =
    c.line_of.ensures ∙ ap line_of_row c.row_at.ensures
