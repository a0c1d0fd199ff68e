-- with_sides meets its contract.
use mathlib.Core.Path.{◌∙◌}
use Rattle.insert_copy.specs.Copies.{with_sides}
use Rattle.insert_copy.proofs.with_sides.Goals as goal

pub returns : goal.returns
unfolding with_sides
returns c =
    c.with_sides.ensures ∙ rw c.branch_depth-depth.ensures
