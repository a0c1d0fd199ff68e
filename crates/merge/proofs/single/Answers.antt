-- `merge::single` meets its contract.
use mathlib.Core.Path.{◌∙◌}
use native.Mathlib.Omega.{arith}
use Rattle.merge.proofs.OneTree.{single_tree}
use Rattle.merge.proofs.single.Goals as goal

pub returns : goal.returns
returns c =
    single_tree (omega (arith, c.if-list-eq0.false)) (λ e. c.if-sort_of-eq-IMPORTED.false (c.sort_of.ensures ∙ e))
    (omega (arith, c.rest_of.ensures, c.if-rest_of-gt0.false)) c.own_of.ensures
