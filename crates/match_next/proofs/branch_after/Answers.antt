-- branch_after meets its contract: the right side comes next, where there is one.
use mathlib.Core.Path.{◌∙◌}
use Rattle.find_tree.proofs.Branches.{tree_fits, any_right}
use Rattle.find_tree.proofs.Links.{among_tree}
use Rattle.match_next.proofs.Least.{right_next}
use Rattle.match_next.proofs.branch_after.Goals as goal

pub right_of-right-requires : goal.right_of-right-requires
right_of-right-requires c =
    let o = among_tree c.requires.any_tree c.requires.fact in (o.0, tree_fits o.1)

pub least_of-requires : goal.least_of-requires
least_of-requires c =
    let o = among_tree c.requires.any_tree c.requires.fact in
    rw c.right_of-right.ensures (any_right o.1 o.0)

pub returns-then-right-gt0 : goal.returns-then-right-gt0
returns-then-right-gt0 c =
    rw c.right_of-right.ensures at c.least_of.ensures
    ∙ right_next c.requires.any_tree c.requires.fact (rw c.right_of-right.ensures at c.if-right-gt0.true)
