-- branch_depth meets its contract.
use mathlib.Core.Path.{sym, ◌∙◌}
use native.Mathlib.Numerals.{add-one}
use Rattle.insert_copy.specs.Copies.{branch_depth}
use Rattle.insert_copy.proofs.branch_depth.Goals as goal

pub depth_of-requires-then-of_namespaces-2 : goal.depth_of-requires-then-of_namespaces-2
unfolding branch_depth
depth_of-requires-then-of_namespaces-2 c =
    c.requires.held_fits (sym c.of_namespaces.ensures ∙ c.if-of_namespaces.true)

pub returns-then-of_namespaces : goal.returns-then-of_namespaces
unfolding branch_depth
returns-then-of_namespaces c =
    rw (sym c.of_namespaces.ensures ∙ c.if-of_namespaces.true) (c.max.ensures
    ∙ rw (c.max-sides.ensures, c.depth_of.ensures, c.depth_of-then-of_namespaces.ensures, c.depth_of-then-of_namespaces-2.ensures, add-one))

pub returns : goal.returns
unfolding branch_depth
returns c =
    rw (sym c.of_namespaces.ensures ∙ c.if-of_namespaces.false)
