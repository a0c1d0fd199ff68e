-- tree_first meets its contract: the first match is the first branch past the prefix.
use mathlib.Core.Path.{◌∙◌}
use mathlib.Core.Bool.{false}
use Rattle.match_next.specs.Begun.{begun}
use Rattle.match_next.proofs.NextMatch.{first_tree, first_is}
use Rattle.match_next.proofs.tree_first.Goals as goal

pub returns-in_err-least : goal.returns-in_err-least
unfolding begun
returns-in_err-least c =
    c.from_residual.ensures ∙ first_is c.requires c.args.prefix.now c.in_err-least.ensures

pub key_begins-requires : goal.key_begins-requires
key_begins-requires c =
    first_tree c.requires false c.args.prefix.now c.in_ok-least.ensures

pub returns : goal.returns
unfolding begun
returns c =
    c.then_some.ensures ∙ rw c.key_begins.ensures (first_is c.requires c.args.prefix.now c.in_ok-least.ensures)
