-- tree_next meets its contract: the next match is the branch after the last one.
use mathlib.Core.Path.{◌∙◌}
use mathlib.Core.Bool.{true}
use Rattle.memory.specs.Layout.{key_at}
use Rattle.match_next.specs.Begun.{begun}
use Rattle.match_next.proofs.NextMatch.{first_tree, next_is}
use Rattle.match_next.proofs.tree_next.Goals as goal

pub returns-in_err-next : goal.returns-in_err-next
unfolding begun
returns-in_err-next c =
    let a = c.args in
    c.from_residual.ensures
    ∙ next_is c.requires.any_tree true (key_at a.words.now a.text.now a.at) a.prefix.now c.requires.prefix_value c.in_err-next.ensures

pub key_begins-requires : goal.key_begins-requires
key_begins-requires c =
    let a = c.args in
    first_tree c.requires.any_tree true (key_at a.words.now a.text.now a.at) c.in_ok-next.ensures

pub returns : goal.returns
unfolding begun
returns c =
    let a = c.args in
    c.then_some.ensures
    ∙ rw c.key_begins.ensures
    (next_is c.requires.any_tree true (key_at a.words.now a.text.now a.at) a.prefix.now c.requires.prefix_value c.in_ok-next.ensures)
