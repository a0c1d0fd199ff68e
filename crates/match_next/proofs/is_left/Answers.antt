-- is_left meets its contract: by the sides' links, or by the keys.
use Rattle.find_tree.proofs.Branches.{tree_fits, text_in}
use Rattle.find_tree.proofs.Links.{among_tree}
use Rattle.match_next.proofs.Least.{among_some, left_by, right_by}
use Rattle.match_next.proofs.is_left.Goals as goal

pub right_of-requires : goal.right_of-requires
right_of-requires c =
    let pre = c.requires in (among_some pre.any_tree pre.fact, tree_fits pre.any_tree)

pub returns-then-right_of-at : goal.returns-then-right_of-at
returns-then-right_of-at c =
    let pre = c.requires in left_by pre.any_tree pre.fact pre.fact_2 (rw c.right_of.ensures at c.if-right_of-at.true)

pub left_of-requires : goal.left_of-requires
left_of-requires c =
    let pre = c.requires in (among_some pre.any_tree pre.fact, tree_fits pre.any_tree)

pub returns-then-left_of-at : goal.returns-then-left_of-at
returns-then-left_of-at c =
    let pre = c.requires in
    right_by pre.any_tree pre.fact pre.fact_2 (rw c.left_of.ensures at c.if-left_of-at.true)

pub key_of-key-requires : goal.key_of-key-requires
key_of-key-requires c =
    let o = among_tree c.requires.any_tree c.requires.fact in text_in o.1 o.0

pub key_past-requires : goal.key_past-requires
key_past-requires c =
    let pre = c.requires in (among_some pre.any_tree pre.fact, pre.any_tree)
