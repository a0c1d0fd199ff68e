-- `merge::same_key` meets its contract.
use mathlib.Core.Path.{◌∙◌}
use Rattle.text.proofs.Texts.{equal_is}
use Rattle.find_tree.proofs.Branches.{text_in}
use Rattle.merge.proofs.same_key.Goals as goal

pub key_of-requires : goal.key_of-requires
key_of-requires c =
    let pre = c.requires.a_nonzero in text_in pre.1 pre.0

pub key_of-requires-2 : goal.key_of-requires-2
key_of-requires-2 c =
    let pre = c.requires.b_nonzero in text_in pre.1 pre.0

pub returns : goal.returns
returns c =
    (rw (c.key_of.ensures, c.key_of-2.ensures) at c.eq.ensures) ∙ equal_is _ _
