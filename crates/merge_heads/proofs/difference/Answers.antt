-- `merge_heads::difference` meets its contract.
use Rattle.merge_heads.proofs.Compare.{difference_is}
use Rattle.merge_heads.proofs.difference.Goals as goal

pub returns : goal.returns
returns c =
    difference_is _ _ c.requires.0 c.requires.1
