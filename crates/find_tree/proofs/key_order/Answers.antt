-- key_order meets its contract.
use Rattle.find_tree.proofs.Branches.{text_in}
use Rattle.find_tree.proofs.key_order.Goals as goal

pub key_of-requires : goal.key_of-requires
key_of-requires c =
    text_in c.requires.1 c.requires.0
