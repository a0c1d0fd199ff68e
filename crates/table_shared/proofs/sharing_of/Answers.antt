-- `sharing_of` meets its contract.
use mathlib.Core.Path.{refl}
use Rattle.table_shared.proofs.sharing_of.Goals as goal

pub shared_length-requires : goal.shared_length-requires
shared_length-requires c =
    rw c.lines_in-n.ensures c.requires

pub returns : goal.returns
returns c =
    rw (c.shared_length.ensures, c.lines_in-n.ensures) refl
