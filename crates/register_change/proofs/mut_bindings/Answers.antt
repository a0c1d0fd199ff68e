-- mut_bindings meets its contract: only a module path changes the bindings.
use Rattle.register_change.proofs.Nodes.{keeps_name, keeps_import, bindings_as, bindings_to}
use Rattle.register_change.proofs.mut_bindings.Goals as goal

pub ins-requires : goal.ins-requires
ins-requires c =
    bindings_as (rw c.shape_of-s.ensures at c.in-Module.is) c.requires

pub returns-in-Name : goal.returns-in-Name
returns-in-Name c =
    keeps_name (rw c.shape_of-s.ensures at c.in-Name.is)

pub returns-in-Import : goal.returns-in-Import
returns-in-Import c =
    keeps_import (rw c.shape_of-s.ensures at c.in-Import.is)

pub returns-in-Module : goal.returns-in-Module
returns-in-Module c =
    bindings_to (rw c.shape_of-s.ensures at c.in-Module.is) c.ins.ensures
