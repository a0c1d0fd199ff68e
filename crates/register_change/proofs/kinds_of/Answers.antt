-- kinds_of meets its contract.
use Rattle.register_change.proofs.Nodes.{kinds_name, kinds_import, kinds_module}
use Rattle.register_change.proofs.kinds_of.Goals as goal

pub returns-in-Name : goal.returns-in-Name
returns-in-Name c =
    kinds_name c.args.change (rw c.shape_of-s.ensures at c.in-Name.is)

pub returns-in-Import : goal.returns-in-Import
returns-in-Import c =
    kinds_import c.args.change (rw c.shape_of-s.ensures at c.in-Import.is)

pub returns-in-Module : goal.returns-in-Module
returns-in-Module c =
    kinds_module c.args.change (rw c.shape_of-s.ensures at c.in-Module.is)
