-- other_flags meets its contract.
use Rattle.register.proofs.other_flags.Goals as goal

pub returns-in-Name : goal.returns-in-Name
returns-in-Name c =
    rw c.in-Name.is c.name_flags.ensures

pub returns-in-Import : goal.returns-in-Import
returns-in-Import c =
    rw c.in-Import.is c.query_flags.ensures

pub returns-in-Module : goal.returns-in-Module
returns-in-Module c =
    rw c.in-Module.is c.path_flags.ensures
