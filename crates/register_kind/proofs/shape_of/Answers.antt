-- shape_of is the definition, by the kind.
use Rattle.register_kind.proofs.shape_of.Goals as goal

pub returns-in-Name : goal.returns-in-Name
returns-in-Name c =
    rw c.in-Name.is

pub returns-in-Include : goal.returns-in-Include
returns-in-Include c =
    rw c.in-Include.is

pub returns-in-Open : goal.returns-in-Open
returns-in-Open c =
    rw c.in-Open.is

pub returns-in-Alias : goal.returns-in-Alias
returns-in-Alias c =
    rw c.in-Alias.is

pub returns-in-Module : goal.returns-in-Module
returns-in-Module c =
    rw c.in-Module.is
