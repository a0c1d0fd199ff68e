-- mut_leaf meets its contract: each kind has its own leaf.
use Rattle.register_leaf.proofs.Leaves.{leaf_as, inserting_as, leaf_built, leaf_module}
use Rattle.register_leaf.proofs.mut_leaf.Goals as goal

pub insert_leaf-requires : goal.insert_leaf-requires
insert_leaf-requires c =
    let p = inserting_as c.args.change c.in-Name.is c.args.count (c.requires.some, c.requires.leaf_builds) in record { some = p.0; leaf_builds = p.1 }

pub include_leaf-requires : goal.include_leaf-requires
include_leaf-requires c =
    leaf_as c.args.change c.in-Include.is c.requires.some

pub open_leaf-requires : goal.open_leaf-requires
open_leaf-requires c =
    leaf_as c.args.change c.in-Open.is c.requires.some

pub alias_leaf-requires : goal.alias_leaf-requires
alias_leaf-requires c =
    let p = inserting_as c.args.change c.in-Alias.is c.args.count (c.requires.some, c.requires.leaf_builds) in record { some = p.0; leaf_builds = p.1 }

pub returns-in-Name : goal.returns-in-Name
returns-in-Name c =
    rw c.last.ensures (leaf_built c.args.change c.in-Name.is c.insert_leaf.ensures)

pub returns-in-Include : goal.returns-in-Include
returns-in-Include c =
    rw c.last-in-Include.ensures (leaf_built c.args.change c.in-Include.is c.include_leaf.ensures)

pub returns-in-Open : goal.returns-in-Open
returns-in-Open c =
    rw c.last-in-Open.ensures (leaf_built c.args.change c.in-Open.is c.open_leaf.ensures)

pub returns-in-Alias : goal.returns-in-Alias
returns-in-Alias c =
    rw c.last-in-Alias.ensures (leaf_built c.args.change c.in-Alias.is c.alias_leaf.ensures)

pub returns-in-Module : goal.returns-in-Module
returns-in-Module c =
    let change = c.args.change in leaf_built change c.in-Module.is (leaf_module change)
