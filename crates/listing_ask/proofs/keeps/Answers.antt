-- `listing_ask::keeps` meets its contract.
use Rattle.source.specs.Calls.{keeps}
use Rattle.listing_ask.proofs.Kept.{keeps_loaded, keeps_modules, keeps_namespaces}
use Rattle.listing_ask.proofs.keeps.Goals as goal

pub returns-in-All : goal.returns-in-All
unfolding keeps
returns-in-All c =
    λ name path. rw c.in-All.is

pub returns-in-Loaded : goal.returns-in-Loaded
unfolding keeps
returns-in-Loaded c =
    λ name path. rw c.in-Loaded.is (keeps_loaded c.args.loaded name path c.args.m)

pub returns-in-ModulesOnly : goal.returns-in-ModulesOnly
unfolding keeps
returns-in-ModulesOnly c =
    λ name path. rw c.in-ModulesOnly.is (keeps_modules c.args.loaded name path c.args.m)

pub returns-in-NamespacesOnly : goal.returns-in-NamespacesOnly
unfolding keeps
returns-in-NamespacesOnly c =
    λ name path. rw c.in-NamespacesOnly.is (keeps_namespaces c.args.loaded name path c.args.m)
