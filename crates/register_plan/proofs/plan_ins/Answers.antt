-- plan_ins meets its contract.
use Rattle.find_trie.proofs.Links.{any_bindings, holder_some}
use Rattle.register_plan.proofs.Plans.{placed_small, step_inserted, not_inserted}
use native.Mathlib.Omega.{arith}
use Rattle.memory.proofs.At.{at_fits}
use Rattle.register_plan.proofs.plan_ins.Goals as goal

pub trie_of-t-requires : goal.trie_of-t-requires
trie_of-t-requires c =
    at_fits c.requires

pub names_place-p-requires : goal.names_place-p-requires
names_place-p-requires c =
    any_bindings c.requires c.trie_of-t.ensures

pub ns_inserts-requires : goal.ns_inserts-requires
ns_inserts-requires c =
    holder_some (any_bindings c.requires c.trie_of-t.ensures) _ c.names_place-p.ensures.nonzero c.names_place-p.ensures.found

pub overflow_add-result : goal.overflow_add-result
overflow_add-result c =
    omega (arith, placed_small (any_bindings c.requires c.trie_of-t.ensures) c.names_place-p.ensures)

pub returns-then-last-ns_inserts : goal.returns-then-last-ns_inserts
returns-then-last-ns_inserts c =
    step_inserted c.requires c.trie_of-t.ensures c.names_place-p.ensures
    c.ns_inserts.ensures c.if-last-ns_inserts.true

pub returns : goal.returns
returns c =
    not_inserted c.requires c.trie_of-t.ensures c.names_place-p.ensures c.ns_inserts.ensures
    c.if-last-ns_inserts.false
