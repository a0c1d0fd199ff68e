-- plan_step meets its contract.
use Rattle.find_trie.proofs.Links.{any_namespaces, holder_fits}
use Rattle.register_plan.proofs.Plans.{placed_small, path_stepped}
use native.Mathlib.Omega.{arith}
use Rattle.memory.proofs.At.{at_fits}
use Rattle.register_plan.proofs.plan_step.Goals as goal

pub trie_of-t-requires : goal.trie_of-t-requires
trie_of-t-requires c =
    at_fits c.requires.0.trie

pub names_place-p-requires : goal.names_place-p-requires
names_place-p-requires c =
    any_namespaces c.requires.0.trie c.trie_of-t.ensures

pub trie_held-link-requires : goal.trie_held-link-requires
trie_held-link-requires c =
    omega (
      arith,
      c.unwrap_or.ensures,
      holder_fits (any_namespaces c.requires.0.trie c.trie_of-t.ensures) c.names_place-p.ensures.found,
    )

pub insertion-requires : goal.insertion-requires
insertion-requires c =
    omega (
      arith,
      placed_small (any_namespaces c.requires.0.trie c.trie_of-t.ensures) c.names_place-p.ensures,
    )

pub returns : goal.returns
returns c w t =
    rw c.insertion.ensures (path_stepped t c.trie_of-t.ensures c.names_place-p.ensures (rw c.unwrap_or.ensures at c.trie_held-link.ensures) c.note_step.ensures)
