-- mut_node meets its contract: the bindings, then the trie.
use Rattle.register_change.proofs.Nodes.{node_bindings, node_ready, node_built}
use native.Mathlib.Omega.{arith}
use Rattle.register_change.proofs.mut_node.Goals as goal

pub trie_of-t-requires : goal.trie_of-t-requires
trie_of-t-requires c =
    let holds' = c.requires.holds in omega (arith, holds'.link.earlier, holds'.change.sound.records_fit)

pub mut_bindings-b-requires : goal.mut_bindings-b-requires
mut_bindings-b-requires c =
    record { used = c.requires.used; holds = node_bindings c.requires.holds c.trie_of-t.ensures }

pub overflow_add-kinds : goal.overflow_add-kinds
overflow_add-kinds c =
    omega (arith, c.kinds_of-kinds.ensures.0)

pub put_trie-requires : goal.put_trie-requires
put_trie-requires c =
    let p = node_ready c.requires.holds c.trie_of-t.ensures c.mut_bindings-b.ensures in record { room = p.0; namespaces_le_records = p.1 }

pub returns : goal.returns
returns c used i =
    node_built i c.trie_of-t.ensures c.mut_bindings-b.ensures c.kinds_of-kinds.ensures
    c.put_trie.ensures.value c.put_trie.ensures.made_trie
