-- insert_leaf meets its contract.
use Rattle.source.specs.Types.{bind}
use Rattle.memory.specs.Layout.{names}
use Rattle.register_leaf.proofs.Leaves.{leaf_fits, name_insertion, name_trie_ready, name_built}
use Rattle.register_leaf.proofs.insert_leaf.Goals as goal

pub trie_of-t-requires : goal.trie_of-t-requires
trie_of-t-requires c =
    leaf_fits c.requires.some.holds

pub names_insert-b-requires : goal.names_insert-b-requires
names_insert-b-requires c =
    let pre = c.requires in
    rw c.binding_row-row.ensures (record {
      which = names;
      level = bind;
      used = pre.some.used;
      insertion = name_insertion pre.some.holds c.trie_of-t.ensures pre.leaf_builds;
    })

pub put_trie-requires : goal.put_trie-requires
put_trie-requires c =
    let p = name_trie_ready c.requires.some.holds c.trie_of-t.ensures c.requires.leaf_builds c.names_insert-b.ensures.value
    (rw c.binding_row-row.ensures at c.names_insert-b.ensures.names_inserts) in record { room = p.0; namespaces_le_records = p.1 }

pub returns : goal.returns
returns c used l =
    name_built l c.trie_of-t.ensures c.requires.leaf_builds c.names_insert-b.ensures.value
    (rw c.binding_row-row.ensures at c.names_insert-b.ensures.names_inserts) c.put_trie.ensures.value c.put_trie.ensures.made_trie
