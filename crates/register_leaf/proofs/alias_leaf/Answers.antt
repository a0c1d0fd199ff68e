-- alias_leaf meets its contract.
use Rattle.source.specs.Types.{ns}
use Rattle.memory.specs.Layout.{names}
use Rattle.register_leaf.proofs.Leaves.{leaf_fits, inc_fits, alias_ready, alias_fresh_ready, alias_insertion, alias_trie_ready, alias_built}
use Rattle.register_leaf.proofs.alias_leaf.Goals as goal

pub trie_of-t-requires : goal.trie_of-t-requires
trie_of-t-requires c =
    leaf_fits c.requires.some.holds

pub trie_of-i-requires : goal.trie_of-i-requires
trie_of-i-requires c =
    let change = c.requires.some.holds.change in inc_fits change.sound change.inc

pub imported-b-requires : goal.imported-b-requires
imported-b-requires c =
    let p = alias_ready c.requires.some.holds c.trie_of-t.ensures c.trie_of-i.ensures c.requires.leaf_builds in record { room = p.0; inner_le_records = p.1 }

pub put_trie-scope-requires : goal.put_trie-scope-requires
put_trie-scope-requires c =
    let p = alias_fresh_ready c.requires.some.holds c.trie_of-t.ensures c.trie_of-i.ensures c.requires.leaf_builds c.imported-b.ensures.value
    (rw c.label_of-label.ensures at c.imported-b.ensures.made_imported) in record { room = p.0; namespaces_le_records = p.1 }

pub names_insert-n-requires : goal.names_insert-n-requires
names_insert-n-requires c =
    let pre = c.requires in
    rw c.namespace_row-row.ensures (record {
      which = names;
      level = ns;
      used = pre.some.used;
      insertion = alias_insertion pre.some.holds c.trie_of-t.ensures c.trie_of-i.ensures pre.leaf_builds c.imported-b.ensures.value
          (rw c.label_of-label.ensures at c.imported-b.ensures.made_imported) c.put_trie-scope.ensures.value c.put_trie-scope.ensures.made_trie;
    })

pub put_trie-requires : goal.put_trie-requires
put_trie-requires c =
    let p = alias_trie_ready c.requires.some.holds c.trie_of-t.ensures c.trie_of-i.ensures c.requires.leaf_builds c.imported-b.ensures.value
    (rw c.label_of-label.ensures at c.imported-b.ensures.made_imported) c.put_trie-scope.ensures.value c.put_trie-scope.ensures.made_trie
    c.names_insert-n.ensures.value
    (rw c.namespace_row-row.ensures at c.names_insert-n.ensures.names_inserts) in record { room = p.0; namespaces_le_records = p.1 }

pub returns : goal.returns
returns c used l =
    alias_built l c.trie_of-t.ensures c.trie_of-i.ensures c.requires.leaf_builds
    c.imported-b.ensures.value
    (rw c.label_of-label.ensures at c.imported-b.ensures.made_imported) c.put_trie-scope.ensures.value c.put_trie-scope.ensures.made_trie
    c.names_insert-n.ensures.value (rw c.namespace_row-row.ensures at c.names_insert-n.ensures.names_inserts) c.put_trie.ensures.value
    c.put_trie.ensures.made_trie
