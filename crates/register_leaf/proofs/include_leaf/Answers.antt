-- include_leaf meets its contract.
use Rattle.register_leaf.proofs.Leaves.{leaf_fits, inc_fits, include_ready, include_trie_ready, include_built}
use Rattle.register_leaf.proofs.include_leaf.Goals as goal

pub trie_of-t-requires : goal.trie_of-t-requires
trie_of-t-requires c =
    leaf_fits c.requires.holds

pub trie_of-i-requires : goal.trie_of-i-requires
trie_of-i-requires c =
    let change = c.requires.holds.change in inc_fits change.sound change.inc

pub imported-b-requires : goal.imported-b-requires
imported-b-requires c =
    let p = include_ready c.requires.holds c.trie_of-t.ensures c.trie_of-i.ensures in record { room = p.0; inner_le_records = p.1 }

pub put_trie-requires : goal.put_trie-requires
put_trie-requires c =
    let p = include_trie_ready c.requires.holds c.trie_of-t.ensures
    c.trie_of-i.ensures c.imported-b.ensures.value (rw c.label_of-label.ensures at c.imported-b.ensures.made_imported) in
    record { room = p.0; namespaces_le_records = p.1 }

pub returns : goal.returns
returns c used l =
    include_built l c.trie_of-t.ensures c.trie_of-i.ensures c.imported-b.ensures.value
    (rw c.label_of-label.ensures at c.imported-b.ensures.made_imported) c.put_trie.ensures.value c.put_trie.ensures.made_trie
