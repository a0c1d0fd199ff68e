-- The source's cycle of trie_mutate and namespaces_mutate.
use mathlib.Core.Path.{◌≡◌, refl}
use mathlib.Core.List.{◌∷◌}
use Rattle.source.specs.Text.{Str, Query}
use Rattle.source.specs.Types.{Trie, namespaces}
use Rattle.source.specs.Tries.{MutNode, MutLeaf, trie_mutate, namespaces_mutate}

-- trie_mutate on a query with a segment: namespaces_mutate, then mut_node.
pub trie_mutate_step : {A : Type 0} (tr : Trie A) (id : Str) (q rev_acc : Query) (mut_node : MutNode A)
    (mut_leaf : MutLeaf A)
    → trie_mutate tr (id ∷ q) rev_acc mut_node mut_leaf
    ≡ mut_node tr id q rev_acc (namespaces_mutate (namespaces tr) id q (id ∷ rev_acc) mut_node mut_leaf)
unfolding trie_mutate namespaces_mutate
trie_mutate_step tr id q rev_acc mut_node mut_leaf = refl
