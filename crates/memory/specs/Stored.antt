-- Weights and depths by what earlier records store.
use Rattle.std.specs.Prelude.{ℕ, suc, ◌+◌, max, List, eqb}
use Rattle.memory.specs.Layout.{record_at, word, pick}

-- Word k of the record that link x names, 0 where it names none.
unfoldable pub stored : List ℕ → ℕ → ℕ → ℕ
stored ws x k = pick (eqb x 0) 0 (word (record_at ws x) k)

-- What the record of a link stores, 0 where it names none: the weight of a list; a depth; the trie that a branch of namespaces holds; the sides of a branch;
-- the lists of a trie.
abbrev pub weight_in : List ℕ → ℕ → ℕ
weight_in ws x = stored ws x 10

abbrev pub depth_in : List ℕ → ℕ → ℕ
depth_in ws x = stored ws x 11

abbrev pub trie_in : List ℕ → ℕ → ℕ
trie_in ws x = stored ws x 5

abbrev pub left_in : List ℕ → ℕ → ℕ
left_in ws x = stored ws x 3

abbrev pub right_in : List ℕ → ℕ → ℕ
right_in ws x = stored ws x 4

abbrev pub bindings_in : List ℕ → ℕ → ℕ
bindings_in ws x = stored ws x 3

abbrev pub namespaces_in : List ℕ → ℕ → ℕ
namespaces_in ws x = stored ws x 4

-- The weight of a list whose first collection is r.
unfoldable pub weight_of : List ℕ → List ℕ → ℕ
weight_of ws r = suc (pick (eqb (word r 5) 0) 0 (stored ws (word r 3) 10) + stored ws (word r 4) 10)

-- The greater depth of the first two links of r.
unfoldable pub depth_of : List ℕ → List ℕ → ℕ
depth_of ws r = max (stored ws (word r 3) 11) (stored ws (word r 4) 11)
