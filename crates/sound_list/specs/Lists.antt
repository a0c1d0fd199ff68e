-- What the tests of a collection and of a trie find.
use Rattle.std.specs.Prelude.{ℕ, ◌≡◌, Bool, List}
use Rattle.source.specs.Types.{Level, bind, ns}
use Rattle.memory.specs.Layout.{Which, tree, list, trieˢ, kind, row, what}
use Rattle.memory.specs.Sound.{Says, CollectionOk, WeightOk, RecordAs}

-- What the answer b says, of each table and level that the kinds are of.
module _ (ws txt : List ℕ) (used l : ℕ) (r : List ℕ) where
  -- The links and the label of a collection, and the weight of its list, are right.
  abbrev pub SaysCollection : (k m : ℕ) → Bool → Type 0
  SaysCollection k m b =
      (w : Which) (ℓ : Level) → k ≡ kind w (list ℓ) → m ≡ kind w (tree ℓ)
      → Says b (CollectionOk ws txt used l w r ℓ × WeightOk r (row w txt r (what w ws txt) (list ℓ)))

  -- A trie is right.
  abbrev pub SaysTrie : (bindings namespaces : ℕ) → Bool → Type 0
  SaysTrie m n b =
      (w : Which) → m ≡ kind w (list bind) → n ≡ kind w (list ns)
      → Says b (RecordAs ws txt used l w trieˢ r (row w txt r (what w ws txt) trieˢ))
