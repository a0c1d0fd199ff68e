-- What the tests of a branch find.
use Rattle.std.specs.Prelude.{ℕ, ◌≡◌, Bool, List}
use Rattle.source.specs.Types.{Level, ns}
use Rattle.source.specs.Terms.{depth_tree}
use Rattle.source.specs.Rules.{Ordered}
use Rattle.memory.specs.Layout.{trie_link, depth_word, Which, tree, trieˢ, kind, row, what}
use Rattle.memory.specs.Sound.{Says, LinkOk, BranchOk}

-- What the answer b says, of each table and level that the kinds are of.
module _ (ws txt : List ℕ) (used l : ℕ) (r : List ℕ) where
  -- The links and the key of a branch are right, and its keys ascend.
  abbrev pub SaysBranch : (k : ℕ) → Bool → Type 0
  SaysBranch k b = (w : Which) (ℓ : Level) → k ≡ kind w (tree ℓ)
      → Says b (BranchOk ws txt used l w r ℓ × Ordered (row w txt r (what w ws txt) (tree ℓ)))

  -- The trie that a branch holds, and the branch's depth, are right.
  abbrev pub SaysHeld : (m : ℕ) → Bool → Type 0
  SaysHeld m b =
      (w : Which) → m ≡ kind w trieˢ → BranchOk ws txt used l w r ns
      → Says b (LinkOk ws l (trie_link r) (kind w trieˢ)
      × (depth_word r ≡ depth_tree (row w txt r (what w ws txt) (tree ns))))
