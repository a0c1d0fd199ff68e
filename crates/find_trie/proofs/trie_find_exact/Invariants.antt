-- trie_find_exact meets its contract: a walk by scope_of to the last segment.
use Rattle.source.specs.Text.{segments}
use Rattle.memory.specs.Layout.{Which, trieˢ, what}
use Rattle.find_trie.proofs.Found.{Walked, Finds}
use Rattle.memory.specs.Sound.{At}
use Rattle.find_trie.proofs.trie_find_exact.Given as goal

abbrev pub invariant-loop-segment : goal.invariant-loop-segment
invariant-loop-segment l =
    (w : Which) → At l.words l.text w trieˢ l.root
    → Walked l.words l.text w l.root l.link (segments l.left.rest.now) (Finds (what w l.words l.text l.root trieˢ) (segments l.query))
