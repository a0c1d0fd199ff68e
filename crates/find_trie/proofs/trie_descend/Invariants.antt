-- trie_descend meets its contract: a walk by scope_of.
use Rattle.source.specs.Text.{segments}
use Rattle.memory.specs.Layout.{Which, trieˢ, what}
use Rattle.find_trie.proofs.Found.{Walked, Descends}
use Rattle.memory.specs.Sound.{At}
use Rattle.find_trie.proofs.trie_descend.Given as goal

abbrev pub invariant-loop-segment : goal.invariant-loop-segment
invariant-loop-segment l =
    (w : Which) → At l.words l.text w trieˢ l.root
    → Walked l.words l.text w l.root l.included (segments l.segment-iterator.rest.now)
    (Descends (what w l.words l.text l.root trieˢ) (segments l.query))
