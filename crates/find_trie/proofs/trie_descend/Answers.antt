-- trie_descend meets its contract: a walk by scope_of.
use Rattle.find_trie.proofs.Links.{any_namespaces}
use Rattle.find_trie.proofs.Found.{walked_first, walked_next, scope_below, descends_all, descends_next, descended}
use Rattle.memory.proofs.At.{at_fits}
use Rattle.find_trie.proofs.trie_descend.Goals as goal

pub loop-segment-init : goal.loop-segment-init
loop-segment-init c w t =
    rw (c.into_iter-segment-iterator.ensures.into_iter_gives, c.segments_of-segment-items.ensures) (walked_first _ t (descends_all _ _))

pub trie_of-t-requires : goal.trie_of-t-requires
trie_of-t-requires c =
    at_fits (c.loop-segment.invariant c.requires.any_trie.which c.requires.any_trie.trie).here

pub scope_of-included-requires : goal.scope_of-included-requires
scope_of-included-requires c =
    any_namespaces (c.loop-segment.invariant c.requires.any_trie.which c.requires.any_trie.trie).here c.trie_of-t.ensures

pub loop-segment-preserved : goal.loop-segment-preserved
loop-segment-preserved c w t =
    let g = c.loop-segment.invariant w t in
    walked_next g c.in-Some.ensures.steps (scope_below _ g.here c.trie_of-t.ensures c.scope_of-included.ensures) descends_next

pub returns : goal.returns
returns c w t =
    descended (c.loop-segment.invariant w t) c.in-None.ensures.steps.0
