-- trie_find_exact meets its contract: a walk by scope_of to the last segment.
use mathlib.Core.Path.{◌∙◌, ap}
use mathlib.Core.List.{◌∷◌}
use Rattle.text_query.proofs.Segments.{at_last, before_last}
use Rattle.find_trie.proofs.Links.{any_bindings, any_namespaces}
use Rattle.find_trie.proofs.Found.{walked_first, walked_next, scope_below, finds_all, finds_next, found_last, found_none}
use Rattle.memory.proofs.At.{at_fits}
use Rattle.find_trie.proofs.trie_find_exact.Goals as goal

pub loop-segment-init : goal.loop-segment-init
loop-segment-init c w t =
    rw c.segments_of-left.ensures (walked_first _ t (finds_all _ _))

pub trie_of-t-requires : goal.trie_of-t-requires
trie_of-t-requires c =
    at_fits (c.loop-segment.invariant c.requires.any_trie.which c.requires.any_trie.trie).here

pub names_find_exact-requires : goal.names_find_exact-requires
names_find_exact-requires c =
    any_bindings (c.loop-segment.invariant c.requires.any_trie.which c.requires.any_trie.trie).here c.trie_of-t.ensures

pub returns-then-is_empty-clause-found : goal.returns-then-is_empty-clause-found
returns-then-is_empty-clause-found c w t =
    found_last (c.loop-segment.invariant w t)
    (c.in-Some.ensures.steps ∙ ap (λ q. c.in-Some.segment.now ∷ q) (at_last _ c.is_empty.ensures c.if-is_empty.true))
    c.trie_of-t.ensures c.names_find_exact.ensures.found

pub scope_of-link-requires : goal.scope_of-link-requires
scope_of-link-requires c =
    any_namespaces (c.loop-segment.invariant c.requires.any_trie.which c.requires.any_trie.trie).here c.trie_of-t.ensures

pub loop-segment-preserved : goal.loop-segment-preserved
loop-segment-preserved c w t =
    let g = c.loop-segment.invariant w t in
    walked_next g c.in-Some.ensures.steps (scope_below _ g.here c.trie_of-t.ensures c.scope_of-link.ensures)
    (finds_next (before_last _ c.is_empty.ensures c.if-is_empty.false))

pub returns-clause-found : goal.returns-clause-found
returns-clause-found c w t =
    found_none (c.loop-segment.invariant w t) c.in_default.ensures.steps.0
