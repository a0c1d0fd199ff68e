-- namespaces_mutate and trie_mutate are measured by the segments left.
use Rattle.std.proofs.Common.{◌+◌, ◌*◌, length}
use Rattle.register_change.specs.Changes.{between}
use Rattle.register_change.proofs.+namespaces_mutate_trie_mutate.Given as goal

abbrev pub decreases-namespaces_mutate : goal.decreases-namespaces_mutate
decreases-namespaces_mutate l = 2 * length (between l.text.now (l.segment.start + l.segment.len + 1) l.d.end) + 1

abbrev pub decreases-trie_mutate : goal.decreases-trie_mutate
decreases-trie_mutate l = 2 * length (between l.text.now l.at l.d.end)
