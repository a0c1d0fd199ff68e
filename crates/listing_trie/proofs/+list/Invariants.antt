use Rattle.std.proofs.Common.{◌+◌, ◌*◌, length}
use Rattle.merge.specs.Stream.{state_of, left_in}
use Rattle.listing_trie.proofs.Listed.{onward, Stepping, Merging}
use Rattle.listing_trie.proofs.+list.Given as goal

-- The measure of the calls is the link: each call goes to an earlier one, or from a trie to its lists, trees and branches.
abbrev pub decreases-list_below : goal.decreases-list_below
decreases-list_below l =
    6 * l.found.link

abbrev pub decreases-list_branch : goal.decreases-list_branch
decreases-list_branch l =
    6 * l.found.link + 1

abbrev pub decreases-list_tree : goal.decreases-list_tree
decreases-list_tree l =
    6 * l.found.link + 2

abbrev pub decreases-list_merged : goal.decreases-list_merged
decreases-list_merged l =
    6 * l.list + 3

abbrev pub decreases-list_names : goal.decreases-list_names
decreases-list_names l =
    6 * l.list + 4

abbrev pub decreases-list_trie : goal.decreases-list_trie
decreases-list_trie l =
    6 * l.trie + 5

abbrev pub invariant-list_merged-loop-given : goal.invariant-list_merged-loop-given
invariant-list_merged-loop-given l =
    Merging l.words l.text l.place l.list l.fn.run l.run l.fn.flat l.flat l.fn.out l.out (state_of l.merge)

abbrev pub decreases-list_merged-loop-given : goal.decreases-list_merged-loop-given
decreases-list_merged-loop-given l =
    left_in l.words l.text l.place.cut.prefix.now (state_of l.merge)

abbrev pub invariant-list_tree-loop-next : goal.invariant-list_tree-loop-next
invariant-list_tree-loop-next l =
    Stepping l.words l.text l.place l.found l.fn.run l.run l.fn.flat l.flat l.fn.out l.out l.notes l.next

abbrev pub decreases-list_tree-loop-next : goal.decreases-list_tree-loop-next
decreases-list_tree-loop-next l =
    length (onward l.words l.text l.place.cut.prefix.now l.found.link l.next)
