-- names_find_exact: its calls of itself are measured by the stored weight of the list, which is at most 96.
use Rattle.memory.specs.Stored.{weight_in}
use Rattle.find_list.proofs.Holder.{Find}
use Rattle.find_list.proofs.+names_find_exact.Given as goal

abbrev pub decreases-names_find_exact : goal.decreases-names_find_exact
decreases-names_find_exact l =
    weight_in l.words.now l.list

abbrev pub invariant-loop-link : goal.invariant-loop-link
invariant-loop-link l =
    Find l.words l.text l.list l.key l.link

abbrev pub decreases-loop-link : goal.decreases-loop-link
decreases-loop-link l =
    l.link
