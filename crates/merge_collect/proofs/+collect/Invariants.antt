-- Its calls of itself are measured by the stored weight of the list, which is at most 96.
use Rattle.memory.specs.Stored.{weight_in}
use Rattle.merge_collect.proofs.+collect.Given as goal

abbrev pub decreases-collect : goal.decreases-collect
decreases-collect l = weight_in l.words.now l.part.list
