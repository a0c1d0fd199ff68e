-- btree_insert_replace meets its contract: the new branches are put from the lowest up to the root.
use Prim.Native.Nat.{◌-◌}
use Rattle.insert_tree.proofs.Inserted.{Rising}
use Rattle.insert_tree.proofs.btree_insert_replace.Given as goal

abbrev pub invariant-loop-at : goal.invariant-loop-at
invariant-loop-at l =
    Rising l.initial.words l.text l.records l.root l.total l.words l.at

abbrev pub decreases-loop-at : goal.decreases-loop-at
decreases-loop-at l =
    l.total - l.at
