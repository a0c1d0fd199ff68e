-- `descend` notes the matches of a tree past a bound: the tree at hand and the notes say the whole.
use mathlib.Core.Path.{sym, ◌∙◌}
use native.Mathlib.Omega.{arith}
use Rattle.find_tree.proofs.Branches.{sides_earlier}
use Rattle.match_notes.proofs.Noting.{descending_note, descending_left, descending_right, descending_done}
use Rattle.match_notes.proofs.descend.Goals as goal
use Rattle.match_notes.proofs.descend.Goals.{then-key_begins, else-key_begins}

pub loop-at-smaller-then-key_past : goal.loop-at-smaller-then-key_past
loop-at-smaller-then-key_past c =
    omega (arith, c.left_of-at.ensures, sides_earlier c.loop-at.invariant.any c.loop-at-test.true)

pub loop-at-preserved-then-key_past : goal.loop-at-preserved-then-key_past
loop-at-preserved-then-key_past c =
    let past = sym c.key_past.ensures ∙ c.if-key_past.true in
    elim c.if-key_begins.branch [
      | then-key_begins w ↦ descending_note c.loop-at.invariant c.loop-at-test.true past
          (sym c.key_begins.ensures ∙ w.if-key_begins.true) (w.notes-is ∙ w.note.ensures) c.left_of-at.ensures
      | else-key_begins w ↦ descending_left c.loop-at.invariant c.loop-at-test.true past
          (sym c.key_begins.ensures ∙ w.if-key_begins.false) w.notes-is c.left_of-at.ensures
    ]

pub loop-at-smaller : goal.loop-at-smaller
loop-at-smaller c =
    omega (arith, c.right_of-at.ensures, sides_earlier c.loop-at.invariant.any c.loop-at-test.true)

pub loop-at-preserved : goal.loop-at-preserved
loop-at-preserved c =
    descending_right c.loop-at.invariant c.loop-at-test.true (sym c.key_past.ensures ∙ c.if-key_past.false) c.right_of-at.ensures

pub returns : goal.returns
returns c =
    descending_done c.loop-at.invariant c.loop-at-test.false
