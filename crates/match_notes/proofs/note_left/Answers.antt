-- `note_left` notes the matches of a tree that is all after the prefix: the tree at hand and the notes say the whole.
use mathlib.Core.Path.{sym, ◌∙◌}
use native.Mathlib.Omega.{arith}
use Rattle.find_tree.proofs.Branches.{sides_earlier}
use Rattle.match_notes.proofs.Noting.{lefting_note, lefting_left, lefting_done}
use Rattle.match_notes.proofs.note_left.Goals as goal
use Rattle.match_notes.proofs.note_left.Goals.{then-key_begins, else-key_begins}

pub loop-at-smaller : goal.loop-at-smaller
loop-at-smaller c =
    omega (arith, c.left_of-at.ensures, sides_earlier c.loop-at.invariant.any c.loop-at-test.true)

pub loop-at-preserved : goal.loop-at-preserved
loop-at-preserved c =
    elim c.if-key_begins.branch [
      | then-key_begins w ↦ lefting_note c.loop-at.invariant c.loop-at-test.true
          (sym c.key_begins.ensures ∙ w.if-key_begins.true) (w.notes-is ∙ w.note.ensures) c.left_of-at.ensures
      | else-key_begins w ↦ lefting_left c.loop-at.invariant c.loop-at-test.true
          (sym c.key_begins.ensures ∙ w.if-key_begins.false) w.notes-is c.left_of-at.ensures
    ]

pub returns : goal.returns
returns c =
    lefting_done c.loop-at.invariant c.loop-at-test.false
