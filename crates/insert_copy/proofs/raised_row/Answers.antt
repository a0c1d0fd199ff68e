-- raised_row meets its contract, by the side that is noted.
use mathlib.Core.Path.{sym, ◌∙◌}
use borrow.Author.Tests.{eq-eqb, ne_eqb}
use Rattle.insert_copy.specs.Copies.{noted_side, raised_row}
use Rattle.insert_copy.proofs.raised_row.Goals as goal

pub with_sides-requires : goal.with_sides-requires
unfolding raised_row
with_sides-requires c =
    rw (c.row_of-old.ensures, c.note_link.ensures) c.requires.left

pub returns-then-note_side-eq0 : goal.returns-then-note_side-eq0
unfolding raised_row
returns-then-note_side-eq0 c =
    rw (eq-eqb (noted_side c.args.words.now c.args.at) 0
    (sym c.note_side.ensures ∙ c.if-note_side-eq0.true)) (c.with_sides.ensures ∙ rw (c.row_of-old.ensures, c.note_link.ensures))

pub with_sides-requires-2 : goal.with_sides-requires-2
unfolding raised_row
with_sides-requires-2 c =
    rw (c.row_of-old.ensures, c.note_link.ensures) c.requires.right

pub returns : goal.returns
unfolding raised_row
returns c =
    rw (ne_eqb (noted_side c.args.words.now c.args.at) 0
    (λ e. c.if-note_side-eq0.false (c.note_side.ensures ∙ e)))
    (c.with_sides-2.ensures ∙ rw (c.row_of-old.ensures, c.note_link.ensures))
