-- lowest_row meets its contract, by whether a branch is noted.
use Prim.Native.Nat.{◌<◌}
use mathlib.Core.Path.{refl, sym, ◌∙◌}
use native.Mathlib.Omega.{arith}
use borrow.Author.Tests.{eq-eqb, ne_eqb}
use Rattle.memory.proofs.StoredSizes.{stored_some}
use Rattle.insert_copy.specs.Copies.{noted_link, lowest_row}
use Rattle.insert_copy.proofs.WithKey.{keyed_word}
use Rattle.insert_copy.proofs.lowest_row.Goals as goal

pub returns-then-link-eq0 : goal.returns-then-link-eq0
unfolding lowest_row
returns-then-link-eq0 c =
    rw (eq-eqb (noted_link c.args.words.now c.args.at) 0 (sym c.note_link-link.ensures ∙ c.if-link-eq0.true))
    c.with_sides.ensures

pub with_sides-requires-2 : goal.with_sides-requires-2
unfolding lowest_row
with_sides-requires-2 c =
    let ws = c.args.words.now in let r = c.args.row in
    let x = noted_link ws c.args.at in
    let p : 0 < x = omega (arith, c.note_link-link.ensures, c.if-link-eq0.false) in
    simp (c.with_key-keyed.ensures, c.left_of.ensures, c.right_of.ensures, c.note_link-link.ensures, keyed_word ws r x 0 refl, keyed_word ws r x 5 refl)
    (rw (stored_some ws x 3 p, stored_some ws x 4 p) at c.requires.sides)

pub returns : goal.returns
unfolding lowest_row
returns c =
    rw (ne_eqb (noted_link c.args.words.now c.args.at) 0
    (λ e. c.if-link-eq0.false (c.note_link-link.ensures ∙ e)))
    (c.with_sides-2.ensures ∙ simp (c.with_key-keyed.ensures, c.left_of.ensures, c.right_of.ensures, c.note_link-link.ensures))
