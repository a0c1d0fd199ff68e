-- `listing_annotation::note_of` meets its contract.
use mathlib.Core.Path.{◌∙◌, sym}
use Rattle.listing_annotation.proofs.NoteAt.{note_none, note_some}
use Rattle.listing_annotation.proofs.note_of.Goals as goal

pub returns-then-label-eq0 : goal.returns-then-label-eq0
returns-then-label-eq0 c =
    let a = c.args in sym (note_none a.words.now a.text.now a.label c.if-label-eq0.true)

pub returns : goal.returns
returns c =
    let a = c.args in
    c.key_of.ensures ∙ sym (note_some a.words.now a.text.now a.label c.if-label-eq0.false)
