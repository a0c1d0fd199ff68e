-- `next_match` gives the next match by the notes, or notes again from a mark or the root.
use mathlib.Core.Path.{◌≡◌, refl, sym, ◌∙◌}
use mathlib.Core.Bool.{true}
use mathlib.Core.List.{[]}
use Rattle.memory.specs.Layout.{key_at}
use Rattle.find_tree.specs.Links.{matches, past, after}
use Rattle.find_tree.proofs.Branches.{text_in, any_right}
use Rattle.find_tree.proofs.Keep.{kept_pass}
use Rattle.match_notes.specs.Noting.{Noting}
use Rattle.match_walk.proofs.Matched.{matched_top, matched_taken, right_after, next_here, no_note, no_mark, next_end, root_noting, mark_ahead, mark_noting}
use Rattle.match_walk.proofs.next_match.Goals as goal
use Rattle.match_walk.proofs.next_match.Goals.{In_default, in-Some-take_mark+in_default-take_note, in_default-take_mark}

pub note_left-requires-clause-any_tree : goal.note_left-requires-clause-any_tree
note_left-requires-clause-any_tree c =
    rw c.right_of-right.ensures (any_right c.requires.at_nonzero.1 c.requires.at_nonzero.0)

pub note_left-requires-clause-all_after : goal.note_left-requires-clause-all_after
note_left-requires-clause-all_after c =
    rw c.right_of-right.ensures (right_after c.args.prefix.now c.requires.at_nonzero c.requires.prefix_value)

pub returns-in-Some : goal.returns-in-Some
returns-in-Some c =
    let a = c.args in let key = key_at a.words.now a.text.now in
    matched_top (key a.at) true
    (next_here a.prefix.now c.requires.at_nonzero c.requires.prefix_value c.requires.noted c.right_of-right.ensures c.note_left.ensures)
    (kept_pass key (past true (key a.at)) (matches a.words.now a.text.now a.root a.prefix.now)) c.in-Some.next c.in-Some.ensures

-- With no note left.
no_more : (c : In_default) → let key = key_at c.args.words.now c.args.text.now in
    Noting c.args.words.now c.args.text.now c.args.prefix.now (past true (key c.args.at)) c.take_note.new.self []
    (after key (key c.args.at) (matches c.args.words.now c.args.text.now c.args.root c.args.prefix.now))
no_more c = no_note
    (next_here c.args.prefix.now c.requires.at_nonzero c.requires.prefix_value c.requires.noted c.right_of-right.ensures c.note_left.ensures)
    c.in_default.ensures

pub returns-then-not-dropped : goal.returns-then-not-dropped
returns-then-not-dropped c =
    next_end (no_more (goal.at.returns-then-not-dropped c).In_default) c.in_default.ensures.taken.1 (sym c.if-not-dropped.ensures)

pub key_of-low-requires : goal.key_of-low-requires
key_of-low-requires c =
    text_in c.requires.at_nonzero.1 c.requires.at_nonzero.0

pub descend-requires-clause-any_tree : goal.descend-requires-clause-any_tree
descend-requires-clause-any_tree c =
    let a = c.args in
    (mark_ahead (key_at a.words.now a.text.now a.at)
    (no_more (goal.at.descend-requires-clause-any_tree c).In_default) c.in_default.ensures.taken.1 c.in-Some-take_mark.marked c.in-Some-take_mark.ensures).any

pub returns-in-Some-take_note : goal.returns-in-Some-take_note
returns-in-Some-take_note c =
    let a = c.args in let key = key_at a.words.now a.text.now in
    matched_top (key a.at) true
    ((rw c.key_of-low.ensures at c.descend.ensures).notes_on _
    (mark_noting (key a.at) (no_more (goal.at.returns-in-Some-take_note c).In_default) c.in_default.ensures.taken.1 c.in-Some-take_mark.marked
    c.in-Some-take_mark.ensures (sym c.if-not-dropped.ensures)))
    (kept_pass key (past true (key a.at)) (matches a.words.now a.text.now a.root a.prefix.now)) c.in-Some-take_note.next c.in-Some-take_note.ensures

pub returns : goal.returns
returns c =
    let a = c.args in let key = key_at a.words.now a.text.now in
    let xs = after key (key a.at) (matches a.words.now a.text.now a.root a.prefix.now) in
    let noting = no_more (goal.at.returns c).In_default in
    let on : Noting a.words.now a.text.now a.prefix.now (past true (key a.at)) c.match-take_mark.notes [] xs × (c.match-take_mark.notes.branches ≡ []) =
    elim c.match-take_mark.branch [
      | in-Some-take_mark+in_default-take_note w ↦ rw w.notes-is (
        no_note ((rw c.key_of-low.ensures at w.descend.ensures).notes_on _
            (mark_noting (key a.at) noting c.in_default.ensures.taken.1 w.in-Some-take_mark.marked w.in-Some-take_mark.ensures
            (sym c.if-not-dropped.ensures))) w.in_default-take_note.ensures,
        w.in_default-take_note.ensures.taken.1,
      )
      | in_default-take_mark w ↦ rw w.notes-is
          (no_mark noting w.in_default-take_mark.ensures, w.in_default-take_mark.ensures.branches ∙ c.in_default.ensures.taken.1)
    ] in
    let d = rw c.key_of-low.ensures at c.descend-2.ensures in
    matched_taken (key a.at) true (d.notes_on _ (root_noting (key a.at) on.0 on.1 a.root refl))
    (kept_pass key (past true (key a.at)) (matches a.words.now a.text.now a.root a.prefix.now)) c.take_note-2.result
    d.none c.take_note-2.ensures
