-- `put_row` meets its contract.
use mathlib.Core.Path.{◌≡◌, refl, subst}
use Prim.Native.Nat.{ℕ}
use mathlib.Core.List.{List}
use lib.ListN.{length}
use native.Mathlib.Omega.{arith}
use Rattle.source.specs.Calls.{signed_word}
use Rattle.memory.specs.Read.{text_of}
use Rattle.text.specs.Laid.{Laid}
use Rattle.script_decimal.specs.Bytes.{Str}
use Rattle.script_replies.specs.Replies.{line_reply}
use Rattle.script_replies.specs.declared.ItemReply.{ItemReply}
use Rattle.listing_row.specs.declared.Row.{Row}
use Rattle.listing_row.specs.Rows.{TextsIn}
use Rattle.memory.proofs.Pasted.{span_length}
use Rattle.console_questions.specs.RowReplies.{item_shown, row_text}
use Rattle.console_questions.proofs.put_row.Goals as goal

row_as : (pane : List ℕ) (r : Row) {item : ItemReply} {note candidate : Str} → item ≡ item_shown r.item
    → note ≡ text_of pane r.annotation → candidate ≡ text_of pane r.candidate
    → line_reply (signed_word r.matched) item note candidate ≡ row_text pane r
unfolding row_text
row_as pane r p q s = rw (p, q, s) refl

note-size : {pane : List ℕ} {r : Row} {note : Str} → TextsIn pane r → note ≡ text_of pane r.annotation
    → length note ≡ r.annotation.len
note-size {pane} {r} t e = rw e (span_length pane r.annotation.start r.annotation.len t.annotation)

candidate-size : {pane : List ℕ} {r : Row} {candidate : Str} → TextsIn pane r → candidate ≡ text_of pane r.candidate
    → length candidate ≡ r.candidate.len
candidate-size {pane} {r} t e = rw e (span_length pane r.candidate.start r.candidate.len t.candidate)

pub text_of-requires : goal.text_of-requires
text_of-requires c =
    c.requires.texts_in.annotation

pub text_of-requires-2 : goal.text_of-requires-2
text_of-requires-2 c =
    c.requires.texts_in.candidate

pub put_row-requires : goal.put_row-requires
put_row-requires c =
    let pre = c.requires in
    omega (arith, pre.row_in_bounds, note-size pre.texts_in c.text_of.ensures, candidate-size pre.texts_in c.text_of-2.ensures)

pub returns : goal.returns
returns c = (
  subst (Laid _ _ _ _) (row_as c.args.pane.now c.args.row c.item_reply.ensures c.text_of.ensures c.text_of-2.ensures)
      c.put_row.ensures.0,
  omega (arith, c.put_row.ensures.1, note-size c.requires.texts_in c.text_of.ensures, candidate-size c.requires.texts_in c.text_of-2.ensures),
)
