-- Laws of the replies of rows: they are those of the lines that a reader sees, and they are written row by row.
use Prim.Native.Nat.{ℕ, ◌+◌, ◌-◌, ◌*◌, ◌<◌, ◌≤◌}
use native.Mathlib.Omega.{arith}
use mathlib.Core.Path.{◌≡◌, refl, sym, ap, ap₂, ◌∙◌, subst}
use mathlib.Core.Bool.{Bool, true, false}
use mathlib.Core.List.{List, [], ◌∷◌, ◌++◌, map, append_assoc, append-nil}
use lib.Dec.{eqb}
use lib.ListN.{length, length-append}
use Rattle.source.specs.Shared.{Allˡ}
use Rattle.source.specs.Calls.{output_text}
use Rattle.memory.specs.Layout.{Which, names, modules, item_of, span, symbol_word}
use Rattle.text.specs.Laid.{Laid}
use Rattle.text.proofs.Laid.{laid_none, laid_more}
use Rattle.script_decimal.specs.Bytes.{Str, ◌·◌}
use Rattle.script_replies.specs.Replies.{reply_room}
use Rattle.listing_output.specs.Output.{candidate_start, candidate_len, annotation_start, annotation_len}
use Rattle.listing_row.specs.Rows.{words_at, words_from, item_in, row_in, line_seen, TextsIn}
use Rattle.listing_row.proofs.Rows.{rows_left}
use Rattle.memory.proofs.Pasted.{span_length}
use Rattle.console_questions.specs.Questions.{item_reply, line_text, lines_text}
use Rattle.console_questions.specs.RowReplies.{item_shown, row_text, row_room, rows_text, rows_room, RowsIn}

-- ---- Against the lines

same_item : (w : Which) (txt r : List ℕ) → item_shown (item_in w r) ≡ item_reply w (item_of w txt r)
same_item names txt r = refl
same_item modules txt r = go (eqb (symbol_word r) 0) refl
  where
    go : (b : Bool) → eqb (symbol_word r) 0 ≡ b
        → item_shown (item_in modules r) ≡ item_reply modules (item_of modules txt r)
    go true e = rw e refl
    go false e = rw e refl

module _ (w : Which) (txt pane : List ℕ) where
  row_text_is : (r : List ℕ) → row_text pane (row_in w r) ≡ line_text w (line_seen w txt pane r)
  unfolding row_text line_text line_seen
  row_text_is r = rw (same_item w txt r) refl

  -- The replies of rows are those of the lines that they say.
  pub rows_text_is : (rs : List (List ℕ)) → rows_text w pane rs ≡ lines_text w (map (line_seen w txt pane) rs)
  unfolding rows_text lines_text
  rows_text_is [] = refl
  rows_text_is (r ∷ rs) = ap₂ (λ (s u : Str). s · u) (row_text_is r) (rows_text_is rs)

  pub rows_room_is : (rs : List (List ℕ)) → Allˡ (λ r. TextsIn pane (row_in w r)) rs
      → rows_room w rs ≡ length rs * reply_room + length (output_text (map (line_seen w txt pane) rs))
  unfolding rows_room output_text line_seen
  rows_room_is [] a = refl
  rows_room_is (r ∷ rs) a =
      let candidate : List ℕ = span pane (candidate_start r) (candidate_len r) in
      let annotation : List ℕ = span pane (annotation_start r) (annotation_len r) in
      omega (
        arith,
        rows_room_is rs a.1,
        span_length pane (candidate_start r) (candidate_len r) a.0.candidate,
        span_length pane (annotation_start r) (annotation_len r) a.0.annotation,
        length-append candidate (annotation ++ output_text (map (line_seen w txt pane) rs)),
        length-append annotation (output_text (map (line_seen w txt pane) rs)),
      )

-- ---- Row by row

-- The replies of the first i of n rows are written.
pub record Going (w : Which) (flat pane reply₀ reply : List ℕ) (at e i n : ℕ) : Type 0 where
  pub below : i ≤ n
  pub done : Str
  pub laid : Laid reply₀ reply at e done
  pub rest : done · rows_text w pane (words_from flat i (n - i)) ≡ rows_text w pane (words_from flat 0 n)
  pub texts : Allˡ (λ r. TextsIn pane (row_in w r)) (words_from flat i (n - i))
  pub space : e + rows_room w (words_from flat i (n - i)) ≤ at + rows_room w (words_from flat 0 n)

module _ {w : Which} {flat pane reply₀ : List ℕ} {at n : ℕ} where
  pub rows_going_start : RowsIn w flat pane n → at ≤ length reply₀ → Going w flat pane reply₀ reply₀ at at 0 n
  rows_going_start ok h =
      let e : n - 0 ≡ n = omega arith in
      record {
        below = omega arith;
        done = [];
        laid = laid_none reply₀ at at refl h;
        rest = rw e refl;
        texts = rw e ok.texts;
        space = rw e (omega arith);
      }

  module _ {reply : List ℕ} {e i : ℕ} (g : Going w flat pane reply₀ reply at e i n) (l : i < n) where
    pub going_texts : TextsIn pane (row_in w (words_at flat i))
        × Allˡ (λ r. TextsIn pane (row_in w r)) (words_from flat (i + 1) (n - (i + 1)))
    going_texts = rw (rows_left flat i n l) at g.texts

    going_room : rows_room w (words_from flat i (n - i))
        ≡ row_room (row_in w (words_at flat i)) + rows_room w (words_from flat (i + 1) (n - (i + 1)))
    unfolding rows_room
    going_room = rw (rows_left flat i n l) refl

    going_text : rows_text w pane (words_from flat i (n - i))
        ≡ row_text pane (row_in w (words_at flat i)) · rows_text w pane (words_from flat (i + 1) (n - (i + 1)))
    unfolding rows_text
    going_text = rw (rows_left flat i n l) refl

    pub going_space : e + row_room (row_in w (words_at flat i)) ≤ at + rows_room w (words_from flat 0 n)
    going_space = omega (arith, g.space, going_room)

    pub rows_going_on : {reply' : List ℕ} {e' : ℕ} → Laid reply reply' e e' (row_text pane (row_in w (words_at flat i)))
        → e' ≤ e + row_room (row_in w (words_at flat i)) → Going w flat pane reply₀ reply' at e' (i + 1) n
    rows_going_on x h = record {
      below = omega arith;
      done = g.done · row_text pane (row_in w (words_at flat i));
      laid = laid_more g.laid x;
      rest = append_assoc g.done (row_text pane (row_in w (words_at flat i))) (rows_text w pane (words_from flat (i + 1) (n - (i + 1))))
          ∙ ap (λ (s : Str). g.done · s) (sym going_text) ∙ g.rest;
      texts = going_texts.1;
      space = omega (arith, g.space, going_room);
    }

  pub rows_going_end : {reply : List ℕ} {e i : ℕ} → Going w flat pane reply₀ reply at e i n → n ≤ i
      → Laid reply₀ reply at e (rows_text w pane (words_from flat 0 n)) × (e ≤ at + rows_room w (words_from flat 0 n))
  unfolding rows_text words_from
  rows_going_end {reply} {e} {i} g h =
      let z : n - i ≡ 0 = omega arith in
      (subst (Laid reply₀ reply at e) (sym (append-nil g.done) ∙ (rw z at g.rest)) g.laid, omega (arith, g.space))
