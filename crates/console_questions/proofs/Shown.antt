-- The reply to a completion is that of the definition (`RowsShown`).
use Prim.Native.Nat.{ℕ}
use native.Mathlib.Omega.{arith}
use mathlib.Core.Path.{◌≡◌, refl, sym, ap, ◌∙◌}
use mathlib.Core.Bool.{true}
use mathlib.Core.List.{List, map}
use mathlib.Core.Option.{some}
use lib.ListN.{length, length-map}
use Rattle.source.specs.Calls as C
use Rattle.source.specs.Calls.{output_text}
use Rattle.memory.specs.Layout.{Item}
use Rattle.memory_table.specs.Table.{used_words, used_text}
use Rattle.text.proofs.Laid.{laid_length}
use Rattle.script_decimal.specs.Bytes.{Str, ◌·◌}
use Rattle.script_replies.specs.Replies.{refused_reply, end_reply}
use Rattle.listing_ask.specs.Ask.{asked}
use Rattle.listing_ask.specs.declared.Ask.{Ask}
use Rattle.listing_ask.specs.declared.Request.{Request}
use Rattle.listing_row.specs.Rows.{words_from, line_seen}
use Rattle.listing_row.proofs.Written.{written_lines, written_texts}
use Rattle.listing.specs.Completes.{output, refused_by, CompletesAs}
use Rattle.table.specs.Header.{IsSound, table_in}
use Rattle.refusals.specs.Refusals.{number}
use Rattle.table.specs.Completions.{completion, Completes}
use Rattle.table.specs.declared.Table.{Table}
use Rattle.console_questions.specs.Questions.{lines_text, completed_text}
use Rattle.console_questions.specs.RowReplies.{RowsShown, shown_text}
use Rattle.console_questions.proofs.RowReplies.{rows_text_is, rows_room_is}
use Rattle.listing.specs.declared.Listed.{Listed}
use Rattle.refusals.specs.declared.Refusal.{Refusal}
use Rattle.table.specs.declared.Answer.{Answer}
use Rattle.std.specs.Prelude.{Err, Ok, Result}

-- What is written of a completion, and that it can be.
pub record Tells (ask : Ask) (flat' out' : List ℕ) (r : Result Listed Refusal)
    (v : C.Completed (Item (asked ask))) : Type 0 where
  pub shown : RowsShown (asked ask) flat' out' r
  pub text_is : shown_text (asked ask) flat' out' r ≡ completed_text (asked ask) v

tells_refused : (ask : Ask) (flat' out' : List ℕ) (n : ℕ) (r : Result Listed Refusal) → refused_by r ≡ some n
    → Tells ask flat' out' r (C.refused n)
tells_refused ask flat' out' n (Ok listed) e = let z : ◌≡◌ {A = ℕ} 0 1 = cc in absurd (omega arith)
tells_refused ask flat' out' n (Err x) e = let z : number x ≡ n = cc in record { shown = tt; text_is = ap refused_reply z }

module _ (ask : Ask) (ws txt flat flat' out out' : List ℕ) where
  tells : (r : Result Listed Refusal) (v : C.Completed (Item (asked ask)))
      → CompletesAs ask ws txt flat flat' out out' r v
      → Tells ask flat' out' r v
  tells r (C.listed lines entered) (e, w) =
      let rows : List (List ℕ) = words_from flat' 0 (length lines) in
      let seen : map (line_seen (asked ask) txt out') rows ≡ lines = written_lines w in
      let count : length rows ≡ length lines = sym (length-map rows (line_seen (asked ask) txt out')) ∙ ap length seen in
      let size : length (output_text (map (line_seen (asked ask) txt out') rows)) ≡ length (output_text lines) = rw seen refl in
      rw e (record {
        shown = (
          record { whole = omega (arith, w.flat_laid.fits, laid_length w.flat_laid); texts = written_texts w },
          omega (
            arith,
            rows_room_is (asked ask) txt out' rows (written_texts w),
            count,
            size,
            w.flat_laid.fits,
            w.out_laid.end,
            w.out_laid.fits,
            laid_length w.flat_laid,
            laid_length w.out_laid,
          ),
        );
        text_is = ap (λ (t : Str). t · end_reply (length lines) entered) (rows_text_is (asked ask) txt out' rows ∙ ap (lines_text (asked ask)) seen);
      })
  tells r (C.refused n) (e, w, o) = tells_refused ask flat' out' n r e

pub completes_tells : {ws txt flat flat' out out' query : List ℕ} {tab : Table} {request : Request} {r : Answer Listed}
    → IsSound ws txt tab → Completes ws txt tab request query flat flat' out out' r
    → Tells request.ask flat' out' r.answer
    (completion true (table_in ws txt tab) request.ask request.budget (output flat out) query)
completes_tells {ws} {txt} {flat} {flat'} {out} {out'} {query} {tab} {request} {r} o x =
    tells request.ask (used_words ws tab.header) (used_text txt tab.header) flat flat' out out' r.answer
    (completion true (table_in ws txt tab) request.ask request.budget (output flat out) query)
    (x.says true o)
