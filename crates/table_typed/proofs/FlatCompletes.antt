-- The completion into the first of the bytes, as one into all of them.
use mathlib.Core.Path.{◌≡◌, refl, sym, ap, ◌∙◌, subst}
use Prim.Native.Nat.{ℕ, ◌*◌, ◌/◌, ◌≤◌, min, zero-le}
use mathlib.Core.Bool.{true, false}
use mathlib.Core.List.{List, ◌++◌, append_assoc}
use mathlib.Core.Option.{some, none-ne-some}
use native.Mathlib.Omega.{arith}
use lib.ListN.{length, take, drop, take-append-drop}
use lib.Seq.{length-take-le, drop-append-le}
use Rattle.source.specs.Text.{Str}
use Rattle.source.specs.Calls as C
use Rattle.source.specs.Calls.{complete, complete_modules, completed, completion_rows, first_row, argument_rows}
use Rattle.memory.specs.Layout.{Item}
use Rattle.memory_table.specs.Table.{used_words, used_text}
use Rattle.text.specs.Laid.{Laid}
use Rattle.listing_ask.specs.Ask.{asked}
use Rattle.listing_output.specs.Output.{line_bytes}
use Rattle.listing_ask.specs.declared.Ask.{Ask}
use Rattle.listing_ask.specs.declared.Ask.TheVariants.{Names, Modules}
use Rattle.listing.specs.Completes as F
use Rattle.table.specs.Header.{IsSound, table_in}
use Rattle.table.specs.Completions as T
use Rattle.listing.specs.Completes.{CompletesAs, refused_by}
use Rattle.table.specs.Completions.{completion}
use Rattle.table.specs.declared.Table.{Table}
use Rattle.refusals.specs.declared.Refusal.TheVariants.{Unsound}
use Rattle.listing_ask.specs.declared.Request.{Request}
use Rattle.table.proofs.Says.{says_same}
use Rattle.table_count.specs.LinesIn.{lines_in}
use Rattle.table_typed.specs.Completions.{output, FlatCompletes}
use Rattle.listing.specs.declared.Listed.{Listed}
use Rattle.refusals.specs.declared.Refusal.{Refusal}
use Rattle.table.specs.declared.Answer.{Answer}
use Rattle.std.specs.Prelude.{Err, Ok, Result}

-- What is written at the start of the part stands at the start of the whole.
laid_front : {d f s : List ℕ} {k r : ℕ} → k ≤ length d → Laid (take k d) f 0 r s → Laid d (f ++ drop k d) 0 r s
laid_front {d} {f} {s} {k} {r} h x = record {
  end = x.end;
  fits = omega (arith, x.fits, length-take-le k d h);
  is = ap (λ l. l ++ drop k d) x.is
      ∙ append_assoc s (drop r (take k d)) (drop k d)
      ∙ ap (λ l. s ++ l) (sym (drop-append-le r (take k d) (drop k d) x.fits) ∙ ap (drop r) (take-append-drop k d));
}

-- A refusal lists no line.
pub refused_none : (r : Result Listed Refusal) {n : ℕ} → refused_by r ≡ some n → lines_in r ≡ 0
refused_none (Ok listed) {n} e = absurd (none-ne-some n e)
refused_none (Err x) e = refl

module _ (ask : Ask) (ws txt flat f out out' : List ℕ) (r : Result Listed Refusal) (k : ℕ) where
  part_as : k ≤ length flat → (x : C.Completed (Item (asked ask))) → CompletesAs ask ws txt (take k flat) f out out' r x
      → CompletesAs ask ws txt flat (f ++ drop k flat) out out' r x
  part_as h (C.listed lines entered) c = (
    c.0,
    record {
      rows = c.1.rows;
      sized = c.1.sized;
      from = c.1.from;
      reads = c.1.reads;
      flat_laid = laid_front h c.1.flat_laid;
      out_laid = c.1.out_laid;
    },
  )
  part_as h (C.refused n) c = (c.0, ap (λ l. l ++ drop k flat) c.1 ∙ take-append-drop k flat, c.2)

  part_fits : (x : C.Completed (Item (asked ask))) → CompletesAs ask ws txt (take k flat) f out out' r x
      → lines_in r * line_bytes ≤ length (take k flat)
  part_fits (C.listed lines entered) c = omega (arith, ap lines_in c.0, c.1.flat_laid.fits)
  part_fits (C.refused n) c = omega (arith, refused_none r c.0)

output_part : (room k : ℕ) (flat out : List ℕ) → k ≤ length flat → k ≡ min (length flat / line_bytes) room * line_bytes
    → F.output (take k flat) out ≡ output room flat out
output_part room k flat out h e =
    let n : length (take k flat) / line_bytes ≡ min (length flat / line_bytes) room = ap (λ m. m / line_bytes) (length-take-le k flat h ∙ e) ∙ omega arith in
    ap (λ m. record { lines = min m 4294967295; text = min (length out) 4294967295 }) n

module _ {ws txt : List ℕ} {tab : Table} {q : Request} {query : Str} {room : ℕ} {flat out : List ℕ} where
  pub flat_completes : {f out' : List ℕ} {r : Answer Listed} {k : ℕ} → IsSound ws txt tab
      → k ≡ min (length flat / line_bytes) room * line_bytes
      → T.Completes ws txt tab q query (take k flat) f out out' r
      → FlatCompletes ws txt tab q query room flat (f ++ drop k flat) out out' r
  flat_completes {f} {out'} {r} {k} o e c =
      let ask : Ask = q.ask in
      let budget : ℕ = q.budget in
      let a : Result Listed Refusal = r.answer in
      let ws' : List ℕ = used_words ws tab.header in
      let txt' : List ℕ = used_text txt tab.header in
      let h : k ≤ length flat = omega (arith, e) in
      let n : lines_in a * line_bytes ≤ k = omega (
        arith,
        part_fits ask ws' txt' flat f out out' a k (completion true (table_in ws txt tab) ask budget (F.output (take k flat) out) query) (c.says true o),
        length-take-le k flat h,
      ) in
      record {
        table = c.table;
        says = λ b s. subst (λ x. CompletesAs ask ws' txt' flat (f ++ drop k flat) out out' a
            (completion x (table_in ws txt tab) ask budget (output room flat out) query)) (sym (says_same _ b true s o))
            (part_as ask ws' txt' flat f out out' a k h
            (completion true (table_in ws txt tab) ask budget (output room flat out) query)
            (subst (λ x. CompletesAs ask ws' txt' (take k flat) f out out' a
            (completion true (table_in ws txt tab) ask budget x query)) (output_part room k flat out h e)
            (c.says true o)));
        fit = omega (arith, n, e);
        lent = omega (arith, n, h);
      }

  -- A memory that is not sound.
  pub flat_unsound : (IsSound ws txt tab → ⊥)
      → FlatCompletes ws txt tab q query room flat flat out out (record { table = tab; answer = Err Unsound })
  unfolding complete complete_modules completed completion_rows first_row argument_rows
  flat_unsound o = record {
    table = refl;
    says = λ b s. subst (λ x. CompletesAs q.ask (used_words ws tab.header) (used_text txt tab.header) flat flat out out (Err Unsound)
        (completion x (table_in ws txt tab) q.ask q.budget (output room flat out) query)) (sym (says_same _ b false s o)) (go q.ask);
    fit = zero-le;
    lent = zero-le;
  }
    where
      go : (ask : Ask)
          → CompletesAs ask (used_words ws tab.header) (used_text txt tab.header) flat flat out out
          (Err Unsound)
          (completion false (table_in ws txt tab) ask q.budget (output room flat out) query)
      go (Names f) = (refl, refl, refl)
      go (Modules f) = (refl, refl, refl)
