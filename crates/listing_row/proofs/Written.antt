-- A reader sees the lines that a completion wrote: `Written`, read back.
use Prim.Native.Nat.{ℕ, suc, ◌+◌, ◌*◌, ◌≤◌}
use native.Mathlib.Omega.{arith}
use mathlib.Core.Path.{◌≡◌, refl, sym, ap, ap₂, ◌∙◌}
use mathlib.Core.List.{List, [], ◌∷◌, ◌++◌, map, flat_map, append_assoc}
use lib.ListN.{length, take, drop, length-append, length-drop, length-map}
use lib.Seq.{take_at, drop_at, drop-drop}
use Rattle.source.specs.Table.{Line}
use Rattle.source.specs.Calls.{LineRecord, output_text, output_lines}
use Rattle.source.specs.Shared.{Allˡ}
use Rattle.source.proofs.Lines.{output_lines_length}
use Rattle.memory.specs.Layout.{Which, Item, span}
use Rattle.text.specs.Laid.{Laid}
use Rattle.memory_bytes.proofs.Parts.{words_front}
use Rattle.listing_output.specs.Output.{line_bytes, line_words, line_of, rows_flat, RowFrom, Written, candidate_start, candidate_len, annotation_start}
use Rattle.listing_output.specs.Output.{annotation_len}
use Rattle.listing_row.specs.Rows.{words_at, words_from, item_in, row_in, ItemInside, line_seen, lines_seen, TextsIn}
use Rattle.listing_row.proofs.Inside.{row_inside}

-- ---- A list that stands at a place of another

record Stands (xs : List ℕ) (k : ℕ) (s : List ℕ) : Type 0 where
  rest : List ℕ
  within : k ≤ length xs
  is : drop k xs ≡ s ++ rest

module _ {xs : List ℕ} {k : ℕ} where
  stands_span : {s : List ℕ} → Stands xs k s → span xs k (length s) ≡ s
  unfolding span
  stands_span {s} x = ap (take (length s)) x.is ∙ take_at s x.rest (length s) refl

  stands_size : {s : List ℕ} → Stands xs k s → k + length s ≤ length xs
  stands_size {s} x = omega (arith, x.within, length-drop k xs, ap length x.is, length-append s x.rest)

  stands_first : (s t : List ℕ) → Stands xs k (s ++ t) → Stands xs k s
  stands_first s t x = record { rest = t ++ x.rest; within = x.within; is = x.is ∙ append_assoc s t x.rest }

  stands_next : (s t : List ℕ) → Stands xs k (s ++ t) → Stands xs (k + length s) t
  stands_next s t x = record {
    rest = x.rest;
    within = omega (arith, stands_size x, length-append s t);
    is = sym (drop-drop (length s) k xs) ∙ ap (drop (length s)) (x.is ∙ append_assoc s t x.rest) ∙ drop_at s (t ++ x.rest) (length s) refl;
  }

stands_laid : {d d' s : List ℕ} {r : ℕ} → Laid d d' 0 r s → Stands d' 0 s
stands_laid {d} {d'} {s} {r} x = record { rest = drop r d; within = omega arith; is = x.is }

-- ---- The words

words_are : (flat : List ℕ) (i : ℕ) (rows : List (List ℕ)) → Allˡ (λ r. length r ≡ line_bytes) rows
    → Stands flat (i * line_bytes) (rows_flat rows)
    → words_from flat i (length rows) ≡ map line_words rows
unfolding words_from words_at rows_flat flat_map
words_are flat i [] a x = refl
words_are flat i (r ∷ rows) a x =
    let p : i * line_bytes + length r ≡ suc i * line_bytes = omega (arith, a.0) in
    ap₂ (λ (s : List ℕ) (ss : List (List ℕ)). s ∷ ss)
    (ap line_words (stands_first r (rows_flat rows) x).is ∙ words_front r _ 12 (omega (arith, a.0)))
    (words_are flat (suc i) rows a.1 (rw p at (stands_next r (rows_flat rows) x)))

-- ---- The lines

-- What the words of a line with texts from b on hold.
abbrev record_from : {A : Type 0} → ℕ → Line A → LineRecord A
record_from b l = record {
  match_length = l.match_length;
  item_of = l.item_of;
  candidate = record { start = b; len = length l.candidate };
  annotation = record { start = b + length l.candidate; len = length l.annotation };
}

module _ (w : Which) (txt out : List ℕ) where
  module _ (r : List ℕ) (b : ℕ) (ln : Line (Item w)) (e : line_of w txt r ≡ record_from b ln)
      (o : Stands out b (ln.candidate ++ ln.annotation)) where
    start_is : candidate_start r ≡ b
    unfolding line_of
    start_is = ap (λ (x : LineRecord (Item w)). x.candidate.start) e

    len_is : candidate_len r ≡ length ln.candidate
    unfolding line_of
    len_is = ap (λ (x : LineRecord (Item w)). x.candidate.len) e

    note_is : annotation_start r ≡ b + length ln.candidate
    unfolding line_of
    note_is = ap (λ (x : LineRecord (Item w)). x.annotation.start) e

    note_len_is : annotation_len r ≡ length ln.annotation
    unfolding line_of
    note_len_is = ap (λ (x : LineRecord (Item w)). x.annotation.len) e

    line_is : line_seen w txt out r ≡ ln
    unfolding line_of line_seen
    line_is =
        rw (
          ap (λ (x : LineRecord (Item w)). x.match_length) e,
          ap (λ (x : LineRecord (Item w)). x.item_of) e,
          start_is,
          len_is,
          note_is,
          note_len_is,
          stands_span (stands_first ln.candidate ln.annotation o),
          stands_span (stands_next ln.candidate ln.annotation o),
        )

    texts_in : TextsIn out (row_in w r)
    texts_in = record {
      candidate = omega (arith, start_is, len_is, stands_size (stands_first ln.candidate ln.annotation o));
      annotation = omega (arith, note_is, note_len_is, stands_size (stands_next ln.candidate ln.annotation o));
    }

  lines_are : (rows : List (List ℕ)) (b : ℕ) (lines : List (Line (Item w)))
      → map (line_of w txt) rows ≡ output_lines b lines → Stands out b (output_text lines)
      → (map (line_seen w txt out) rows ≡ lines) × Allˡ (λ r. TextsIn out (row_in w r)) rows
  unfolding output_lines output_text
  lines_are [] b [] e o = (refl, tt)
  lines_are [] b (l ∷ ls) e o = let z : ◌≡◌ {A = ℕ} 0 1 = cc in absurd (omega arith)
  lines_are (r ∷ rows) b [] e o = let z : ◌≡◌ {A = ℕ} 0 1 = cc in absurd (omega arith)
  lines_are (r ∷ rows) b (l ∷ ls) e o =
      let here : line_of w txt r ≡ record_from b l = cc in
      let others : map (line_of w txt) rows ≡ output_lines (b + length l.candidate + length l.annotation) ls = cc in
      let o' : Stands out b ((l.candidate ++ l.annotation) ++ output_text ls) = rw append_assoc o in
      let first = stands_first (l.candidate ++ l.annotation) (output_text ls) o' in
      let q : b + length (l.candidate ++ l.annotation) ≡ b + length l.candidate + length l.annotation =
      omega (arith, length-append l.candidate l.annotation) in
      let rest = lines_are rows (b + length l.candidate + length l.annotation) ls others
      (rw q at (stands_next (l.candidate ++ l.annotation) (output_text ls) o')) in
      (ap₂ (λ (x : Line (Item w)) (xs : List (Line (Item w))). x ∷ xs) (line_is r b l here first) rest.0, (texts_in r b l here first, rest.1))

module _ {w : Which} {ws txt flat flat' out out' : List ℕ} {lines : List (Line (Item w))}
    (x : Written w ws txt flat flat' out out' 0 0 lines) where
  count : length x.rows ≡ length lines
  count = sym (length-map (map line_words x.rows) (line_of w txt) ∙ length-map x.rows line_words) ∙ ap length x.reads ∙ output_lines_length 0 lines

  -- The words of the rows that are lent.
  pub written_words : words_from flat' 0 (length lines) ≡ map line_words x.rows
  written_words = ap (words_from flat' 0) (sym count) ∙ words_are flat' 0 x.rows x.sized (stands_laid x.flat_laid)

  -- The line records.
  pub written_records : map (line_of w txt) (words_from flat' 0 (length lines)) ≡ output_lines 0 lines
  written_records = rw written_words x.reads

  -- The lines, and their texts.
  pub written_lines : map (line_seen w txt out') (words_from flat' 0 (length lines)) ≡ lines
  written_lines = rw written_words (lines_are w txt out' (map line_words x.rows) 0 lines x.reads (stands_laid x.out_laid)).0

  pub written_seen : lines_seen w txt flat' out' (length lines) ≡ lines
  unfolding lines_seen
  written_seen = written_lines

  pub written_texts : Allˡ (λ r. TextsIn out' (row_in w r)) (words_from flat' 0 (length lines))
  written_texts = rw written_words (lines_are w txt out' (map line_words x.rows) 0 lines x.reads (stands_laid x.out_laid)).1

  -- The items, and their texts.
  pub written_items : Allˡ (λ r. ItemInside (length txt) (item_in w r)) (words_from flat' 0 (length lines))
  written_items = rw written_words (go (map line_words x.rows) x.from)
    where
      go : (rows : List (List ℕ)) → Allˡ (RowFrom ws txt w) rows
          → Allˡ (λ r. ItemInside (length txt) (item_in w r)) rows
      go [] a = tt
      go (r ∷ rows) a = (row_inside w a.0, go rows a.1)
