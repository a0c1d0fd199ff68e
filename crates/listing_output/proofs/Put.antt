-- A line that is put reads as the line of its branch.
use Prim.Native.Nat.{ℕ, ◌+◌, ◌-◌, ◌*◌, ◌≤◌}
use mathlib.Core.Path.{◌≡◌, refl, ap, ◌∙◌}
use mathlib.Core.List.{List, [], ◌∷◌, ◌++◌, flat_map, append-nil}
use native.Mathlib.Omega.{arith}
use lib.ListN.{length, take, length-append}
use borrow.Rule.Slice.PartMut.{put_mid, mid_of}
use Rattle.source.specs.Text.{Str}
use Rattle.source.specs.Table.{Line}
use Rattle.source.specs.Calls.{output_text, output_lines}
use Rattle.memory.specs.Layout.{record_at, Which, names, modules, Item, item_of, key_at, text_len}
use Rattle.memory.specs.Grown.{put_text}
use Rattle.text.specs.Laid.{Laid}
use Rattle.text.proofs.Laid.{laid_length, laid_more, lent_laid, room_left}
use Rattle.memory_bytes.specs.Bytes.{Stored}
use Rattle.listing_output.specs.Path.{joined}
use Rattle.listing_output.specs.Output.{line_bytes, line_of, rows_flat, Written}
use Rattle.listing_output.specs.Run.{Job}
use Rattle.listing_output.specs.Parts.{Spells, JobOk, candidate_of, line_row, size_of, LineFits, LinePut}
use Rattle.listing_output.proofs.Texts.{text_laid, row_laid, row_spelled}

-- A line's words read as the item of its branch.
row_item : (w : Which) (txt r : List ℕ) (m start n k : ℕ) → item_of w txt (line_row r m start n k) ≡ item_of w txt r
row_item names txt r m start n k = refl
row_item modules txt r m start n k = refl

module _ {ws txt : List ℕ} {j : Job} (ok : JobOk ws txt j) where
  pub candidate_length : length (candidate_of ws txt j.path j.branch)
      ≡ j.path.len + text_len (record_at ws j.branch)
  candidate_length = omega (arith, length-append (joined ws txt j.path.links j.path.n) (key_at ws txt j.branch), ok.path.len_is, ok.branch.size)

  -- The texts and the row, written into lent parts.
  module _ {note flat out out₁ : List ℕ} {end : ℕ} (room : LineFits ws j note flat out)
      (x : Laid out out₁ j.tally.bytes end (candidate_of ws txt j.path j.branch)) where
    pub note_room : length note ≤ length (mid_of end (length out₁ - end) out₁)
    note_room = room_left out₁ end (length note) (omega (arith, x.end, laid_length x, candidate_length, room.out_room))

    pub line_put : {out₂ flat₁ row : List ℕ} {m : ℕ} → out₂ ≡ put_text (mid_of end (length out₁ - end) out₁) 0 note
        → m ≡ j.matched
        → row ≡ line_row (record_at ws j.branch) m j.tally.bytes (end - j.tally.bytes) (length note)
        → Stored row 0 12 (mid_of (j.tally.lines * line_bytes) (length flat - j.tally.lines * line_bytes) flat) flat₁
        → LinePut ws txt j note flat (put_mid (j.tally.lines * line_bytes)
        (length flat - j.tally.lines * line_bytes) flat flat₁) out (put_mid end (length out₁ - end) out₁ out₂)
    line_put {flat₁ = flat₁} {row} p k q r =
        let e : end - j.tally.bytes ≡ length (candidate_of ws txt j.path j.branch) = omega (arith, x.end) in
        let z : j.tally.bytes + length (candidate_of ws txt j.path j.branch ++ note) ≡ end + length note =
        omega (arith, x.end, length-append (candidate_of ws txt j.path j.branch) note) in
        let size : length row ≡ 12 = ap length q in
        let some = room_left flat (j.tally.lines * line_bytes) line_bytes room.flat_room in
        record {
          bytes = take line_bytes flat₁;
          spell = row_spelled size some r ∙ q ∙ rw (k, e);
          flat_laid = lent_laid (j.tally.lines * line_bytes) (omega (arith, room.flat_room)) (row_laid size some r);
          out_laid = rw z (laid_more x
              (lent_laid end (omega (arith, x.end, x.fits, laid_length x)) (text_laid refl note_room refl p)));
        }

  module _ {note : Str} {w : Which} {ln : Line (Item w)}
      (s : Spells ws txt w j.path j.branch j.matched note ln) where
    line_text : output_text (ln ∷ []) ≡ candidate_of ws txt j.path j.branch ++ note
    unfolding output_text
    line_text = rw (s.candidate_is, s.annotation_is, append-nil note)

    pub line_size : length (output_text (ln ∷ [])) ≡ size_of ws j note
    line_size = omega (arith, ap length line_text, length-append (candidate_of ws txt j.path j.branch) note, candidate_length)

    pub written_line : {flat flat' out out' : List ℕ} → LinePut ws txt j note flat flat' out out'
        → Written w ws txt flat flat' out out' j.tally.lines j.tally.bytes (ln ∷ [])
    unfolding output_lines line_of rows_flat flat_map
    written_line p =
        let e : (j.tally.lines + 1) * line_bytes ≡ j.tally.lines * line_bytes + line_bytes = omega arith in
        record {
          rows = p.bytes ∷ [];
          sized = (omega (arith, p.flat_laid.end), tt);
          from = rw p.spell (record { branch = j.branch; at = s.branch_at; item_is = refl; last = refl }, tt);
          reads = rw (p.spell, s.length_is, s.item_is, s.candidate_is, s.annotation_is, row_item w);
          flat_laid = rw (e, append-nil p.bytes) p.flat_laid;
          out_laid = rw line_text p.out_laid;
        }
