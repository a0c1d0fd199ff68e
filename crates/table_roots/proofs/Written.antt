-- Lines that are written from a part of the memory are written from the whole: `Written`.
use Prim.Native.Nat.{ℕ}
use mathlib.Core.Path.{◌≡◌, refl, sym, ap, ap₂, ◌∙◌}
use mathlib.Core.List.{List, [], ◌∷◌, map}
use lib.ListN.{take}
use Rattle.source.specs.Table.{Line}
use Rattle.source.specs.Calls.{LineRecord}
use Rattle.source.specs.Shared.{Allˡ}
use Rattle.memory.specs.Layout.{Which, Item}
use Rattle.memory.proofs.Keeps.{item_same}
use Rattle.memory_table.proofs.UsedPart.{part_text, part_record_at, part_at}
use Rattle.listing_output.specs.Output.{item_words, line_of, line_words, RowFrom, Written}
use Rattle.listing_row.proofs.Inside.{row_ok}

module _ (ws txt : List ℕ) (m k : ℕ) (w : Which) where
  row_whole : (r : List ℕ) → RowFrom (take m ws) (take k txt) w r → RowFrom ws txt w r
  row_whole r f =
      let b = f.at in
      record {
        branch = f.branch;
        at = record { some = b.some; at = part_at ws txt m k b.at };
        item_is = f.item_is ∙ ap item_words (sym (part_record_at ws txt m k b.at b.some));
        last = f.last;
      }

  line_whole : (r : List ℕ) → RowFrom (take m ws) (take k txt) w r → line_of w txt r ≡ line_of w (take k txt) r
  unfolding line_of
  line_whole r f = rw (item_same (take k txt) txt f.at.at.used (part_text ws txt m k f.at.at) w r (row_ok w f))

  rows_whole : (rows : List (List ℕ)) → Allˡ (RowFrom (take m ws) (take k txt) w) rows
      → Allˡ (RowFrom ws txt w) rows × (map (line_of w txt) rows ≡ map (line_of w (take k txt)) rows)
  rows_whole [] a = (tt, refl)
  rows_whole (r ∷ rows) a =
      let rest = rows_whole rows a.1 in
      ((row_whole r a.0, rest.0), ap₂ (λ (x : LineRecord (Item w)) (xs : List (LineRecord (Item w))). x ∷ xs) (line_whole r a.0) rest.1)

  pub written_whole : {flat flat' out out' : List ℕ} {l b : ℕ} {lines : List (Line (Item w))}
      → Written w (take m ws) (take k txt) flat flat' out out' l b lines
      → Written w ws txt flat flat' out out' l b lines
  written_whole x =
      let a = rows_whole (map line_words x.rows) x.from in
      record {
        rows = x.rows;
        sized = x.sized;
        from = a.0;
        reads = a.1 ∙ x.reads;
        flat_laid = x.flat_laid;
        out_laid = x.out_laid;
      }
