-- Nothing is written, and lines after lines.
use Prim.Native.Nat.{ℕ, ◌+◌, ◌*◌, ◌≤◌}
use mathlib.Core.Path.{◌≡◌, refl, sym, ap, ◌∙◌}
use mathlib.Core.List.{List, [], ◌∷◌, ◌++◌, map, flat_map, map-append}
use native.Mathlib.Omega.{arith}
use lib.ListN.{length, length-append}
use Rattle.source.specs.Table.{Line}
use Rattle.source.specs.Calls.{output_text, output_lines}
use Rattle.source.specs.Shared.{Allˡ}
use Rattle.source.proofs.Lines.{flatMap_append, output_text_append, output_lines_append}
use Rattle.memory.specs.Layout.{Which, Item}
use Rattle.text.proofs.Laid.{laid_none, laid_more}
use Rattle.listing_output.specs.Output.{line_bytes, line_words, line_of, rows_flat, Written}

all_append : {A : Type 0} (P : A → Type 0) (xs ys : List A) → Allˡ P xs → Allˡ P ys → Allˡ P (xs ++ ys)
all_append P [] ys a b = b
all_append P (x ∷ xs) ys a b = (a.0, all_append P xs ys a.1 b)

rows_append : (xs ys : List (List ℕ)) → rows_flat (xs ++ ys) ≡ rows_flat xs ++ rows_flat ys
unfolding rows_flat
rows_append xs ys = flatMap_append (λ r. r) xs ys

module _ {w : Which} {ws txt : List ℕ} where
  pub written_none : (flat out : List ℕ) (n b : ℕ) → n * line_bytes ≤ length flat → b ≤ length out
      → Written w ws txt flat flat out out n b []
  unfolding output_text output_lines rows_flat flat_map
  written_none flat out n b h k = record {
    rows = [];
    sized = tt;
    from = tt;
    reads = refl;
    flat_laid = laid_none flat (n * line_bytes) ((n + 0) * line_bytes) (omega arith) (omega arith);
    out_laid = laid_none out b (b + 0) (omega arith) (omega arith);
  }

  pub written_then : {flat flat₁ flat₂ out out₁ out₂ : List ℕ} {n b : ℕ} {xs ys : List (Line (Item w))}
      → Written w ws txt flat flat₁ out out₁ n b xs
      → Written w ws txt flat₁ flat₂ out₁ out₂ (n + length xs) (b + length (output_text xs)) ys
      → Written w ws txt flat flat₂ out out₂ n b (xs ++ ys)
  written_then {n = n} {b = b} {xs = xs} {ys = ys} x y =
      let el : (n + length (xs ++ ys)) * line_bytes ≡ (n + length xs + length ys) * line_bytes = omega (arith, length-append xs ys) in
      let eb : b + length (output_text (xs ++ ys)) ≡ b + length (output_text xs) + length (output_text ys) =
      omega (arith, ap length (output_text_append xs ys), length-append (output_text xs) (output_text ys)) in
      record {
        rows = x.rows ++ y.rows;
        sized = all_append _ x.rows y.rows x.sized y.sized;
        from = rw (map-append line_words x.rows y.rows)
            (all_append _ (map line_words x.rows) (map line_words y.rows) x.from y.from);
        reads = ap (map (line_of w txt)) (map-append line_words x.rows y.rows)
            ∙ map-append (line_of w txt) (map line_words x.rows) (map line_words y.rows)
            ∙ rw (x.reads, y.reads) (sym (output_lines_append b xs ys));
        flat_laid = rw (el, rows_append x.rows y.rows) (laid_more x.flat_laid y.flat_laid);
        out_laid = rw (eb, output_text_append xs ys) (laid_more x.out_laid y.out_laid);
      }
