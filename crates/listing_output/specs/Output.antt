-- The lent output: lines as bytes, 48 to a line, and the text. Four bytes are a word, lowest first (wire's Bytes).
--
--   word   of a line
--   0      match length, 4294967295 for -1
--   1, 2   candidate: start, length in the output text
--   3, 4   annotation: start, length in the output text
--   5..10  item: as in the branch that it is from (memory's Layout)
--   11     0
use Rattle.std.specs.Prelude.{ℕ, ◌+◌, ◌*◌, ◌≡◌, length}
use mathlib.Core.List.{List, [], ◌∷◌, map, flat_map}
use Rattle.source.specs.Table.{Line}
use Rattle.source.specs.Calls.{LineRecord, output_text, output_lines, signed_word}
use Rattle.source.specs.Types.{bind}
use Rattle.source.specs.Limits.{record_words}
use Rattle.source.specs.Shared.{Allˡ}
use Rattle.memory.specs.Layout.{record_at, word, number_word, name_start, name_len, path_start, path_len, loaded_word, Which, Item, item_of}
use Rattle.text.specs.Laid.{Laid}
use Rattle.memory_bytes.specs.Bytes.{words_at}
use Rattle.listing_output.specs.Path.{BranchAt}

-- Bytes of a line.
abbrev pub line_bytes : ℕ
line_bytes = 48

-- The twelve words that they spell.
abbrev pub line_words : List ℕ → List ℕ
line_words bs = words_at bs record_words

-- The words of a line by name; those of its item are a branch's.
abbrev pub matched_word : List ℕ → ℕ
matched_word r = word r 0

abbrev pub candidate_start : List ℕ → ℕ
candidate_start r = word r 1

abbrev pub candidate_len : List ℕ → ℕ
candidate_len r = word r 2

abbrev pub annotation_start : List ℕ → ℕ
annotation_start r = word r 3

abbrev pub annotation_len : List ℕ → ℕ
annotation_len r = word r 4

-- The line record that twelve words hold, its item's texts in the table's text.
unfoldable pub line_of : (w : Which) → List ℕ → List ℕ → LineRecord (Item w)
line_of w txt r = record {
  match_length = signed_word (matched_word r);
  item_of = item_of w txt r;
  candidate = record { start = candidate_start r; len = candidate_len r };
  annotation = record { start = annotation_start r; len = annotation_len r };
}

-- The bytes of lines one after another.
unfoldable pub rows_flat : List (List ℕ) → List ℕ
rows_flat rows = flat_map (λ r. r) rows

-- The words of an item, in a line or in a branch of bindings.
abbrev pub item_words : List ℕ → List ℕ
item_words r = number_word r ∷ name_start r ∷ name_len r ∷ path_start r ∷ path_len r ∷ loaded_word r ∷ []

-- The words of a line: those of the item as in a branch of bindings of the table, the last 0.
pub record RowFrom (ws txt : List ℕ) (w : Which) (r : List ℕ) : Type 0 where
  pub branch : ℕ
  pub at : BranchAt ws txt w bind branch
  pub item_is : item_words r ≡ item_words (record_at ws branch)
  pub last : word r 11 ≡ 0

-- The lines are written after the first n line records and the first b bytes, and nothing else changed; rows are the bytes of each line.
pub record Written (w : Which) (ws txt flat flat' out out' : List ℕ) (n b : ℕ)
    (lines : List (Line (Item w))) : Type 0 where
  pub rows : List (List ℕ)
  pub sized : Allˡ (λ r. length r ≡ line_bytes) rows
  pub from : Allˡ (RowFrom ws txt w) (map line_words rows)
  pub reads : map (line_of w txt) (map line_words rows) ≡ output_lines b lines
  pub flat_laid : Laid flat flat' (n * line_bytes) ((n + length lines) * line_bytes) (rows_flat rows)
  pub out_laid : Laid out out' b (b + length (output_text lines)) (output_text lines)
