-- What is read back of a listing: the words of a row by name, its struct, and the line that a reader sees.
use Rattle.std.specs.Prelude.{ℕ, zero, suc, ◌+◌, ◌*◌, ◌≤◌, List, [], ◌∷◌, map, length, drop}
use Rattle.std.proofs.Math.Option.{Option, none, some}
use Rattle.source.specs.Text.{Str}
use Rattle.source.specs.Calls.{signed_word}
use Rattle.source.specs.Table.{Line}
use Rattle.memory.specs.Layout.{Which, names, modules, Item, item_of, lid_in, span}
use Rattle.memory.specs.Read.{symbol_in, symbol_of}
use Rattle.memory.specs.declared.Span.{Span}
use Rattle.memory.specs.declared.ModSymbol.{ModSymbol}
use Rattle.memory.specs.declared.ModSymbol.TheVariants.{Module, Namespace}
use Rattle.listing_output.specs.Output.{line_bytes, line_words, matched_word, candidate_start, candidate_len, annotation_start, annotation_len}
use Rattle.listing_row.specs.declared.RowItem.{RowItem}
use Rattle.listing_row.specs.declared.RowItem.TheVariants.{Name, Symbol}
use Rattle.listing_row.specs.declared.Row.{Row}

-- The words of row k: those that the bytes from k * 48 on spell.
unfoldable pub words_at : List ℕ → ℕ → List ℕ
words_at flat k = line_words (drop (k * line_bytes) flat)

-- The words of n rows from row i on.
unfoldable pub words_from : List ℕ → (i n : ℕ) → List (List ℕ)
words_from flat i zero = []
words_from flat i (suc n) = words_at flat i ∷ words_from flat (suc i) n

-- ---- The struct

abbrev pub item_in : Which → List ℕ → RowItem
item_in names r = Name (lid_in r)
item_in modules r = Symbol (symbol_in r)

abbrev pub candidate_in : List ℕ → Span
candidate_in r = record { start = candidate_start r; len = candidate_len r }

abbrev pub row_in : Which → List ℕ → Row
row_in w r = record {
  matched = matched_word r;
  item = item_in w r;
  candidate = candidate_in r;
  annotation = record { start = annotation_start r; len = annotation_len r };
}

-- The item that a reader of its table sees; none where it is of the other table.
abbrev pub item_seen : (w : Which) → List ℕ → RowItem → Option (Item w)
item_seen names txt (Name n) = some n
item_seen names txt (Symbol s) = none
item_seen modules txt (Name n) = none
item_seen modules txt (Symbol s) = some (symbol_of txt s)

-- The texts of a mod symbol lie in a text of so many bytes.
abbrev pub SymbolInside : ℕ → ModSymbol → Type 0
SymbolInside size (Module name path loaded) = (name.start + name.len ≤ size) × (path.start + path.len ≤ size)
SymbolInside size (Namespace name loaded) = name.start + name.len ≤ size

-- So do those of an item: a name has none.
abbrev pub ItemInside : ℕ → RowItem → Type 0
ItemInside size (Name n) = Unit {0}
ItemInside size (Symbol s) = SymbolInside size s

-- ---- What a reader sees

-- The candidate that twelve words say.
abbrev pub candidate_seen : List ℕ → List ℕ → Str
candidate_seen out r = span out (candidate_start r) (candidate_len r)

-- The line that twelve words say, with the texts of its spans.
unfoldable pub line_seen : (w : Which) (txt out : List ℕ) → List ℕ → Line (Item w)
line_seen w txt out r = record {
  match_length = signed_word (matched_word r);
  item_of = item_of w txt r;
  candidate = candidate_seen out r;
  annotation = span out (annotation_start r) (annotation_len r);
}

-- The first n lines of the lent output.
unfoldable pub lines_seen : (w : Which) (txt flat out : List ℕ) → ℕ → List (Line (Item w))
lines_seen w txt flat out n = map (line_seen w txt out) (words_from flat 0 n)

-- The texts of a row lie in the output text.
pub record TextsIn (out : List ℕ) (r : Row) : Type 0 where
  pub candidate : r.candidate.start + r.candidate.len ≤ length out
  pub annotation : r.annotation.start + r.annotation.len ≤ length out
