-- Laws of the words and the struct of a row.
use Prim.Native.Nat.{ℕ, suc, ◌+◌, ◌-◌, ◌*◌, ◌<◌}
use native.Mathlib.Omega.{arith}
use mathlib.Core.Path.{◌≡◌, refl, sym, ap, ◌∙◌}
use mathlib.Core.Bool.{Bool, true, false}
use mathlib.Core.List.{List, ◌∷◌}
use mathlib.Core.Option.{some}
use lib.Dec.{eqb}
use lib.ListN.{length, get_or, take, drop, length-drop}
use lib.Seq.{take_all, get_or-drop}
use Rattle.memory.specs.Layout.{word, Which, names, modules, record_at, item_of, pick, symbol_word}
use Rattle.memory.specs.Read.{symbol_of}
use Rattle.memory.specs.declared.ModSymbol.{ModSymbol}
use Rattle.memory_bytes.specs.Bytes.{word_at}
use Rattle.memory_bytes.proofs.Bytes.{words_length, words_getD}
use Rattle.listing_output.specs.Output.{line_bytes, line_words}
use Rattle.listing_row.specs.Rows.{words_at, words_from, item_in, item_seen}

-- The words of the part from a row on.
pub part_words : (flat : List ℕ) (k : ℕ)
    → line_words (take (length flat - k * line_bytes) (drop (k * line_bytes) flat)) ≡ words_at flat k
unfolding words_at
part_words flat k = ap line_words (take_all (length flat - k * line_bytes) (drop (k * line_bytes) flat) (omega (arith, length-drop (k * line_bytes) flat)))

-- A word of row k, among all the words.
pub word_in_row : (flat : List ℕ) (k j : ℕ) → j < 12 → word_at flat (k * 12 + j) ≡ word (words_at flat k) j
unfolding words_at word_at
word_in_row flat k j h = sym (words_getD (drop (k * line_bytes) flat) 12 j h ∙ at)
  where
    byte : (x : ℕ) → get_or (drop (k * line_bytes) flat) (j * 4 + x) 0 ≡ get_or flat ((k * 12 + j) * 4 + x) 0
    byte x = let e : k * line_bytes + (j * 4 + x) ≡ (k * 12 + j) * 4 + x = omega arith in get_or-drop (k * line_bytes) flat (j * 4 + x) 0 ∙ rw e

    at : word_at (drop (k * line_bytes) flat) j ≡ word_at flat (k * 12 + j)
    at = let z : j * 4 + 0 ≡ j * 4 = omega arith in let y : (k * 12 + j) * 4 + 0 ≡ (k * 12 + j) * 4 = omega arith in
        omega (arith, rw (z, y) at (byte 0), byte 1, byte 2, byte 3)

-- The rows that are left from i on, the first of them.
pub rows_left : (flat : List ℕ) (i n : ℕ) → i < n
    → words_from flat i (n - i) ≡ words_at flat i ∷ words_from flat (i + 1) (n - (i + 1))
unfolding words_from
rows_left flat i n l =
    let p : n - i ≡ suc (n - (i + 1)) = omega arith in
    let q : suc i ≡ i + 1 = omega arith in
    rw (p, q) refl

-- Twelve words are a record.
pub one_record : (bs : List ℕ) → record_at (line_words bs) 1 ≡ line_words bs
unfolding record_at
one_record bs = take_all 12 (line_words bs) (omega (arith, words_length bs 12))

symbol_pick : (txt : List ℕ) (b : Bool) (x y : ModSymbol)
    → symbol_of txt (pick b x y) ≡ pick b (symbol_of txt x) (symbol_of txt y)
symbol_pick txt true x y = refl
symbol_pick txt false x y = refl

-- A reader sees the item that the words hold.
pub item_seen_is : (w : Which) (txt r : List ℕ) → item_seen w txt (item_in w r) ≡ some (item_of w txt r)
item_seen_is names txt r = refl
item_seen_is modules txt r = rw (symbol_pick txt (eqb (symbol_word r) 0))
