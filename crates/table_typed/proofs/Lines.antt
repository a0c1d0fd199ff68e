-- Laws of `stored-lines`: lines that are stored one after another are the lines of the rows that the bytes hold.
use mathlib.Core.Path.{◌≡◌, refl, sym, ap, ap₂, ◌∙◌}
use Prim.Native.Nat.{ℕ, zero, suc, ◌+◌, ◌≤◌}
use mathlib.Core.List.{List, [], ◌∷◌, ◌++◌, map, append_assoc}
use native.Mathlib.Omega.{arith}
use lib.ListN.{length, drop, set, length-append, length-drop}
use lib.Seq.{take_at, drop_at, drop-drop, set_split}
use Rattle.listing_ask.specs.Ask.{asked}
use Rattle.listing_ask.specs.declared.Ask.{Ask}
use Rattle.listing_row.specs.Rows.{words_from, row_in}
use Rattle.table_typed.specs.Lines.{line_of_row, line_at, stored_lines}
use Rattle.table_typed.specs.declared.Line.{Line}

-- n values of f from i on.
from : (ℕ → Line) → ℕ → ℕ → List Line
from f i zero = []
from f i (suc n) = f i ∷ from f (suc i) n

from_last : (f : ℕ → Line) (i n : ℕ) → from f i (suc n) ≡ from f i n ++ (f (i + n) ∷ [])
unfolding from
from_last f i zero = let e : i ≡ i + 0 = omega arith in ap (λ j. f j ∷ []) e
from_last f i (suc n) = let e : suc i + n ≡ i + suc n = omega arith in ap (◌∷◌ (f i)) (from_last f (suc i) n ∙ ap (λ j. from f (suc i) n ++ (f j ∷ [])) e)

from_length : (f : ℕ → Line) (i n : ℕ) → length (from f i n) ≡ n
unfolding from
from_length f i zero = refl
from_length f i (suc n) = ap suc (from_length f (suc i) n)

-- One more.
stored_next : (f : ℕ → Line) (ls : List Line) (n : ℕ) → suc n ≤ length ls
    → set (from f 0 n ++ drop n ls) n (f n) ≡ from f 0 (suc n) ++ drop (suc n) ls
stored_next f ls n h =
    let z : 0 + n ≡ n = omega arith in
    let size : length (from f 0 n ++ drop n ls) ≡ length ls = length-append (from f 0 n) (drop n ls) ∙ omega (arith, from_length f 0 n, length-drop n ls) in
    let after : drop (suc n) (from f 0 n ++ drop n ls) ≡ drop (suc n) ls =
    (let e : n + 1 ≡ suc n = omega arith in
    ap (λ j. drop j (from f 0 n ++ drop n ls)) (sym e) ∙ sym (drop-drop 1 n (from f 0 n ++ drop n ls))
    ∙ ap (drop 1) (drop_at (from f 0 n) (drop n ls) n (from_length f 0 n))
    ∙ drop-drop 1 n ls ∙ ap (λ j. drop j ls) e) in
    set_split (from f 0 n ++ drop n ls) n (f n) (omega (arith, size))
    ∙ ap₂ (λ (a b : List Line). a ++ (f n ∷ b)) (take_at (from f 0 n) (drop n ls) n (from_length f 0 n)) after
    ∙ sym (ap (λ l. l ++ drop (suc n) ls) (from_last f 0 n ∙ ap (λ j. from f 0 n ++ (f j ∷ [])) z) ∙ append_assoc (from f 0 n) (f n ∷ []) (drop (suc n) ls))

-- Storing puts n values in the place of the first n lines.
stored_are : (f : ℕ → Line) (ls : List Line) (n : ℕ) → n ≤ length ls → stored_lines f ls n ≡ from f 0 n ++ drop n ls
unfolding from
stored_are f ls zero h = refl
stored_are f ls (suc n) h = ap (λ l. set l n (f n)) (stored_are f ls n (omega arith)) ∙ stored_next f ls n h

from_rows : (ask : Ask) (flat : List ℕ) (i n : ℕ)
    → from (line_at ask flat) i n ≡ map (λ r. line_of_row (row_in (asked ask) r)) (words_from flat i n)
unfolding from words_from line_at
from_rows ask flat i zero = refl
from_rows ask flat i (suc n) = ap (◌∷◌ (line_at ask flat i)) (from_rows ask flat (suc i) n)

-- The lines of the first rows of the bytes.
pub stored_rows : (ask : Ask) (flat : List ℕ) (n : ℕ) (ls : List Line) → n ≤ length ls
    → stored_lines (line_at ask flat) ls n
    ≡ map (λ r. line_of_row (row_in (asked ask) r)) (words_from flat 0 n) ++ drop n ls
stored_rows ask flat n ls h = stored_are (line_at ask flat) ls n h ∙ ap (λ l. l ++ drop n ls) (from_rows ask flat 0 n)
