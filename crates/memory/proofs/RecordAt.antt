-- The twelve words of a record, read one by one.
use Prim.Native.Nat.{ℕ, ◌+◌, ◌-◌, ◌*◌, ◌≤◌, ◌<◌}
use mathlib.Core.Path.{◌≡◌, sym, ◌∙◌}
use mathlib.Core.List.{List}
use native.Mathlib.Omega.{arith}
use native.Mathlib.Numerals.{add-one}
use lib.ListN.{length, get_or, set, take, drop, length-set, length-drop}
use lib.Seq.{get_or-take, get_or-drop, take_all, take-suc, take-suc-set, length-take-le}
use Rattle.memory.specs.Layout.{record_at, word}

pub word_at : (ws : List ℕ) (l k : ℕ) → k < 12 → get_or ws ((l - 1) * 12 + k) 0 ≡ word (record_at ws l) k
unfolding record_at
word_at ws l k h = sym (get_or-take 12 (drop ((l - 1) * 12) ws) k 0 h ∙ get_or-drop ((l - 1) * 12) ws k 0)

pub record_length : (ws : List ℕ) (l : ℕ) → 0 < l → l * 12 ≤ length ws → length (record_at ws l) ≡ 12
unfolding record_at
record_length ws l p h = length-take-le 12 (drop ((l - 1) * 12) ws) (rw length-drop (omega arith))

-- The first i words of r stand in row.
pub record Copied (r row : List ℕ) (i : ℕ) : Type 0 where
  pub below : i ≤ 12
  pub size : length row ≡ 12
  pub same : take i row ≡ take i r

pub copied_more : {r row : List ℕ} {i x : ℕ} → length r ≡ 12 → i < 12 → x ≡ word r i → Copied r row i
    → Copied r (set row i x) (i + 1)
copied_more {r} {row} {i} {x} n h e g = record {
  below = omega arith;
  size = length-set row i x ∙ g.size;
  same = rw add-one (take-suc-set row i x (omega (arith, g.size)) ∙ rw (g.same, e) (sym (take-suc r i 0 (omega arith))));
}

pub copied_all : {r row : List ℕ} {i : ℕ} → length r ≡ 12 → Copied r row i → 12 ≤ i → row ≡ r
copied_all {r} {row} {i} n g h = sym (take_all i row (omega (arith, g.size))) ∙ g.same ∙ take_all i r (omega arith)
