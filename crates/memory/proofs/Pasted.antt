-- Parts of a list: where a beginning stays, the parts inside it stay; a part put into a list.
use Prim.Native.Nat.{ℕ, zero, suc, ◌+◌, ◌-◌, ◌≤◌, ◌<◌}
use mathlib.Core.Path.{◌≡◌, refl, sym, ap, ◌∙◌}
use mathlib.Core.List.{List, [], ◌∷◌, append_assoc}
use native.Mathlib.Omega.{arith}
use native.Mathlib.Numerals.{add-one}
use native.Mathlib.Nat.{zero-add, suc-add}
use lib.ListN.{length, get_or, set, take, drop, length-set, length-drop}
use lib.Seq.{take-take, take-nil, drop-nil, take_at, drop_at, length-take-le, paste, paste-zero, paste-suc}
use Rattle.memory.specs.Layout.{span}

cut : (n start : ℕ) (t : List ℕ) → take n (drop start t) ≡ drop start (take (start + n) t)
cut n zero t = ap (λ (k : ℕ). take k t) (sym (zero-add n))
cut n (suc start) [] = take-nil n ∙ sym (ap (drop (suc start)) (take-nil (suc start + n)) ∙ drop-nil (suc start))
cut n (suc start) (x ∷ t) = cut n start t ∙ ap (λ (k : ℕ). drop (suc start) (take k (x ∷ t))) (sym (suc-add start n))

pub part_stays : (m : ℕ) (t t' : List ℕ) → take m t' ≡ take m t → (n start : ℕ) → start + n ≤ m
    → take n (drop start t') ≡ take n (drop start t)
part_stays m t t' e n start h =
    cut n start t' ∙ ap (drop start) (sym (take-take (start + n) m t' h) ∙ ap (take (start + n)) e ∙ take-take (start + n) m t h) ∙ sym (cut n start t)

-- What `&txt[start..s + n]` holds, and its length.
pub part_span : (txt : List ℕ) (start n : ℕ) → take (start + n - start) (drop start txt) ≡ span txt start n
unfolding span
part_span txt start n = let e : start + n - start ≡ n = omega arith in rw e refl

pub span_length : (txt : List ℕ) (start n : ℕ) → start + n ≤ length txt → length (span txt start n) ≡ n
unfolding span
span_length txt start n h = length-take-le n (drop start txt) (rw length-drop (omega arith))

-- The first n elements of s put into d from at on.
module _ (d : List ℕ) (at : ℕ) (s : List ℕ) (n : ℕ) (room : at + n ≤ length d) (enough : n ≤ length s) where
  pub paste_front : take at (paste d at s n) ≡ take at d
  paste_front = rw append_assoc (take_at (take at d) _ at (length-take-le at d (omega arith)))

  pub paste_part : take n (drop at (paste d at s n)) ≡ take n s
  paste_part =
      rw (append_assoc, drop_at (take at d) _ at (length-take-le at d (omega arith)))
      (take_at (take n s) _ n (length-take-le n s enough))

-- A loop that puts them there has put the first i.
pub record Pasting (d s e : List ℕ) (at i n : ℕ) : Type 0 where
  pub below : i ≤ n
  pub says : e ≡ paste d at s i
  pub size : length e ≡ length d

pub pasting_none : (d s : List ℕ) (at n : ℕ) → Pasting d s d at 0 n
pasting_none d s at n = record { below = omega arith; says = paste-zero d at s; size = refl }

pub pasting_more : {d s e : List ℕ} {at i n : ℕ} → n ≤ length s → at + n ≤ length d → i < n → Pasting d s e at i n
    → Pasting d s (set e (at + i) (get_or s i 0)) at (i + 1) n
pasting_more {d} {s} {e} {at} {i} m room h g = record {
  below = omega arith;
  says = rw (add-one, g.says) (paste-suc d at s i 0 (omega arith) (omega arith));
  size = length-set e (at + i) (get_or s i 0) ∙ g.size;
}

pub pasting_done : {d s e : List ℕ} {at i n : ℕ} → Pasting d s e at i n → n ≤ i → e ≡ paste d at s n
pasting_done {i = i} {n = n} g h = let q : i ≡ n = omega arith in rw q at g.says
