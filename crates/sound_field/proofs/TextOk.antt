-- Spans of the lent text.
use Prim.Native.Nat.{ℕ, ◌+◌, ◌-◌, ◌≤◌}
use mathlib.Core.Path.{◌≡◌, sym}
use mathlib.Core.Bool.{Bool, true, false}
use mathlib.Core.List.{List}
use native.Mathlib.Omega.{arith}
use lib.ListN.{length, take, drop}
use Rattle.source.specs.Rules.{all, Fits}
use Rattle.memory.specs.Layout.{span}
use Rattle.memory.specs.Sound.{Says, TextOk}
use Rattle.memory.proofs.Pasted.{part_span, span_length}

pub says_text : (p : ℕ → Bool) (low high : ℕ) (b : Bool) (txt : List ℕ) (used start n : ℕ) → used ≤ length txt
    → start + n ≤ used → low ≤ n → n ≤ high
    → b ≡ all p (take (start + n - start) (drop start txt)) → Says b (TextOk (Fits p low high) txt used start n)
says_text p low high true txt used start n u i lo hi e =
    let l : length (span txt start n) ≡ n = span_length txt start n (omega arith) in
    record {
      inside = i;
      keeps = record { bytes = rw (← part_span txt start n) (sym e); long = omega arith; short = omega arith };
    }
says_text p low high false txt used start n u i lo hi e = λ o. let z : ◌≡◌ {A = ℕ} 0 1 = cc (part_span txt start n, o.keeps.bytes) in omega arith

-- A text that is in the used part is as long as it says.
pub text_long : {p : ℕ → Bool} {low high : ℕ} {txt : List ℕ} {used start n : ℕ} → used ≤ length txt
    → TextOk (Fits p low high) txt used start n → (low ≤ n) × (n ≤ high)
text_long {txt = txt} {start = start} {n = n} u o =
    let l : length (span txt start n) ≡ n = span_length txt start n (omega (arith, o.inside)) in
    (omega (arith, o.keeps.long), omega (arith, o.keeps.short))
