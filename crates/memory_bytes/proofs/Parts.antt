-- Words of bytes that go on, and of bytes where words were stored.
use Prim.Native.Nat.{ℕ, zero, suc, ◌+◌, ◌*◌, ◌≤◌, ◌<◌}
use mathlib.Core.Path.{◌≡◌, refl, sym, ap₂, ◌∙◌}
use mathlib.Core.List.{List, [], ◌∷◌, ◌++◌}
use native.Mathlib.Omega.{arith}
use lib.ListN.{length, get_or-append}
use lib.Seq.{ext_get_or}
use Rattle.memory_bytes.specs.Bytes.{word_at, words_at, Stored}
use Rattle.memory_bytes.proofs.Bytes.{words_length, words_getD}

module _ (s t : List ℕ) where
  word_front : (k : ℕ) → k * 4 + 4 ≤ length s → word_at (s ++ t) k ≡ word_at s k
  unfolding word_at
  word_front k h =
      omega (
        arith,
        get_or-append s t 0 (k * 4) (omega arith),
        get_or-append s t 0 (k * 4 + 1) (omega arith),
        get_or-append s t 0 (k * 4 + 2) (omega arith),
        get_or-append s t 0 (k * 4 + 3) (omega arith),
      )

  -- The words of the bytes in front.
  pub words_front : (n : ℕ) → n * 4 ≤ length s → words_at (s ++ t) n ≡ words_at s n
  unfolding words_at
  words_front zero h = refl
  words_front (suc n) h = ap₂ (λ (xs : List ℕ) (w : ℕ). xs ++ (w ∷ [])) (words_front n (omega arith)) (word_front n (omega arith))

-- All the words that were stored from the start on.
pub words_stored : {ws bs bs' : List ℕ} {n : ℕ} → length ws ≡ n → Stored ws 0 n bs bs' → words_at bs' n ≡ ws
words_stored {ws} {bs} {bs'} {n} e s =
    ext_get_or 0 (words_at bs' n) ws (words_length bs' n ∙ sym e)
    (λ k h. let g : k < n = omega (arith, words_length bs' n) in words_getD bs' n k g ∙ s.words k (omega arith) g)
