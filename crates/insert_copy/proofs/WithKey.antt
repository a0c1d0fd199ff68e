-- A branch with another's key: its words.
use Prim.Native.Nat.{ℕ}
use mathlib.Core.Path.{◌≡◌, ◌∙◌}
use mathlib.Core.Bool.{false, ◌||◌, true≢false}
use mathlib.Core.List.{List}
use native.Mathlib.Omega.{arith}
use lib.Dec.{eqb}
use lib.ListN.{length, set, length-set}
use lib.Seq.{get_or-set_same, get_or-set_other}
use Rattle.memory.specs.Layout.{record_at, word, text_start, text_len}
use Rattle.insert_copy.specs.Copies.{with_key}

module _ (ws r : List ℕ) (x : ℕ) where
  pub keyed_length : length (with_key ws r x) ≡ length r
  unfolding with_key
  keyed_length = length-set (set r 1 (text_start (record_at ws x))) 2 _ ∙ length-set r 1 _

  -- The other words stay.
  pub keyed_word : (k : ℕ) → (eqb k 1 || eqb k 2) ≡ false → word (with_key ws r x) k ≡ word r k
  unfolding with_key
  keyed_word k h =
      get_or-set_other (set r 1 (text_start (record_at ws x))) 2 k _ 0 (λ e. true≢false (rw e at h))
      ∙ get_or-set_other r 1 k _ 0 (λ e. true≢false (rw e at h))

  module _ (twelve : length r ≡ 12) where
    pub keyed_start : text_start (with_key ws r x) ≡ text_start (record_at ws x)
    unfolding with_key
    keyed_start = get_or-set_other (set r 1 _) 2 1 _ 0 (λ e. omega arith) ∙ get_or-set_same r 1 _ 0 (omega arith)

    pub keyed_len : text_len (with_key ws r x) ≡ text_len (record_at ws x)
    unfolding with_key
    keyed_len = get_or-set_same (set r 1 (text_start (record_at ws x))) 2 _ 0 (omega (arith, length-set r 1 (text_start (record_at ws x))))
