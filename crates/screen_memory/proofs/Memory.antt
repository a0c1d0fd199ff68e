-- The state put word by word, and the lent words in memory of one's own.
use Prim.Native.Nat.{ℕ, ◌*◌, ◌/◌, ◌≤◌, min}
use mathlib.Core.Path.{◌≡◌, sym, ◌∙◌}
use mathlib.Core.List.{List}
use native.Mathlib.Omega.{arith}
use lib.ListN.{length, take, length-take}
use Rattle.source.specs.Calls.{whole_records}
use Rattle.memory_bytes.specs.Bytes.{Put}
use Rattle.screen_memory.specs.Memory.{state_bytes, record_bytes, records_lent_most, header_in, Spells, words_lent, words_in, Loaded}
use Rattle.memory_bytes.proofs.Bytes.{word_before, words_length}

-- A header put word by word.
pub header_put : {st st₁ st₂ st₃ st₄ : List ℕ} {a b c d : ℕ} → length st ≡ state_bytes → Put 0 a st st₁
    → Put 1 b st₁ st₂
    → Put 2 c st₂ st₃ → Put 3 d st₃ st₄
    → Spells st₄ (record { names = a; modules = b; records = c; text = d })
unfolding header_in
header_put h p q r t = record {
  size = t.rest.size ∙ r.rest.size ∙ q.rest.size ∙ p.rest.size ∙ h;
  header = λ i. record {
    names = (word_before t.rest 0 (omega arith) ∙ word_before r.rest 0 (omega arith) ∙ word_before q.rest 0 (omega arith) ∙ p.word) i;
    modules = (word_before t.rest 1 (omega arith) ∙ word_before r.rest 1 (omega arith) ∙ q.word) i;
    records = (word_before t.rest 2 (omega arith) ∙ r.word) i;
    text = t.word i;
  };
}

pub words_in_length : (bs : List ℕ) → length (words_in bs) ≡ words_lent (length bs)
unfolding words_in
words_in_length bs = words_length bs _

-- The words lent are among the bytes.
pub words_in_fit : (bs : List ℕ) → length (words_in bs) * 4 ≤ length bs
unfolding words_lent
words_in_fit bs = omega (arith, words_in_length bs)

-- The records lent: whole ones of 48 bytes, up to 1,024.
pub records_lent : (bs : List ℕ)
    → whole_records (length (words_in bs)) ≡ min (length bs / record_bytes) records_lent_most
unfolding words_lent whole_records
records_lent bs = omega (arith, words_in_length bs)

module _ {bs ws : List ℕ} {n : ℕ} (l : Loaded bs ws n) where
  loaded_length : length (take n ws) ≡ n
  loaded_length = rw (l.words, words_in_length bs) (sym l.count)

  pub loaded_fits : n ≤ length ws
  loaded_fits = omega (arith, loaded_length, length-take n ws)

  pub loaded_count : n ≡ length (take n ws)
  loaded_count = sym loaded_length
