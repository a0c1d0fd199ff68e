-- Memory that grew: the used part stays, and a record or a text is put after it.
use Rattle.std.specs.Prelude.{ℕ, ◌*◌, ◌≡◌, List, length, take}
use Rattle.std.proofs.Math.Seq.{paste}
use Rattle.source.specs.Limits.{record_words}

-- The first n records are as they were, and as many words are lent.
pub record Stays (n : ℕ) (ws ws' : List ℕ) : Type 0 where
  pub same : take (n * record_words) ws' ≡ take (n * record_words) ws
  pub size : length ws' ≡ length ws

-- The first used bytes are as they were, and as many are lent.
pub record Keeps (used : ℕ) (txt txt' : List ℕ) : Type 0 where
  pub same : take used txt' ≡ take used txt
  pub size : length txt' ≡ length txt

-- The words with the twelve words of r as record number n.
unfoldable pub put : List ℕ → ℕ → List ℕ → List ℕ
put ws n r = paste ws (n * record_words) r record_words

-- The text with the bytes of s from used on.
unfoldable pub put_text : List ℕ → ℕ → List ℕ → List ℕ
put_text txt used s = paste txt used s (length s)
