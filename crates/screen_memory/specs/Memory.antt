-- The memory that lent bytes stand for.
use Rattle.std.specs.Prelude.{ℕ, ◌*◌, ◌/◌, min, ◌≡◌, List, length, take}
use Rattle.source.specs.Limits.{record_words}
use Rattle.memory_table.specs.declared.Header.{Header}
use Rattle.memory_bytes.specs.Bytes.{word_at, words_at, Stored}

-- Bytes of a word, of a state, and of a record.
abbrev pub word_bytes : ℕ
word_bytes = 4

abbrev pub state_bytes : ℕ
state_bytes = 16

abbrev pub record_bytes : ℕ
record_bytes = 48

-- Records past these count as not lent, and their words.
abbrev pub records_lent_most : ℕ
records_lent_most = 1024

abbrev pub words_lent_most : ℕ
words_lent_most = 12288

-- The state: names root, modules root, records used, text used.
unfoldable pub header_in : List ℕ → Header
header_in st = record { names = word_at st 0; modules = word_at st 1; records = word_at st 2; text = word_at st 3 }

-- A state that spells h.
pub record Spells (st : List ℕ) (h : Header) : Type 0 where
  pub size : length st ≡ state_bytes
  pub header : header_in st ≡ h

-- Words lent: whole ones, up to those.
unfoldable pub words_lent : ℕ → ℕ
words_lent size = min (size / word_bytes) words_lent_most

-- The words lent.
unfoldable pub words_in : List ℕ → List ℕ
words_in bs = words_at bs (words_lent (length bs))

-- The words lent have been laid in ws, and r is their number.
pub record Loaded (bs ws : List ℕ) (r : ℕ) : Type 0 where
  pub count : r ≡ words_lent (length bs)
  pub words : take r ws ≡ words_in bs

-- The words of the records past those used, up to those that h says, have become those of ws, no other byte has changed, and the state spells h.
pub record Saved (ws : List ℕ) (used : ℕ) (h : Header) (bs bs' st' : List ℕ) : Type 0 where
  pub stored : Stored ws (used * record_words) (h.records * record_words) bs bs'
  pub spelt : Spells st' h
