-- Words spelled by bytes: four bytes to a word, lowest first.
use Rattle.std.specs.Prelude.{ℕ, zero, suc, ◌+◌, ◌*◌, ◌≤◌, ◌<◌, ◌≡◌, List, [], ◌∷◌, ◌++◌, get_or}
use Rattle.source.specs.Lent.{Outside}

-- Word k: the bytes from k * 4 on.
unfoldable pub word_at : List ℕ → ℕ → ℕ
word_at bs k =
    get_or bs (k * 4) 0 + 256 * get_or bs (k * 4 + 1) 0 + 65536 * get_or bs (k * 4 + 2) 0 + 16777216
    * get_or bs (k * 4 + 3) 0

-- The first n words.
unfoldable pub words_at : List ℕ → ℕ → List ℕ
words_at bs zero = []
words_at bs (suc n) = words_at bs n ++ (word_at bs n ∷ [])

-- Word k has become w, and no other byte has changed.
pub record Put (k w : ℕ) (bs bs' : List ℕ) : Type 0 where
  pub word : word_at bs' k ≡ w
  pub rest : Outside (k * 4) (k * 4 + 4) bs bs'

-- The words from a place up to another have become those of ws, and no other byte has changed.
pub record Stored (ws : List ℕ) (from to : ℕ) (bs bs' : List ℕ) : Type 0 where
  pub words : (k : ℕ) → from ≤ k → k < to → word_at bs' k ≡ get_or ws k 0
  pub rest : Outside (from * 4) (to * 4) bs bs'
