-- What bytes spell, by example.
use Prim.Native.Nat.{◌+◌, ◌*◌}
use mathlib.Core.Path.{◌≡◌, refl}
use mathlib.Core.List.{[], ◌∷◌}
use Rattle.memory_bytes.specs.Bytes.{word_at, words_at}

two_words : words_at (7 ∷ 0 ∷ 0 ∷ 0 ∷ 1 ∷ 2 ∷ 3 ∷ 4 ∷ []) 2 ≡ (7 ∷ (1 + 256 * (2 + 256 * (3 + 256 * 4))) ∷ [])
unfolding words_at word_at
two_words = refl
