-- How many words bytes lend, by example.
use mathlib.Core.Path.{◌≡◌, refl}
use Rattle.screen_memory.specs.Memory.{words_lent}

part_of_a_word : words_lent 95 ≡ 23
unfolding words_lent
part_of_a_word = refl

most_words : words_lent 65536 ≡ 12288
unfolding words_lent
most_words = refl
