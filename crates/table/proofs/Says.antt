-- What the answer of the soundness test decides.
use mathlib.Core.Path.{◌≡◌, refl}
use mathlib.Core.Bool.{Bool, true, false}
use Rattle.memory.specs.Sound.{Says}

-- Two answers to one question are the same.
pub says_same : (P : Type 0) (b r : Bool) → Says b P → Says r P → b ≡ r
says_same P true true h i = refl
says_same P true false h i = absurd (i h)
says_same P false true h i = absurd (h i)
says_same P false false h i = refl
