-- Small notions that the definitions share.
use Rattle.std.specs.Prelude.{ℕ, ◌+◌, Bool, List, [], ◌∷◌}
use Rattle.std.proofs.Math.Dec.{compare_is_eq}
use Rattle.source.specs.Text.{Str, string_compare}

-- Whether two texts are equal.
abbrev pub same : Str → Str → Bool
same s t = compare_is_eq (string_compare s t)

-- Every element of a list.
abbrev pub Allˡ : {A : Type 0} → (A → Type 0) → List A → Type 0
Allˡ P [] = Unit {0}
Allˡ P (x ∷ xs) = P x × Allˡ P xs

-- The sum over a list.
abbrev pub sumˡ : {A : Type 0} → (A → ℕ) → List A → ℕ
sumˡ f [] = 0
sumˡ f (a ∷ xs) = f a + sumˡ f xs
