-- The elements of a list that a test keeps.
use Prim.Native.Nat.{ℕ}
use mathlib.Core.Path.{◌≡◌, refl, sym, ap, ◌∙◌, subst}
use mathlib.Core.Logic.{⊎_elim}
use mathlib.Core.Bool.{Bool, true, false, ◌&&◌, and-true, and-false, and_comm}
use mathlib.Core.List.Memᴰ
use mathlib.Core.List.{List, [], ◌∷◌, ◌++◌, map, Memᴰ}
use Rattle.source.specs.Text.{Str}
use Rattle.source.specs.Rules.{◌<ˢ◌}
use Rattle.source.specs.Shared.{Allˡ}
use Rattle.source.proofs.Lookup.{Allˡ-map, Increasing}
use Rattle.find_tree.specs.Links.{keep}

-- By cases on a test's answer.
pub by_test : {G : Type 0} (z : Bool) → (z ≡ true → G) → (z ≡ false → G) → G
by_test true f g = f refl
by_test false f g = g refl

pub allˡ_append : {A : Type 0} (P : A → Type 0) (xs m : List A) → Allˡ P xs → Allˡ P m → Allˡ P (xs ++ m)
allˡ_append P [] m a b = b
allˡ_append P (x ∷ xs) m a b = (a.0, allˡ_append P xs m a.1 b)

all_always : {A : Type 0} (P : A → Type 0) → ((x : A) → P x) → (xs : List A) → Allˡ P xs
all_always P f [] = tt
all_always P f (x ∷ xs) = (f x, all_always P f xs)

-- What holds of all holds of each.
pub allˡ_at : {A : Type 0} (P : A → Type 0) (xs : List A) → Allˡ P xs → (x : A) → Memᴰ x xs → P x
allˡ_at P [] a x m = absurd (Memᴰ.not-nil m)
allˡ_at P (y ∷ xs) a x m = ⊎_elim (λ e. subst P (sym e) a.0) (allˡ_at P xs a.1 x) (Memᴰ.cases_cons m)

-- Each is one of them.
pub all_among : {A : Type 0} (xs : List A) → Allˡ (λ x. Memᴰ x xs) xs
all_among [] = tt
all_among (x ∷ xs) = (Memᴰ.head refl, Allˡ-map xs (λ y m. Memᴰ.tail m) (all_among xs))

pub map-append : {A B : Type 0} (f : A → B) (xs m : List A) → map f (xs ++ m) ≡ map f xs ++ map f m
map-append f [] m = refl
map-append f (x ∷ xs) m = ap (◌∷◌ (f x)) (map-append f xs m)

module _ (key : ℕ → Str) where
  pub keep_append : (b : Str → Bool) (xs m : List ℕ) → keep key b (xs ++ m) ≡ keep key b xs ++ keep key b m
  unfolding keep
  keep_append b [] m = refl
  keep_append b (x ∷ xs) m = by_test (b (key x)) (λ e. rw (e, keep_append b xs m)) (λ e. rw (e, keep_append b xs m))

  pub keep_none : (b : Str → Bool) (xs : List ℕ) → Allˡ (λ y. b (key y) ≡ false) xs → keep key b xs ≡ []
  unfolding keep
  keep_none b [] a = refl
  keep_none b (x ∷ xs) a = rw a.0 (keep_none b xs a.1)

  pub keep_all : (b : Str → Bool) (xs : List ℕ) → Allˡ (λ y. b (key y) ≡ true) xs → keep key b xs ≡ xs
  unfolding keep
  keep_all b [] a = refl
  keep_all b (x ∷ xs) a = rw (a.0, keep_all b xs a.1)

  keep_ext : (b c : Str → Bool) → ((k : Str) → b k ≡ c k) → (xs : List ℕ) → keep key b xs ≡ keep key c xs
  unfolding keep
  keep_ext b c e [] = refl
  keep_ext b c e (x ∷ xs) = rw (e (key x), keep_ext b c e xs)

  keep_keep : (b c : Str → Bool) (xs : List ℕ) → keep key b (keep key c xs) ≡ keep key (λ k. b k && c k) xs
  unfolding keep
  keep_keep b c [] = refl
  keep_keep b c (x ∷ xs) =
      by_test (c (key x)) (λ e. rw (e, and-true (b (key x)), keep_keep b c xs)) (λ e. rw (e, and-false (b (key x))) (keep_keep b c xs))

  pub keep_swap : (b c : Str → Bool) (xs : List ℕ) → keep key b (keep key c xs) ≡ keep key c (keep key b xs)
  keep_swap b c xs = keep_keep b c xs ∙ keep_ext (λ k. b k && c k) (λ k. c k && b k) (λ k. and_comm (b k) (c k)) xs ∙ sym (keep_keep c b xs)

  -- What holds of the elements that pass the test holds of those that are kept.
  pub all_keep : (P : ℕ → Type 0) (b : Str → Bool) (xs : List ℕ) → Allˡ (λ y. b (key y) ≡ true → P y) xs
      → Allˡ P (keep key b xs)
  unfolding keep
  all_keep P b [] a = tt
  all_keep P b (x ∷ xs) a = by_test (b (key x)) (λ e. rw e (a.0 e, all_keep P b xs a.1)) (λ e. rw e (all_keep P b xs a.1))

  pub kept_pass : (b : Str → Bool) (xs : List ℕ) → Allˡ (λ y. b (key y) ≡ true) (keep key b xs)
  kept_pass b xs = all_keep (λ y. b (key y) ≡ true) b xs (all_always (λ y. b (key y) ≡ true → b (key y) ≡ true) (λ y e. e) xs)

  pub keep_increasing : (b : Str → Bool) (xs : List ℕ) → Increasing key xs → Increasing key (keep key b xs)
  unfolding keep
  keep_increasing b [] i = tt
  keep_increasing b (x ∷ xs) i =
      by_test (b (key x))
      (λ e. rw e (all_keep (λ y. key x <ˢ key y) b xs (Allˡ-map xs (λ y h _. h) i.0), keep_increasing b xs i.1))
      (λ e. rw e (keep_increasing b xs i.1))
