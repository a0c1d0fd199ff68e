-- Elements by their key: a property of all, the first with a key, ascending and descending lists.
use Prim.Native.Nat.{ℕ, ◌+◌, Ordering}
use mathlib.Core.Path.{◌≡◌, refl, sym, ap, ap₂, ◌∙◌}
use mathlib.Core.Logic.{◌⊎◌, inl, inr}
use mathlib.Core.Bool.{true, false, cond}
use mathlib.Core.List.{List, [], ◌∷◌, map, reverse_aux}
use mathlib.Core.Option
use mathlib.Core.Option.{Option, none, some, none-ne-some, some-injective}
use native.Mathlib.Omega.{arith}
use lib.Dec.{compare_is_eq}
use Rattle.source.specs.Text.{Str, string_compare}
use Rattle.source.specs.Rules.{◌<ˢ◌}
use Rattle.source.proofs.Order.{View, compare_strings, <ˢ_irrefl, <ˢ_trans}
use Rattle.source.specs.Tries.{or_else}
use Rattle.source.specs.Shared.{same, Allˡ, sumˡ}

-- ---- equal strings, as a test
unfoldable pub Same : Str → Str → Type 0
Same s t = ((same s t ≡ true) × (s ≡ t)) ⊎ ((same s t ≡ false) × ((s <ˢ t) ⊎ (t <ˢ s)))

pub same_view : (s t : Str) → Same s t
unfolding Same
same_view s t = go (string_compare s t) refl (compare_strings s t)
  where
    go : (o : Ordering) → string_compare s t ≡ o → View s t o → Same s t
    go Ordering.lt e v = inr (ap compare_is_eq e, inl v)
    go Ordering.eq e v = inl (ap compare_is_eq e, v)
    go Ordering.gt e v = inr (ap compare_is_eq e, inr v)

pub same_self : (s : Str) → same s s ≡ true
unfolding Same
same_self s = go (same_view s s)
  where
    go : Same s s → same s s ≡ true
    go (inl h) = h.0
    go (inr (e, inl h)) = absurd (<ˢ_irrefl s h)
    go (inr (e, inr h)) = absurd (<ˢ_irrefl s h)

pub same_ne : (s t : Str) → (s ≡ t → ⊥) → same s t ≡ false
unfolding Same
same_ne s t n = go (same_view s t)
  where
    go : Same s t → same s t ≡ false
    go (inl h) = absurd (n h.1)
    go (inr h) = h.0

pub Allˡ-map : {A : Type 0} {P Q : A → Type 0} → (xs : List A) → ((a : A) → P a → Q a) → Allˡ P xs → Allˡ Q xs
Allˡ-map [] f p = tt
Allˡ-map (x ∷ xs) f p = (f x p.0, Allˡ-map xs f p.1)

pub Allˡ-zip : {A : Type 0} {P Q R : A → Type 0} (xs : List A) → ((a : A) → P a → Q a → R a) → Allˡ P xs → Allˡ Q xs
    → Allˡ R xs
Allˡ-zip [] f p q = tt
Allˡ-zip (a ∷ xs) f p q = (f a p.0 q.0, Allˡ-zip xs f p.1 q.1)

pub Allˡ-reverse : {A : Type 0} (P : A → Type 0) (xs acc : List A) → Allˡ P xs → Allˡ P acc
    → Allˡ P (reverse_aux xs acc)
Allˡ-reverse P [] acc a b = b
Allˡ-reverse P (x ∷ xs) acc a b = Allˡ-reverse P xs (x ∷ acc) a.1 (a.0, b)

pub sumˡ_reverse : {A : Type 0} (f : A → ℕ) (xs acc : List A) → sumˡ f (reverse_aux xs acc) ≡ sumˡ f xs + sumˡ f acc
sumˡ_reverse f [] acc = omega arith
sumˡ_reverse f (x ∷ xs) acc = omega (arith, sumˡ_reverse f xs (x ∷ acc))

pub or_else_none : {A : Type 0} (o : Option A) → or_else o none ≡ o
unfolding or_else
or_else_none none = refl
or_else_none (some a) = refl

pub lt_ne : (s t : Str) → s <ˢ t → s ≡ t → ⊥
lt_ne s t h e = <ˢ_irrefl t (rw e at h)

module _ {A : Type 0} (key : A → Str) where
  -- the first element with that key
  unfoldable pub lookup : Str → List A → Option A
  lookup k [] = none
  lookup k (x ∷ l) = cond (same k (key x)) (some x) (lookup k l)

  -- in the first list that has one
  unfoldable pub first_lookup : Str → List (List A) → Option A
  first_lookup k [] = none
  first_lookup k (l ∷ ls) = or_else (lookup k l) (first_lookup k ls)

  abbrev pub Above : Str → List A → Type 0
  Above k xs = Allˡ (λ y. k <ˢ key y) xs

  abbrev pub Below : Str → List A → Type 0
  Below k xs = Allˡ (λ y. key y <ˢ k) xs

  abbrev pub Increasing : List A → Type 0
  Increasing [] = Unit {0}
  Increasing (x ∷ l) = Above (key x) l × Increasing l

  abbrev pub Decreasing : List A → Type 0
  Decreasing [] = Unit {0}
  Decreasing (x ∷ l) = Below (key x) l × Decreasing l

  pub lookup_hit : (x : A) (xs : List A) → lookup (key x) (x ∷ xs) ≡ some x
  unfolding lookup
  lookup_hit x xs = rw same_self

  pub lookup_miss : (k : Str) (x : A) (xs : List A) → (k ≡ key x → ⊥) → lookup k (x ∷ xs) ≡ lookup k xs
  unfolding lookup
  lookup_miss k x xs n = rw (same_ne k (key x) n)

  pub lookup_above : (k : Str) (xs : List A) → Above k xs → lookup k xs ≡ none
  unfolding lookup
  lookup_above k [] p = refl
  lookup_above k (x ∷ xs) p = lookup_miss k x xs (lt_ne k (key x) p.0) ∙ lookup_above k xs p.1

  pub lookup_below : (k : Str) (xs : List A) → Below k xs → lookup k xs ≡ none
  unfolding lookup
  lookup_below k [] p = refl
  lookup_below k (x ∷ xs) p = lookup_miss k x xs (λ e. lt_ne (key x) k p.0 (sym e)) ∙ lookup_below k xs p.1

  -- Two descending lists that give the same at each key have the same elements, as far as what is read of them tells.
  pub decreasing_unique : {B : Type 0} (g : A → B) (xs m : List A) → Decreasing xs → Decreasing m
      → ((k : Str) → Option.map g (lookup k xs) ≡ Option.map g (lookup k m)) → map g xs ≡ map g m
  unfolding lookup Same
  decreasing_unique g [] [] a b h = refl
  decreasing_unique g [] (y ∷ m) a b h = absurd (none-ne-some (g y) (h (key y) ∙ ap (Option.map g) (lookup_hit y m)))
  decreasing_unique g (x ∷ xs) [] a b h = absurd (none-ne-some (g x) (sym (h (key x)) ∙ ap (Option.map g) (lookup_hit x xs)))
  decreasing_unique g (x ∷ xs) (y ∷ m) a b h = go (same_view (key x) (key y)) (decreasing_unique g xs m a.1 b.1)
    where
      -- The greater head is missing in the other list.
      missing : (z : A) (xs m : List A) (k : Str) → Below k xs → k <ˢ key z → (w : A) → key w ≡ k
          → Option.map g (lookup (key z) (z ∷ m)) ≡ Option.map g (lookup (key z) (w ∷ xs)) → ⊥
      missing z xs m k d o w e i =
          none-ne-some (g z)
          (sym (ap (Option.map g) (lookup_miss (key z) w xs (λ f. lt_ne k (key z) o (sym e ∙ sym f))
          ∙ lookup_below (key z) xs (Allˡ-map xs (λ y j. <ˢ_trans (key y) k (key z) j o) d)))
          ∙ sym i ∙ ap (Option.map g) (lookup_hit z m))

      go : Same (key x) (key y) → (((k : Str) → Option.map g (lookup k xs) ≡ Option.map g (lookup k m))
          → map g xs ≡ map g m) → map g (x ∷ xs) ≡ map g (y ∷ m)
      go (inr (_, inl o)) ih = absurd (missing y xs m (key x) a.0 o x refl (sym (h (key y))))
      go (inr (_, inr o)) ih = absurd (missing x m xs (key y) b.0 o y refl (h (key x)))
      go (inl (_, e)) ih = ap₂ ◌∷◌ head (ih tails)
        where
          head : g x ≡ g y
          head = some-injective (g x) (g y)
              (sym (ap (Option.map g) (lookup_hit x xs)) ∙ h (key x) ∙ ap (Option.map g) (ap (λ k. lookup k (y ∷ m)) e ∙ lookup_hit y m))

          tails : (k : Str) → Option.map g (lookup k xs) ≡ Option.map g (lookup k m)
          tails k = at (same_view k (key x))
            where
              at : Same k (key x) → Option.map g (lookup k xs) ≡ Option.map g (lookup k m)
              at (inl (_, f)) = ap (Option.map g)
                  (ap (λ k. lookup k xs) f ∙ lookup_below (key x) xs a.0 ∙ sym (ap (λ k. lookup k m) (f ∙ e) ∙ lookup_below (key y) m b.0))
              at (inr (_, o)) = other k (apart o)
                where
                  apart : (k <ˢ key x) ⊎ (key x <ˢ k) → k ≡ key x → ⊥
                  apart (inl o) f = lt_ne k (key x) o f
                  apart (inr o) f = lt_ne (key x) k o (sym f)

                  other : (k : Str) → (k ≡ key x → ⊥) → Option.map g (lookup k xs) ≡ Option.map g (lookup k m)
                  other k n = sym (ap (Option.map g) (lookup_miss k x xs n)) ∙ h k ∙ ap (Option.map g) (lookup_miss k y m (λ f. n (f ∙ sym e)))
