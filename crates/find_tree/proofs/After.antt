-- What is left of a list after a key.
use Prim.Native.Nat.{ℕ}
use mathlib.Core.Path.{◌≡◌, sym, ◌∙◌, subst}
use mathlib.Core.Bool.{true}
use mathlib.Core.List.{List, [], ◌∷◌, nil≢cons}
use Rattle.source.specs.Text.{Str}
use Rattle.source.specs.Rules.{◌<ˢ◌}
use Rattle.source.specs.Shared.{Allˡ}
use Rattle.source.proofs.Order.{<ˢ_trans}
use Rattle.source.proofs.Lookup.{Allˡ-map, Above, Increasing}
use Rattle.find_tree.specs.Links.{keep, past, after}
use Rattle.find_tree.proofs.Keep.{by_test, keep_all, all_keep}
use Rattle.find_tree.proofs.Past.{past_low, past_after, past_true, past_self}

module _ (key : ℕ → Str) where
  after_all : (k : Str) (xs : List ℕ) → Above key k xs → after key k xs ≡ xs
  after_all k xs a = keep_all key (past true k) xs (Allˡ-map {P = λ y. k <ˢ key y} {Q = λ y. past true k (key y) ≡ true} xs (λ y. past_after true k (key y)) a)

  pub all_after : (P : ℕ → Type 0) (k : Str) (xs : List ℕ) → Allˡ P xs → Allˡ P (after key k xs)
  all_after P k xs a = all_keep key P (past true k) xs (Allˡ-map {P = P} {Q = λ y. past true k (key y) ≡ true → P y} xs (λ y h _. h) a)

  -- After the key of the first element of an ascending list: the rest.
  pub after_first : (x : ℕ) (xs : List ℕ) → Increasing key (x ∷ xs) → after key (key x) (x ∷ xs) ≡ xs
  unfolding keep
  after_first x xs i = rw (past_self (key x)) (after_all (key x) xs i.0)

  -- What is left after a key is nothing, or an element and what is left after its key.
  pub after_next : (k : Str) (xs : List ℕ) → Increasing key xs → (x : ℕ) (tl : List ℕ) → after key k xs ≡ x ∷ tl
      → tl ≡ after key (key x) xs
  unfolding keep
  after_next k [] i x tl e = absurd (nil≢cons e)
  after_next k (y ∷ xs) i x tl e =
      by_test (past true k (key y))
      (λ z.
      let f : y ∷ after key k xs ≡ x ∷ tl = rw z at e in
      let g : y ≡ x = cc in
      let h : after key k xs ≡ tl = cc in
      sym h ∙ after_all k xs (Allˡ-map {P = λ u. key y <ˢ key u} {Q = λ u. k <ˢ key u} xs (λ u. <ˢ_trans k (key y) (key u) (past_true k (key y) z)) i.0)
      ∙ subst (λ u. xs ≡ after key (key u) (y ∷ xs)) g (sym (after_first y xs i)))
      (λ z.
      let f : after key k xs ≡ x ∷ tl = rw z at e in
      let h : key y <ˢ key x = (subst (λ (m : List ℕ). Allˡ (λ u. key y <ˢ key u) m) f (all_after (λ u. key y <ˢ key u) k xs i.0)).0 in
      after_next k xs i.1 x tl f ∙ rw (past_low true (key x) (key y) h))
