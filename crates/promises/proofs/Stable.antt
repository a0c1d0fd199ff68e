-- What the lines of a name show, and what each line is, may be shown by contradiction: items are equal or not.
use Prim.Native.Nat.{ℕ}
use mathlib.Core.Path.{◌≡◌, refl, sym, ap, ap₂, ◌∙◌}
use mathlib.Core.Logic.{◌⊎◌, inl, inr}
use mathlib.Core.Bool.{Bool, true, false, true≢false}
use mathlib.Core.List.{List, [], ◌∷◌, nil≢cons, head-eq_of_cons-eq, tail-eq_of_cons-eq}
use native.Mathlib.Omega.{arith}
use borrow.Author.Tests.{eqb-true, eqb-false}
use lib.Dec.{eqb}
use Rattle.source.specs.Text.{Str, Query, starts_with, segments}
use Rattle.source.specs.Table.{ModSymbol, Module, Namespace, Line}
use Rattle.source.specs.Calls.{Found, found, not_found, refused}
use Rattle.source.specs.Shared.{Allˡ}
use Rattle.source.specs.declared.ItemKind.{ItemKind}
use Rattle.source.specs.Items.{same_kind}
use Rattle.source.specs.declared.LidSymbol.{LidSymbol}
use Rattle.source.proofs.Elsewhere.{key_same_or_not}
use Rattle.source.proofs.Items.{same_kind_is, kind_same}
use Rattle.promises.specs.Agreement.{Shows, Covers, full_name, EachFound}

abbrev Told : {A : Type 0} → A → A → Type 0
Told x y = (x ≡ y) ⊎ (x ≡ y → ⊥)

kind_told : (x y : ItemKind) → Told x y
kind_told x y = go (same_kind x y) refl
  where
    go : (b : Bool) → same_kind x y ≡ b → Told x y
    go true e = inl (same_kind_is x y e)
    go false e = inr (λ i. true≢false (sym (kind_same x) ∙ ap (same_kind x) i ∙ e))

number_told : (x y : ℕ) → Told x y
number_told x y = go (eqb x y) refl
  where
    go : (b : Bool) → eqb x y ≡ b → Told x y
    go true e = inl (eqb-true x y e)
    go false e = inr (eqb-false x y e)

bool_told : (x y : Bool) → Told x y
bool_told true true = inl refl
bool_told false false = inl refl
bool_told true false = inr (λ e. let z : ◌≡◌ {A = ℕ} 0 1 = cc in omega arith)
bool_told false true = inr (λ e. let z : ◌≡◌ {A = ℕ} 0 1 = cc in omega arith)

-- Two items of names.
pub lid_told : (x y : LidSymbol) → (x ≡ y) ⊎ (x ≡ y → ⊥)
lid_told x y = go (kind_told x.kind y.kind) (number_told x.number y.number)
  where
    go : Told x.kind y.kind → Told x.number y.number → Told x y
    go (inl e) (inl f) = inl (ap₂ (λ k n. record { kind = k; number = n }) e f)
    go (inr e) f = inr (λ i. e (ap (λ (z : LidSymbol). z.kind) i))
    go (inl e) (inr f) = inr (λ i. f (ap (λ (z : LidSymbol). z.number) i))

-- Two modules or namespaces.
pub mod_told : (x y : ModSymbol) → (x ≡ y) ⊎ (x ≡ y → ⊥)
mod_told (Module n p l) (Module n' p' l') = go (key_same_or_not n n') (key_same_or_not p p') (bool_told l l')
  where
    go : Told n n' → Told p p' → Told l l' → Told (Module n p l) (Module n' p' l')
    go (inl e) (inl f) (inl g) = inl (rw (e, f, g))
    go (inr e) f g = inr (λ i. e cc)
    go (inl e) (inr f) g = inr (λ i. f cc)
    go (inl e) (inl f) (inr g) = inr (λ i. g cc)
mod_told (Namespace n l) (Namespace n' l') = go (key_same_or_not n n') (bool_told l l')
  where
    go : Told n n' → Told l l' → Told (Namespace n l) (Namespace n' l')
    go (inl e) (inl f) = inl (rw (e, f))
    go (inr e) f = inr (λ i. e cc)
    go (inl e) (inr f) = inr (λ i. f cc)
mod_told (Module n p l) (Namespace n' l') = inr (λ e. let z : ◌≡◌ {A = ℕ} 0 1 = cc in omega arith)
mod_told (Namespace n l) (Module n' p' l') = inr (λ e. let z : ◌≡◌ {A = ℕ} 0 1 = cc in omega arith)

pub shows_stable : {A : Type 0} → ((x y : A) → (x ≡ y) ⊎ (x ≡ y → ⊥)) → (ls : List (Line A)) (a : Found A)
    → ((Shows ls a → ⊥) → ⊥) → Shows ls a
shows_stable told [] (found x) h = absurd (h (λ s. nil≢cons s.1))
shows_stable told (l ∷ []) (found x) h = go (told l.item_of x)
  where
    go : Told l.item_of x → Shows (l ∷ []) (found x)
    go (inl e) = (l, refl, e)
    go (inr n) = absurd (h (λ s. n (ap (λ z. z.item_of) (head-eq_of_cons-eq s.1) ∙ s.2)))
shows_stable told (l ∷ (m ∷ ls)) (found x) h = absurd (h (λ s. nil≢cons (sym (tail-eq_of_cons-eq s.1))))
shows_stable told [] not_found h = refl
shows_stable told (l ∷ ls) not_found h = absurd (h (λ e. nil≢cons (sym e)))
shows_stable told ls (refused n) h = absurd (h (λ x. x))

-- ---- each line of a completion
abbrev Stable : Type 0 → Type 0
Stable P = ((P → ⊥) → ⊥) → P

all_stable : {B : Type 0} {P : B → Type 0} → ((x : B) → Stable (P x)) → (xs : List B) → Stable (Allˡ P xs)
all_stable g [] h = tt
all_stable g (x ∷ xs) h = (g x (λ n. h (λ p. n p.0)), all_stable g xs (λ n. h (λ p. n p.1)))

covers_stable : (query name : Query) → Stable (Covers query name)
covers_stable [] name h = tt
covers_stable (p ∷ query) [] h = h (λ x. x)
covers_stable (p ∷ query) (s ∷ name) h = (go (bool_told (starts_with s p) true), covers_stable query name (λ n. h (λ c. n c.1)))
  where
    go : Told (starts_with s p) true → starts_with s p ≡ true
    go (inl e) = e
    go (inr n) = absurd (h (λ c. n c.0))

found_stable : {A : Type 0} → ((x y : A) → (x ≡ y) ⊎ (x ≡ y → ⊥)) → (a : Found A) (x : A) → Stable (a ≡ found x)
found_stable told (found y) x h = go (told y x)
  where
    go : Told y x → found y ≡ found x
    go (inl e) = ap found e
    go (inr n) = absurd (h (λ e. n cc))
found_stable told not_found x h = absurd (h (λ e. let z : ◌≡◌ {A = ℕ} 0 1 = cc in omega arith))
found_stable told (refused m) x h = absurd (h (λ e. let z : ◌≡◌ {A = ℕ} 0 1 = cc in omega arith))

module _ {A : Type 0} (Finds : Str → Found A → Type 0) where
  -- What is claimed of the lines of one completion.
  abbrev pub LinesAre : Str → List (Line A) → Type 0
  LinesAre query lines = Allˡ (λ l. Covers (segments query) (segments (full_name l))) lines
      × Allˡ (λ l. (a : Found A) → Finds (full_name l) a → a ≡ found l.item_of) lines

  pub lines_stable : ((x y : A) → (x ≡ y) ⊎ (x ≡ y → ⊥)) → (query : Str) (lines : List (Line A))
      → ((LinesAre query lines → ⊥) → ⊥) → LinesAre query lines
  lines_stable told query lines h = (
    all_stable (λ l. covers_stable (segments query) (segments (full_name l))) lines (λ n. h (λ p. n p.0)),
    all_stable (λ l i a f. found_stable told a l.item_of (λ n. i (λ g. n (g a f)))) lines (λ n. h (λ p. n p.1)),
  )

  pub lines_each : {Lists : Str → List (Line A) → Type 0}
      → ((query : Str) (lines : List (Line A)) → Lists query lines → LinesAre query lines) → EachFound Finds Lists
  lines_each h = record {
    covered = λ query lines c. (h query lines c).0;
    found_item = λ query lines c. (h query lines c).1;
  }
