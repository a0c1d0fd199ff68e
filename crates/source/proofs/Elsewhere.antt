-- An insert leaves what is found at other keys.
use Prim.Native.Nat.{Ordering}
use mathlib.Core.Path.{◌≡◌, refl, sym, ap, ◌∙◌}
use mathlib.Core.Logic.{◌⊎◌, inl, inr}
use mathlib.Core.Option.{Option, none, some}
use Rattle.source.specs.Text.{Str, string_compare}
use Rattle.source.specs.Types.{Level, Value, Tree, NameList, StrEmpty, StrBranch, []ᴺ, Names, ImportedNames}
use Rattle.source.specs.Trees.{btree_insert_replace, btree_find_exact}
use Rattle.source.specs.Tries.{or_else, names_find_exact, names_insert}
use Rattle.source.proofs.Order.{View, compare_strings, <ˢ_irrefl}

-- two keys are equal or not
pub key_same_or_not : (j k : Str) → (j ≡ k) ⊎ (j ≡ k → ⊥)
key_same_or_not j k = go (string_compare j k) (compare_strings j k)
  where
    go : (o : Ordering) → View j k o → (j ≡ k) ⊎ (j ≡ k → ⊥)
    go Ordering.lt w = inr (λ e. <ˢ_irrefl k (rw e at w))
    go Ordering.eq w = inl w
    go Ordering.gt w = inr (λ e. <ˢ_irrefl k (rw e at w))

module _ {A : Type 0} where
  -- another key is found as before
  find_other : {ℓ : Level} (bt : Tree A ℓ) (k j : Str) (v : Value A ℓ) → (j ≡ k → ⊥)
      → btree_find_exact (btree_insert_replace bt k v) j ≡ btree_find_exact bt j
  unfolding btree_insert_replace btree_find_exact
  find_other {ℓ} StrEmpty k j v n = go (string_compare j k) (compare_strings j k)
    where
      go : (o : Ordering) → View j k o
          → ◌≡◌ {A = Option (Value A ℓ)} (elim o [ Ordering.lt ↦ none | Ordering.eq ↦ some v | Ordering.gt ↦ none ]) none
      go Ordering.lt w = refl
      go Ordering.eq w = absurd (n w)
      go Ordering.gt w = refl
  find_other {ℓ} (StrBranch k' v' lbt rbt) k j v n = go (string_compare k k') (compare_strings k k') (find_other lbt k j v n) (find_other rbt k j v n)
    where
      same : k ≡ k' → (p : Ordering) → View j k' p
          → ◌≡◌ {A = Option (Value A ℓ)}
          (elim p [ Ordering.lt ↦ btree_find_exact lbt j | Ordering.eq ↦ some v | Ordering.gt ↦ btree_find_exact rbt j ])
          (elim p [ Ordering.lt ↦ btree_find_exact lbt j | Ordering.eq ↦ some v' | Ordering.gt ↦ btree_find_exact rbt j ])
      same e Ordering.lt w = refl
      same e Ordering.eq w = absurd (n (w ∙ sym e))
      same e Ordering.gt w = refl

      go : (o : Ordering) → View k k' o
          → btree_find_exact (btree_insert_replace lbt k v) j ≡ btree_find_exact lbt j
          → btree_find_exact (btree_insert_replace rbt k v) j ≡ btree_find_exact rbt j
          → btree_find_exact {A = A} {ℓ = ℓ} (elim o [
            | Ordering.lt ↦ StrBranch k' v' (btree_insert_replace lbt k v) rbt
            | Ordering.eq ↦ StrBranch k' v lbt rbt
            | Ordering.gt ↦ StrBranch k' v' lbt (btree_insert_replace rbt k v)
          ]) j
          ≡ btree_find_exact (StrBranch k' v' lbt rbt) j
      go Ordering.lt w f g = ap (λ x. elim (string_compare j k') [ Ordering.lt ↦ x | Ordering.eq ↦ some v' | Ordering.gt ↦ btree_find_exact rbt j ]) f
      go Ordering.eq w f g = same w (string_compare j k') (compare_strings j k')
      go Ordering.gt w f g = ap (λ x. elim (string_compare j k') [ Ordering.lt ↦ btree_find_exact lbt j | Ordering.eq ↦ some v' | Ordering.gt ↦ x ]) g

  pub names_find_other : {ℓ : Level} (nl : NameList A ℓ) (k j : Str) (v : Value A ℓ) → (j ≡ k → ⊥)
      → names_find_exact (names_insert nl k v) j ≡ names_find_exact nl j
  unfolding names_insert names_find_exact or_else btree_find_exact
  names_find_other []ᴺ k j v d = rw (find_other StrEmpty k j v d)
  names_find_other (Names bt tl) k j v d = rw (find_other bt k j v d)
  names_find_other (ImportedNames label inner tl) k j v d = rw (find_other StrEmpty k j v d)
