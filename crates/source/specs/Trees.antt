-- Binary trees, as in the source, without the functions that the requirements leave out.
use Prim.Native.Nat.{Ordering}
use Rattle.std.specs.Prelude.{cond, ◌||◌, List, [], ◌∷◌}
use Rattle.std.proofs.Math.Option.{Option, none, some}
use Rattle.std.proofs.Math.Dec.{is_le}
use Rattle.source.specs.Text.{Str, string_compare, starts_with}
use Rattle.source.specs.Types.{Level, Value, Tree, StrEmpty, StrBranch}

-- prefix_match
pub record PrefixMatch : Type 0 where
  pub prefix : Option Str
  pub completion : Str

-- path_elem
pub record PathElem : Type 0 where
  pub imports : List Str
  pub segment : PrefixMatch

module _ {A : Type 0} {ℓ : Level} where
  unfoldable pub btree_insert_replace : Tree A ℓ → Str → Value A ℓ → Tree A ℓ
  btree_insert_replace StrEmpty k v = StrBranch k v StrEmpty StrEmpty
  btree_insert_replace (StrBranch k' v' lbt rbt) k v =
      elim (string_compare k k') [
        | Ordering.lt ↦ StrBranch k' v' (btree_insert_replace lbt k v) rbt
        | Ordering.eq ↦ StrBranch k' v lbt rbt
        | Ordering.gt ↦ StrBranch k' v' lbt (btree_insert_replace rbt k v)
      ]

  unfoldable pub btree_find_exact : Tree A ℓ → Str → Option (Value A ℓ)
  btree_find_exact StrEmpty k = none
  btree_find_exact (StrBranch k' v lbt rbt) k =
      elim (string_compare k k') [
        | Ordering.lt ↦ btree_find_exact lbt k
        | Ordering.eq ↦ some v
        | Ordering.gt ↦ btree_find_exact rbt k
      ]

  -- aux of btree_find_prefix
  unfoldable pub find_prefix_onto : Tree A ℓ → Str → List (PrefixMatch × Value A ℓ) → List (PrefixMatch × Value A ℓ)
  find_prefix_onto StrEmpty prefix acc = acc
  find_prefix_onto (StrBranch k v lbt rbt) prefix acc =
      let cmp = string_compare k prefix in
      let include_middle = starts_with k prefix in
      let right = find_prefix_onto rbt prefix acc in
      let matches₁ = cond (is_le cmp || include_middle) right acc in
      let matches₂ = cond include_middle ((record { prefix = some prefix; completion = k }, v) ∷ matches₁) matches₁ in
      let left = find_prefix_onto lbt prefix matches₂ in
      cond (is_le cmp) matches₂ left

  unfoldable pub btree_find_prefix : Tree A ℓ → Str → List (PrefixMatch × Value A ℓ)
  btree_find_prefix bt prefix = find_prefix_onto bt prefix []

  unfoldable pub btree_fold : {B : Type 0} → Tree A ℓ → (Str → Value A ℓ → B → B) → B → B
  btree_fold StrEmpty f acc = acc
  btree_fold (StrBranch k v lbt rbt) f acc = btree_fold lbt f (f k v (btree_fold rbt f acc))

  unfoldable pub btree_find_all : Option Str → Tree A ℓ → List (PrefixMatch × Value A ℓ)
  btree_find_all prefix bt = btree_fold bt (λ k tr acc. (record { prefix = prefix; completion = k }, tr) ∷ acc) []
