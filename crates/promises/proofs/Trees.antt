-- Trees whose keys ascend: the searches list exactly the keys that match.
use Prim.Native.Nat.{Ordering}
use mathlib.Core.Path.{◌≡◌, refl, sym, ap, ◌∙◌}
use mathlib.Core.Bool.{Bool, true, false, cond}
use mathlib.Core.List.{List, [], ◌∷◌}
use mathlib.Core.Option.{Option, none, some, map}
use Rattle.source.specs.Text.{Str, string_compare, starts_with}
use Rattle.source.specs.Rules.{◌<ˢ◌, AllKeys, Ordered}
use Rattle.source.proofs.Order.{View, compare_strings, <ˢ_irrefl, <ˢ_trans}
use Rattle.source.specs.Types.{Level, Value, Tree, StrEmpty, StrBranch}
use Rattle.source.specs.Trees.{PrefixMatch, btree_find_exact, btree_find_prefix, btree_find_all}
use Rattle.source.specs.Tries.{or_else}
use Rattle.source.proofs.Lookup.{lookup, lookup_hit, lookup_miss, or_else_none}
use Rattle.source.proofs.Trees.{AllKeys-map, select, entry_key, find_prefix_is, find_all_is}

-- ---- options
abbrev pub gate : {A : Type 0} → Bool → Option A → Option A
gate true o = o
gate false o = none

abbrev pub valof : {A B : Type 0} → Option (A × B) → Option B
valof none = none
valof (some x) = some x.1

pub or_assoc : {A : Type 0} (x y z : Option A) → or_else (or_else x y) z ≡ or_else x (or_else y z)
unfolding or_else
or_assoc none y z = refl
or_assoc (some x) y z = refl

pub gate_none : {A : Type 0} (b : Bool) → gate {A = A} b none ≡ none
gate_none true = refl
gate_none false = refl

module _ {A : Type 0} {ℓ : Level} where
  -- a key that no branch has
  pub find_absent : (k : Str) (bt : Tree A ℓ) → AllKeys (λ x. k ≡ x → ⊥) bt → btree_find_exact bt k ≡ none
  unfolding btree_find_exact
  find_absent k StrEmpty a = refl
  find_absent k (StrBranch k' v lbt rbt) a = go (find_absent k lbt a.1) (find_absent k rbt a.2) (string_compare k k') (compare_strings k k')
    where
      go : btree_find_exact lbt k ≡ none → btree_find_exact rbt k ≡ none → (o : Ordering) → View k k' o
          → ◌≡◌ {A = Option (Value A ℓ)} (elim o [ Ordering.lt ↦ btree_find_exact lbt k | Ordering.eq ↦ some v | Ordering.gt ↦ btree_find_exact rbt k ]) none
      go i j Ordering.lt w = i
      go i j Ordering.eq w = absurd (a.0 w)
      go i j Ordering.gt w = j

  -- ---- what is selected, at each key
  abbrev at_key : Str → List (PrefixMatch × Value A ℓ) → Option (PrefixMatch × Value A ℓ)
  at_key k acc = lookup entry_key k acc

  -- The entry of a key's value in a search.
  abbrev pub entry : Option Str → Str → Option (Value A ℓ) → Option (PrefixMatch × Value A ℓ)
  entry p k o = map (λ v. (record { prefix = p; completion = k }, v)) o

  below_ne : (k k' : Str) (bt : Tree A ℓ) → k <ˢ k' → AllKeys (λ x. k' <ˢ x) bt → AllKeys (λ x. k ≡ x → ⊥) bt
  below_ne k k' bt h a = AllKeys-map bt (λ x y e. <ˢ_irrefl x (rw e at (<ˢ_trans k k' x h y))) a

  above_ne : (k k' : Str) (bt : Tree A ℓ) → k' <ˢ k → AllKeys (λ x. x <ˢ k') bt → AllKeys (λ x. k ≡ x → ⊥) bt
  above_ne k k' bt h a = AllKeys-map bt (λ x y e. <ˢ_irrefl x (rw e at (<ˢ_trans x k' k y h))) a

  pub select_row : (p : Option Str) (b : Str → Bool) (k : Str) (bt : Tree A ℓ) (acc : List (PrefixMatch × Value A ℓ))
      → Ordered bt
      → at_key k (select p b bt acc) ≡ or_else (entry p k (gate (b k) (btree_find_exact bt k))) (at_key k acc)
  unfolding select btree_find_exact or_else entry_key
  select_row p b k StrEmpty acc o = rw (gate_none (b k))
  select_row p b k (StrBranch k' v lbt rbt) acc o =
      select_row p b k lbt _ o.2 ∙ go (select_row p b k rbt acc o.3) (string_compare k k') refl (compare_strings k k') (b k') refl
    where
      m : PrefixMatch × Value A ℓ
      m = (record { prefix = p; completion = k' }, v)

      mid : (i : Bool) → (k ≡ k' → ⊥)
          → at_key k (cond i (m ∷ select p b rbt acc) (select p b rbt acc)) ≡ at_key k (select p b rbt acc)
      mid true n = lookup_miss entry_key k m (select p b rbt acc) n
      mid false n = refl

      no_entry : (bt : Tree A ℓ) → btree_find_exact bt k ≡ none → entry p k (gate (b k) (btree_find_exact bt k)) ≡ none
      no_entry bt e = rw (e, gate_none (b k))

      go : at_key k (select p b rbt acc) ≡ or_else (entry p k (gate (b k) (btree_find_exact rbt k))) (at_key k acc)
          → (c : Ordering) → string_compare k k' ≡ c → View k k' c → (i : Bool) → b k' ≡ i
          → or_else (entry p k (gate (b k) (btree_find_exact lbt k)))
          (at_key k (cond i (m ∷ select p b rbt acc) (select p b rbt acc)))
          ≡ or_else (entry p k (gate (b k) (elim c [
            | Ordering.lt ↦ btree_find_exact lbt k
            | Ordering.eq ↦ some v
            | Ordering.gt ↦ btree_find_exact rbt k
          ]))) (at_key k acc)
      go r Ordering.lt e w i f =
          ap (or_else (entry p k (gate (b k) (btree_find_exact lbt k))))
          (mid i (λ d. <ˢ_irrefl k' (rw d at w)) ∙ r ∙ ap (λ x. or_else x (at_key k acc)) (no_entry rbt (find_absent k rbt (below_ne k k' rbt w o.1))))
      go r Ordering.eq e w true f =
          let n : btree_find_exact lbt k ≡ none = find_absent k lbt (AllKeys-map lbt (λ x y d. <ˢ_irrefl x (rw (sym w ∙ d) at y)) o.0) in
          rw (no_entry lbt n, ap b w ∙ f) (rw w (lookup_hit entry_key m (select p b rbt acc)))
      go r Ordering.eq e w false f = rw (r, ap b w ∙ f)
      go r Ordering.gt e w i f =
          rw (no_entry lbt (find_absent k lbt (above_ne k k' lbt w o.0))) (mid i (λ d. <ˢ_irrefl k' (rw d at w)) ∙ r)

  -- ---- the two searches
  exact_row : (p : Option Str) (b : Str → Bool) (bt : Tree A ℓ) (k : Str) → Ordered bt
      → lookup entry_key k (select p b bt []) ≡ entry p k (gate (b k) (btree_find_exact bt k))
  unfolding lookup
  exact_row p b bt k o = select_row p b k bt [] o ∙ or_else_none (entry p k (gate (b k) (btree_find_exact bt k)))

  pub find_prefix_row : (bt : Tree A ℓ) (p k : Str) → Ordered bt
      → lookup entry_key k (btree_find_prefix bt p) ≡ entry (some p) k (gate (starts_with k p) (btree_find_exact bt k))
  find_prefix_row bt p k o = rw (find_prefix_is bt p o) (exact_row (some p) (λ k. starts_with k p) bt k o)

  pub find_all_row : (p : Option Str) (bt : Tree A ℓ) (k : Str) → Ordered bt
      → lookup entry_key k (btree_find_all p bt) ≡ entry p k (btree_find_exact bt k)
  find_all_row p bt k o = rw (find_all_is p bt) (exact_row p (λ k. true) bt k o)

  -- ---- the values alone
  valof_or_else : (x y : Option (PrefixMatch × Value A ℓ)) → valof (or_else x y) ≡ or_else (valof x) (valof y)
  unfolding or_else
  valof_or_else none y = refl
  valof_or_else (some x) y = refl

  valof_entry : (p : Option Str) (k : Str) (o : Option (Value A ℓ)) → valof (entry p k o) ≡ o
  valof_entry p k none = refl
  valof_entry p k (some v) = refl

  pub select_at : (p : Option Str) (b : Str → Bool) (k : Str) (bt : Tree A ℓ) (acc : List (PrefixMatch × Value A ℓ))
      → Ordered bt
      → valof (at_key k (select p b bt acc)) ≡ or_else (gate (b k) (btree_find_exact bt k)) (valof (at_key k acc))
  select_at p b k bt acc o =
      let g = gate (b k) (btree_find_exact bt k) in
      ap valof (select_row p b k bt acc o) ∙ valof_or_else (entry p k g) (at_key k acc)
      ∙ ap (λ x. or_else x (valof (at_key k acc))) (valof_entry p k g)

  pub find_prefix_exactly : (bt : Tree A ℓ) (p k : Str) → Ordered bt
      → valof (lookup entry_key k (btree_find_prefix bt p)) ≡ gate (starts_with k p) (btree_find_exact bt k)
  find_prefix_exactly bt p k o =
      ap valof (find_prefix_row bt p k o) ∙ valof_entry (some p) k (gate (starts_with k p) (btree_find_exact bt k))

  pub find_all_exactly : (p : Option Str) (bt : Tree A ℓ) (k : Str) → Ordered bt
      → valof (lookup entry_key k (btree_find_all p bt)) ≡ btree_find_exact bt k
  find_all_exactly p bt k o = ap valof (find_all_row p bt k o) ∙ valof_entry p k (btree_find_exact bt k)
