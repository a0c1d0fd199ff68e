-- Trees whose keys ascend: the searches list ascending keys.
use Prim.Native.Nat.{◌<◌, compare, Ordering}
use mathlib.Core.Path.{◌≡◌, refl, sym, ap, ◌∙◌}
use mathlib.Core.Logic.{◌⊎◌, inl, inr}
use mathlib.Core.Bool.{Bool, true, false, cond, ◌&&◌, ◌||◌, true≢false}
use mathlib.Core.List.{List, [], ◌∷◌}
use mathlib.Core.Option.{Option, some}
use native.Mathlib.Omega.{arith}
use lib.Dec.{compare_is_eq, is_le}
use Rattle.source.specs.Text.{Str, string_compare, starts_with}
use Rattle.source.specs.Rules.{◌<ˢ◌, AllKeys, Ordered}
use Rattle.source.proofs.Order.{View, Viewℕ, compare_view, compare_strings, <ˢ_trans}
use Rattle.source.specs.Types.{Level, Value, Tree, StrEmpty, StrBranch}
use Rattle.source.specs.Trees.{PrefixMatch, find_prefix_onto, btree_find_prefix, btree_fold, btree_find_all}
use Rattle.source.proofs.Lookup.{Above, Increasing}

-- ---- prefixes and order
pub before_prefix : (k p : Str) → k <ˢ p → starts_with k p ≡ false
unfolding starts_with
before_prefix [] [] h = absurd h
before_prefix [] (b ∷ p) h = refl
before_prefix (a ∷ k) [] h = absurd h
before_prefix (a ∷ k) (b ∷ p) h = go (before_prefix k p) (compare a b) (compare_view a b) h
  where
    go : (k <ˢ p → starts_with k p ≡ false) → (o : Ordering) → Viewℕ a b o → (a < b) ⊎ ((a ≡ b) × (k <ˢ p))
        → compare_is_eq o && starts_with k p ≡ false
    go ih Ordering.lt v h = refl
    go ih Ordering.eq v (inl h) = absurd (omega arith)
    go ih Ordering.eq v (inr h) = ih h.1
    go ih Ordering.gt v h = refl

-- p < k < k′ and k does not begin with p: nor does k′
pub past_prefix : (k k' p : Str) → p <ˢ k → starts_with k p ≡ false → k <ˢ k' → starts_with k' p ≡ false
unfolding starts_with
past_prefix k k' [] h f l = absurd (true≢false f)
past_prefix k [] (b ∷ p) h f l = refl
past_prefix [] (c ∷ k') (b ∷ p) h f l = absurd h
past_prefix (a ∷ k) (c ∷ k') (b ∷ p) h f l = go (past_prefix k k' p) (compare a b) (compare_view a b) (compare c b) (compare_view c b) f h l
  where
    go : (p <ˢ k → starts_with k p ≡ false → k <ˢ k' → starts_with k' p ≡ false) → (o : Ordering) → Viewℕ a b o
        → (o' : Ordering) → Viewℕ c b o' → compare_is_eq o && starts_with k p ≡ false
        → (b < a) ⊎ ((b ≡ a) × (p <ˢ k)) → (a < c) ⊎ ((a ≡ c) × (k <ˢ k'))
        → compare_is_eq o' && starts_with k' p ≡ false
    go ih o v Ordering.lt w f h l = refl
    go ih o v Ordering.gt w f h l = refl
    go ih Ordering.lt v Ordering.eq w f (inl h) l = absurd (omega arith)
    go ih Ordering.lt v Ordering.eq w f (inr h) l = absurd (omega arith)
    go ih Ordering.eq v Ordering.eq w f (inl h) l = absurd (omega arith)
    go ih Ordering.eq v Ordering.eq w f (inr h) (inl l) = absurd (omega arith)
    go ih Ordering.eq v Ordering.eq w f (inr h) (inr l) = ih h.1 f l.1
    go ih Ordering.gt v Ordering.eq w f h (inl l) = absurd (omega arith)
    go ih Ordering.gt v Ordering.eq w f h (inr l) = absurd (omega arith)

module _ {A : Type 0} {ℓ : Level} where
  pub AllKeys-map : {P Q : Str → Type 0} → (bt : Tree A ℓ) → ((k : Str) → P k → Q k) → AllKeys P bt → AllKeys Q bt
  AllKeys-map StrEmpty f a = tt
  AllKeys-map (StrBranch k v lbt rbt) f a = (f k a.0, AllKeys-map lbt f a.1, AllKeys-map rbt f a.2)

  pub AllKeys-zip : {P Q S : Str → Type 0} → (bt : Tree A ℓ) → ((k : Str) → P k → Q k → S k) → AllKeys P bt
      → AllKeys Q bt
      → AllKeys S bt
  AllKeys-zip StrEmpty f a b = tt
  AllKeys-zip (StrBranch k v lbt rbt) f a b = (f k a.0 b.0, AllKeys-zip lbt f a.1 b.1, AllKeys-zip rbt f a.2 b.2)

  -- ---- the branches whose keys pass a test, onto acc
  unfoldable pub select : Option Str → (Str → Bool) → Tree A ℓ → List (PrefixMatch × Value A ℓ)
      → List (PrefixMatch × Value A ℓ)
  select p b StrEmpty acc = acc
  select p b (StrBranch k v lbt rbt) acc =
      select p b lbt (cond (b k) ((record { prefix = p; completion = k }, v) ∷ select p b rbt acc) (select p b rbt acc))

  unfoldable pub entry_key : PrefixMatch × Value A ℓ → Str
  entry_key x = x.0.completion

  select_none : (p : Option Str) (b : Str → Bool) (bt : Tree A ℓ) (acc : List (PrefixMatch × Value A ℓ))
      → AllKeys (λ k. b k ≡ false) bt → select p b bt acc ≡ acc
  unfolding select
  select_none p b StrEmpty acc a = refl
  select_none p b (StrBranch k v lbt rbt) acc a = rw a.0 (select_none p b lbt (select p b rbt acc) a.1 ∙ select_none p b rbt acc a.2)

  -- the search leaves out only what does not match
  prefix_select : (bt : Tree A ℓ) (p : Str) (acc : List (PrefixMatch × Value A ℓ)) → Ordered bt
      → find_prefix_onto bt p acc ≡ select (some p) (λ k. starts_with k p) bt acc
  unfolding find_prefix_onto select
  prefix_select StrEmpty p acc o = refl
  prefix_select (StrBranch k v lbt rbt) p acc o =
      go (prefix_select rbt p acc o.3) (λ acc. prefix_select lbt p acc o.2) (string_compare k p) (compare_strings k p) (starts_with k p) refl
    where
      m : List (PrefixMatch × Value A ℓ) → List (PrefixMatch × Value A ℓ)
      m r = (record { prefix = some p; completion = k }, v) ∷ r

      b : Str → Bool
      b k = starts_with k p

      low : (x : Str) → (k <ˢ p) ⊎ (k ≡ p) → x <ˢ k → b x ≡ false
      low x (inl h) y = before_prefix x p (<ˢ_trans x k p y h)
      low x (inr h) y = before_prefix x p (rw h at y)

      go : find_prefix_onto rbt p acc ≡ select (some p) b rbt acc
          → ((acc : List (PrefixMatch × Value A ℓ)) → find_prefix_onto lbt p acc ≡ select (some p) b lbt acc)
          → (c : Ordering) → View k p c → (i : Bool) → starts_with k p ≡ i
          → ◌≡◌ {A = List (PrefixMatch × Value A ℓ)}
          (cond (is_le c)
          (cond i (m (cond (is_le c || i) (find_prefix_onto rbt p acc) acc)) (cond (is_le c || i) (find_prefix_onto rbt p acc) acc))
          (find_prefix_onto lbt p (cond i (m (cond (is_le c || i) (find_prefix_onto rbt p acc) acc)) (cond (is_le c || i) (find_prefix_onto rbt p acc) acc))))
          (select (some p) b lbt (cond i (m (select (some p) b rbt acc)) (select (some p) b rbt acc)))
      go r lh Ordering.lt w i e = rw r (sym (select_none (some p) b lbt _ (AllKeys-map lbt (λ x y. low x (inl w) y) o.0)))
      go r lh Ordering.eq w i e = rw r (sym (select_none (some p) b lbt _ (AllKeys-map lbt (λ x y. low x (inr w) y) o.0)))
      go r lh Ordering.gt w true e = rw r (lh _)
      go r lh Ordering.gt w false e = rw (select_none (some p) b rbt acc (AllKeys-map rbt (λ x y. past_prefix k x p w e y) o.1)) (lh acc)

  all_select : (p : Option Str) (bt : Tree A ℓ) (acc : List (PrefixMatch × Value A ℓ))
      → btree_fold bt (λ k v acc. (record { prefix = p; completion = k }, v) ∷ acc) acc ≡ select p (λ k. true) bt acc
  unfolding btree_fold select
  all_select p StrEmpty acc = refl
  all_select p (StrBranch k v lbt rbt) acc =
      all_select p lbt _ ∙ ap (λ r. select p (λ k. true) lbt ((record { prefix = p; completion = k }, v) ∷ r)) (all_select p rbt acc)

  pub find_prefix_is : (bt : Tree A ℓ) (p : Str) → Ordered bt
      → btree_find_prefix bt p ≡ select (some p) (λ k. starts_with k p) bt []
  unfolding btree_find_prefix
  find_prefix_is bt p o = prefix_select bt p [] o

  pub find_all_is : (p : Option Str) (bt : Tree A ℓ) → btree_find_all p bt ≡ select p (λ k. true) bt []
  unfolding btree_find_all
  find_all_is p bt = all_select p bt []

  -- ---- what is selected, in increasing order
  above_select : (p : Option Str) (b : Str → Bool) (x : Str) (bt : Tree A ℓ) (acc : List (PrefixMatch × Value A ℓ))
      → AllKeys (λ y. x <ˢ y) bt → Above entry_key x acc → Above entry_key x (select p b bt acc)
  unfolding select entry_key
  above_select p b x StrEmpty acc a h = h
  above_select p b x (StrBranch k v lbt rbt) acc a h = above_select p b x lbt _ a.1 (go (b k) (above_select p b x rbt acc a.2 h))
    where
      go : (i : Bool) → Above entry_key x (select p b rbt acc)
          → Above entry_key x (cond i ((record { prefix = p; completion = k }, v) ∷ select p b rbt acc) (select p b rbt acc))
      go true r = (a.0, r)
      go false r = r

  pub select_increasing : (p : Option Str) (b : Str → Bool) (bt : Tree A ℓ) (acc : List (PrefixMatch × Value A ℓ))
      → Ordered bt → AllKeys (λ x. Above entry_key x acc) bt → Increasing entry_key acc
      → Increasing entry_key (select p b bt acc)
  unfolding select entry_key
  select_increasing p b StrEmpty acc o a i = i
  select_increasing p b (StrBranch k v lbt rbt) acc o a i =
      select_increasing p b lbt _ o.2
      (AllKeys-zip lbt (λ x y z. above (b k) x y z) o.0 a.1)
      (go (b k) (select_increasing p b rbt acc o.3 a.2 i))
    where
      kr : Above entry_key k (select p b rbt acc)
      kr = above_select p b k rbt acc o.1 a.0

      above : (c : Bool) (x : Str) → x <ˢ k → Above entry_key x acc
          → Above entry_key x (cond c ((record { prefix = p; completion = k }, v) ∷ select p b rbt acc) (select p b rbt acc))
      above true x y z = (y, above_select p b x rbt acc (AllKeys-map rbt (λ w h. <ˢ_trans x k w y h) o.1) z)
      above false x y z = above_select p b x rbt acc (AllKeys-map rbt (λ w h. <ˢ_trans x k w y h) o.1) z

      go : (c : Bool) → Increasing entry_key (select p b rbt acc)
          → Increasing entry_key (cond c ((record { prefix = p; completion = k }, v) ∷ select p b rbt acc) (select p b rbt acc))
      go true r = (kr, r)
      go false r = r

  pub no_keys : (bt : Tree A ℓ) → AllKeys (λ x. Unit {0}) bt
  no_keys StrEmpty = tt
  no_keys (StrBranch k v lbt rbt) = (tt, no_keys lbt, no_keys rbt)

  -- ---- the two searches
  ascends : (p : Option Str) (b : Str → Bool) (bt : Tree A ℓ) → Ordered bt → Increasing entry_key (select p b bt [])
  ascends p b bt o = select_increasing p b bt [] o (no_keys bt) tt

  pub find_prefix_ascends : (bt : Tree A ℓ) (p : Str) → Ordered bt → Increasing entry_key (btree_find_prefix bt p)
  find_prefix_ascends bt p o = rw (find_prefix_is bt p o) (ascends (some p) (λ k. starts_with k p) bt o)

  pub find_all_ascends : (p : Option Str) (bt : Tree A ℓ) → Ordered bt → Increasing entry_key (btree_find_all p bt)
  find_all_ascends p bt o = rw (find_all_is p bt) (ascends p (λ k. true) bt o)
