-- Every listing follows one order of names, whatever the table; so two listings that show the same at each name are the same.
use Prim.Native.Nat.{ℕ, zero, suc, suc-le-suc, zero-le}
use mathlib.Core.Path.{◌≡◌, refl, sym, ap, ap₂, ◌∙◌, subst}
use mathlib.Core.Logic.{inl, inr}
use mathlib.Core.Bool.{Bool, true, false, cond, true≢false}
use mathlib.Core.List.{List, [], ◌∷◌, ◌++◌, map, reverse_aux, tail, nil≢cons, head-eq_of_cons-eq, tail-eq_of_cons-eq, append-nil}
use Rattle.source.specs.Text.{Str, Query}
use Rattle.source.specs.Types.{Level, Value, Trie, NameList, bindings, namespaces}
use Rattle.source.specs.Trees.{PathElem}
use Rattle.source.specs.Terms.{depth}
use Rattle.source.specs.Listing.{PathOf, SearchTerm, by_first, fold_left, elem_key, names_find_rev_first, ns_search_term}
use Rattle.source.specs.Listing.{bindings_search_term, find_prefix_fuel, trie_find_prefix', trie_find_prefix_first}
use Rattle.source.specs.Rules.{◌<ˢ◌, Formed, FormedNames}
use Rattle.source.specs.Shared.{Allˡ}
use Rattle.source.specs.Forward.{line}
use Rattle.source.proofs.Order.{<ˢ_irrefl, <ˢ_trans}
use Rattle.source.proofs.Lookup.{Above, Increasing, Decreasing, Allˡ-map, Allˡ-zip}
use Rattle.source.proofs.Formed.{formed_orderedN, formed_parts, rows_formed}
use Rattle.source.proofs.Paths.{keys}
use Rattle.promises.proofs.Names.{find_first_decreasing}
use Rattle.promises.proofs.Listed.{same_names, same_names_eq, same_names_self, keys_reverse, named, named_hit, named_miss, rev_map_is}

-- ---- the order of names

-- The place of a name in the order of listings, as a text: a name of one segment comes before a longer one; else by the first segment, then by the rest.
unfoldable pub rank : List Str → Str
rank [] = []
rank (s ∷ []) = 0 ∷ map suc s
rank (s ∷ (t ∷ q)) = 1 ∷ (map suc s ++ (0 ∷ rank (t ∷ q)))

append_less : (s t u : Str) → t <ˢ u → (s ++ t) <ˢ (s ++ u)
append_less [] t u o = o
append_less (a ∷ s) t u o = inr (refl, append_less s t u o)

-- Where s is before t it is so with what comes next, if that begins below each successor.
sucs_less : (s t u v : Str) → ((n : ℕ) (w : Str) → u <ˢ (suc n ∷ w)) → s <ˢ t → (map suc s ++ u) <ˢ (map suc t ++ v)
sucs_less [] [] u v h o = absurd o
sucs_less [] (b ∷ t) u v h o = h b (map suc t ++ v)
sucs_less (a ∷ s) [] u v h o = absurd o
sucs_less (a ∷ s) (b ∷ t) u v h (inl o) = inl (suc-le-suc o)
sucs_less (a ∷ s) (b ∷ t) u v h (inr (e, o)) = inr (ap suc e, sucs_less s t u v h o)

-- The place of a name below a path, which is kept innermost first.
abbrev rank_at : PathOf → Str → List Str → Str
rank_at path s m = rank (reverse_aux (keys path) (s ∷ m))

rank_onto : (path : PathOf) (s t : Str) (l m : List Str) → rank (s ∷ l) <ˢ rank (t ∷ m)
    → rank_at path s l <ˢ rank_at path t m
unfolding rank
rank_onto [] s t l m h = h
rank_onto (x ∷ path) s t l m h =
    let k = x.segment.completion in rank_onto path k k (s ∷ l) (t ∷ m) (inr (refl, append_less (map suc k) _ _ (inr (refl, h))))

module _ (path : PathOf) (s t : Str) where
  rank_ones : s <ˢ t → rank_at path s [] <ˢ rank_at path t []
  unfolding rank
  rank_ones o = rank_onto path s t [] [] (inr (refl, simp append-nil at (sucs_less s t [] [] (λ _ _. tt) o)))

  rank_one_longer : (u : Str) (m : List Str) → rank_at path s [] <ˢ rank_at path t (u ∷ m)
  unfolding rank
  rank_one_longer u m = rank_onto path s t [] (u ∷ m) (inl (suc-le-suc zero-le))

  rank_longer : (u v : Str) (l m : List Str) → s <ˢ t → rank_at path s (u ∷ l) <ˢ rank_at path t (v ∷ m)
  unfolding rank
  rank_longer u v l m o = rank_onto path s t (u ∷ l) (v ∷ m) (inr (refl, sucs_less s t _ _ (λ _ _. inl (suc-le-suc zero-le)) o))

-- ---- listings

fold_keeps : {B C : Type 0} (P : C → Type 0) (f : C → B → C) → ((acc : C) (x : B) → P acc → P (f acc x))
    → (xs : List B) (acc : C) → P acc → P (fold_left f acc xs)
unfolding fold_left
fold_keeps P f h [] acc a = a
fold_keeps P f h (x ∷ xs) acc a = fold_keeps P f h xs (f acc x) (h acc x a)

module _ {A : Type 0} where
  -- The place of a line.
  abbrev pub name_rank : PathOf × A → Str
  name_rank x = rank (keys x.0)

  -- A listing adds only names below its path.
  fuel_above : (n : ℕ) (tr : Trie A) (path : PathOf) (q : Query) (t : Str)
      → ((s : Str) (m : List Str) → t <ˢ rank_at path s m)
      → (acc : List (PathOf × A)) → Above name_rank t acc
      → Above name_rank t (find_prefix_fuel by_first n tr path q acc)
  unfolding find_prefix_fuel elem_key
  fuel_above zero tr path q t h acc a = a
  fuel_above (suc n) tr path q t h acc a =
      subst (Above name_rank t) (sym (rev_map_is (line path) (names_find_rev_first (bindings tr) (bindings_search_term q)) _))
      (fold_keeps (Above name_rank t) _ (λ acc x a. (rw (keys_reverse path (x.0 ∷ [])) (h (elem_key x) []), a)) _ _
      (fold_keeps (Above name_rank t) _ (λ acc x a. fuel_above n x.1 (x.0 ∷ path) (tail q) t (λ s m. h (elem_key x) (s ∷ m)) acc a) _ acc a))

  module _ (Key Label : Str → Type 0) (Item : A → Type 0) where
    -- The rows that are found descend: what each adds comes before what stands.
    rows_increasing : {ℓ : Level} (nl : NameList A ℓ) (term : SearchTerm)
        (f : List (PathOf × A) → PathElem × Value A ℓ → List (PathOf × A))
        (Before : Str → List (PathOf × A) → Type 0)
        → ((acc : List (PathOf × A)) (y : PathElem × Value A ℓ) → Formed Key Label Item y.1
        → Increasing name_rank acc → Before (elem_key y) acc → Increasing name_rank (f acc y))
        → ((acc : List (PathOf × A)) (y : PathElem × Value A ℓ) (k : Str) → k <ˢ elem_key y → Before k acc
        → Before k (f acc y))
        → FormedNames Key Label Item nl → (acc : List (PathOf × A)) → Increasing name_rank acc
        → ((k : Str) → Before k acc)
        → Increasing name_rank (fold_left f acc (names_find_rev_first nl term))
    unfolding fold_left
    rows_increasing {ℓ} nl term f Before step keep g acc i b =
        go rows acc (find_first_decreasing nl term (formed_orderedN Key Label Item nl g)) i
        (Allˡ-map rows (λ y h. (h.1, b (elem_key y))) (rows_formed Key Label Item nl term g))
      where
        rows : List (PathElem × Value A ℓ)
        rows = names_find_rev_first nl term

        go : (xs : List (PathElem × Value A ℓ)) (acc : List (PathOf × A)) → Decreasing elem_key xs
            → Increasing name_rank acc → Allˡ (λ y. Formed Key Label Item y.1 × Before (elem_key y) acc) xs
            → Increasing name_rank (fold_left f acc xs)
        go [] acc d i h = i
        go (x ∷ xs) acc d i h =
            go xs (f acc x) d.1 (step acc x h.0.0 i h.0.1) (Allˡ-zip xs (λ y o l. (l.0, keep acc x (elem_key y) o l.1)) d.0 h.1)

    fuel_increasing : (n : ℕ) (tr : Trie A) (path : PathOf) (q : Query) → Formed Key Label Item tr
        → (acc : List (PathOf × A)) → Increasing name_rank acc
        → ((s : Str) (m : List Str) → Above name_rank (rank_at path s m) acc)
        → Increasing name_rank (find_prefix_fuel by_first n tr path q acc)
    unfolding find_prefix_fuel elem_key
    fuel_increasing zero tr path q g acc i b = i
    fuel_increasing (suc n) tr path q g acc i b =
        let f = formed_parts Key Label Item tr g in
        subst (Increasing name_rank) (sym (rev_map_is (line path) (names_find_rev_first (bindings tr) (bindings_search_term q)) _))
        (rows_increasing (bindings tr) (bindings_search_term q) _ (λ k. Above name_rank (rank_at path k []))
        (λ acc y _ i b. (rw (keys_reverse path (y.0 ∷ [])) b, i))
        (λ acc y k o b. (rw (keys_reverse path (y.0 ∷ [])) (rank_ones path k (elem_key y) o), b))
        f.0 _
        (rows_increasing (namespaces tr) (ns_search_term q) _ (λ k acc. (s : Str) (m : List Str) → Above name_rank (rank_at path k (s ∷ m)) acc)
        (λ acc y g. fuel_increasing n y.1 (y.0 ∷ path) (tail q) g acc)
        (λ acc y k o b s m. into y (rank_at path k (s ∷ m)) (λ t l. rank_longer path k (elem_key y) s t m l o) acc (b s m))
        f.1 acc i (λ k s m. b k (s ∷ m)))
        (λ k. fold_keeps (Above name_rank (rank_at path k [])) _ (λ acc y. into y (rank_at path k []) (rank_one_longer path k (elem_key y)) acc) _ acc
        (b k [])))
      where
        into : (y : PathElem × Trie A) (t : Str) → ((s : Str) (m : List Str) → t <ˢ rank_at (y.0 ∷ path) s m)
            → (acc : List (PathOf × A)) → Above name_rank t acc
            → Above name_rank t (find_prefix_fuel by_first n y.1 (y.0 ∷ path) (tail q) acc)
        into y = fuel_above n y.1 (y.0 ∷ path) (tail q)

    -- Every listing ascends in that order.
    pub listing_increasing : (tr : Trie A) (q : Query) → Formed Key Label Item tr
        → Increasing name_rank (trie_find_prefix_first tr q)
    unfolding trie_find_prefix_first trie_find_prefix'
    listing_increasing tr q g = fuel_increasing (suc (depth tr)) tr [] q g [] tt (λ s m. tt)

-- ---- lists in that order

pub by_test : {G : Type 0} (b : Bool) → (b ≡ true → G) → (b ≡ false → G) → G
by_test true f g = f refl
by_test false f g = g refl

by_names : {G : Type 0} (S T : List Str) → (S ≡ T → G) → ((S ≡ T → ⊥) → G) → G
by_names S T f g = by_test (same_names S T) (λ e. f (same_names_eq S T e)) (λ e. g (λ h. true≢false (sym (same_names_self S) ∙ ap (same_names S) h ∙ e)))

module _ {A : Type 0} where
  -- The lines whose name passes a test.
  unfoldable pub picked : (List Str → Bool) → List (PathOf × A) → List (PathOf × A)
  picked p [] = []
  picked p (x ∷ xs) = cond (p (keys x.0)) (x ∷ picked p xs) (picked p xs)

  -- A name that is listed after others comes after them.
  named_above : {B : Type 0} (g : PathOf × A → B) (T : List Str) (t : Str) (xs : List (PathOf × A)) (y : B)
      (ys : List B)
      → Above name_rank t xs → map g (named T xs) ≡ y ∷ ys → t <ˢ rank T
  unfolding named
  named_above g T t [] y ys a e = absurd (nil≢cons e)
  named_above g T t (x ∷ xs) y ys a e =
      by_names (keys x.0) T (λ f. subst (λ S. t <ˢ rank S) f a.0) (λ n. named_above g T t xs y ys a.1 (sym (ap (map g) (named_miss T x xs n)) ∙ e))

  module _ {B : Type 0} (g g' : PathOf × A → B) where
    -- Where the names at the heads differ, each is listed after the other's.
    heads_less : (x y : PathOf × A) (xs ys : List (PathOf × A)) → Above name_rank (name_rank y) ys
        → (keys y.0 ≡ keys x.0 → ⊥)
        → map g (named (keys x.0) (x ∷ xs)) ≡ map g' (named (keys x.0) (y ∷ ys)) → name_rank y <ˢ name_rank x
    heads_less x y xs ys a n h = named_above g' (keys x.0) (name_rank y) ys _ _ a
        (sym (ap (map g') (named_miss (keys x.0) y ys n)) ∙ sym h ∙ ap (map g) (named_hit (keys x.0) x xs refl))

    rest_same : (b : Bool) (x y : PathOf × A) (xs ys : List (PathOf × A))
        → map g (cond b (x ∷ xs) xs) ≡ map g' (cond b (y ∷ ys) ys) → map g xs ≡ map g' ys
    rest_same true x y xs ys e = tail-eq_of_cons-eq e
    rest_same false x y xs ys e = e

  module _ (p : List Str → Bool) where
    named_skipped : (x : PathOf × A) (xs : List (PathOf × A)) → p (keys x.0) ≡ false
        → (T : List Str) → p T ≡ true → named T (x ∷ xs) ≡ named T xs
    named_skipped x xs e T t = named_miss T x xs (λ f. true≢false (sym t ∙ sym (ap p f) ∙ e))

    picked_none : {B : Type 0} (g : PathOf × A → B) (xs : List (PathOf × A))
        → ((T : List Str) → p T ≡ true → map g (named T xs) ≡ []) → picked p xs ≡ []
    unfolding picked
    picked_none g [] h = refl
    picked_none g (x ∷ xs) h =
        by_test (p (keys x.0)) (λ e. absurd (nil≢cons (sym (h (keys x.0) e) ∙ ap (map g) (named_hit (keys x.0) x xs refl))))
        (λ e. rw e (picked_none g xs (λ T t. ap (map g) (sym (named_skipped x xs e T t)) ∙ h T t)))

  -- Two lists in that order that show the same at each name that passes show the same at all of them.
  pub picked_same : {B : Type 0} (g g' : PathOf × A → B) (p : List Str → Bool) (xs ys : List (PathOf × A))
      → Increasing name_rank xs → Increasing name_rank ys
      → ((T : List Str) → p T ≡ true → map g (named T xs) ≡ map g' (named T ys))
      → map g (picked p xs) ≡ map g' (picked p ys)
  unfolding picked named
  picked_same g g' p [] ys a b h = sym (ap (map g') (picked_none p g' ys (λ T t. sym (h T t))))
  picked_same g g' p (x ∷ xs) [] a b h = ap (map g) (picked_none p g (x ∷ xs) h)
  picked_same g g' p (x ∷ xs) (y ∷ ys) a b h =
      by_test (p (keys x.0))
      (λ px. by_test (p (keys y.0))
      (λ py. by_names (keys x.0) (keys y.0)
      (λ e. rw (px, py) (ap₂ ◌∷◌
      (head-eq_of_cons-eq (rw (e, same_names_self (keys y.0)) at (h (keys y.0) py)))
      (picked_same g g' p xs ys a.1 b.1 (λ T t. rest_same g g' (same_names (keys y.0) T) x y _ _ (rw e at (h T t))))))
      (λ n. absurd (<ˢ_irrefl (name_rank x) (<ˢ_trans (name_rank x) (name_rank y) (name_rank x)
      (heads_less g' g y x ys xs a.0 n (sym (h (keys y.0) py)))
      (heads_less g g' x y xs ys b.0 (λ e. n (sym e)) (h (keys x.0) px))))))
      (λ e. rw e (picked_same g g' p (x ∷ xs) ys a b.1 (λ T t. h T t ∙ ap (map g') (named_skipped p y ys e T t)))))
      (λ e. rw e (picked_same g g' p xs (y ∷ ys) a.1 b (λ T t. ap (map g) (sym (named_skipped p x xs e T t)) ∙ h T t)))
