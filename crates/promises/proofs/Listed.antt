-- What a listing holds at a name: the line along the rows that have its segments as keys, once, or nothing. Its item is what the walk ends at.
use Prim.Native.Nat.{ℕ, zero, suc, ◌≤◌, ◌<◌}
use mathlib.Core.Path.{◌≡◌, refl, sym, ap, ◌∙◌, subst}
use mathlib.Core.Logic.{inl, inr}
use mathlib.Core.Bool.{Bool, true, false, cond, ◌&&◌, true≢false, false≢true}
use mathlib.Core.List.{List, [], ◌∷◌, ◌++◌, map, reverse, reverse_aux, tail, nil≢cons, head-eq_of_cons-eq, tail-eq_of_cons-eq, append-nil}
use mathlib.Core.Option.{Option, none, some, none-ne-some, some-injective}
use native.Mathlib.Omega.{arith}
use Rattle.source.specs.Text.{Str, Query}
use Rattle.source.specs.Types.{Level, Value, Trie, NameList, bind, ns, the_item, bindings, namespaces}
use Rattle.source.specs.Trees.{PathElem}
use Rattle.source.specs.Tries.{bind_option, trie_find_exact}
use Rattle.source.specs.Terms.{flatten, holders, first_of, depth, depth_names, walk_first}
use Rattle.source.specs.Listing.{PathOf, SearchTerm, Finder, of_source, by_first, fold_left, rev_map_onto, elem_key, names_find_rev_first, ns_search_term}
use Rattle.source.specs.Listing.{bindings_search_term, find_prefix_fuel, trie_find_prefix'}
use Rattle.source.specs.Rules.{Formed, FormedNames}
use Rattle.promises.specs.Agreement.{Covers}
use Rattle.source.proofs.Order.{<ˢ_irrefl}
use Rattle.source.specs.Shared.{same, Allˡ}
use Rattle.source.proofs.Lookup.{Same, same_view, same_self, lookup, lookup_hit, lookup_miss, Below, Decreasing, Allˡ-zip}
use Rattle.promises.proofs.Trees.{valof}
use Rattle.source.proofs.Rows.{names_find_rev_all, names_find_rev_depth, names_find_first_depth}
use Rattle.promises.specs.Departs.{accepts}
use Rattle.source.proofs.Names.{OrderedN}
use Rattle.promises.proofs.Names.{find_exact_is_first, find_rev_decreasing, find_first_decreasing}
use Rattle.promises.proofs.Holders.{first_found}
use Rattle.source.proofs.Formed.{formed_orderedN, formed_named, formed_parts, rows_formed}
use Rattle.source.proofs.Paths.{keys}

-- ---- look-up is the walk
module _ {A : Type 0} where
  pub look_up_is_walk : (tr : Trie A) (q : Query) → trie_find_exact tr q ≡ walk_first tr q
  unfolding trie_find_exact walk_first bind_option
  look_up_is_walk tr [] = refl
  look_up_is_walk tr (s ∷ []) = find_exact_is_first (bindings tr) s
  look_up_is_walk tr (s ∷ (t ∷ q)) =
      ap (λ o. bind_option o (λ scope. trie_find_exact scope (t ∷ q))) (find_exact_is_first (namespaces tr) s)
      ∙ go (first_of (holders (flatten (namespaces tr)) s)) (λ scope. look_up_is_walk scope (t ∷ q))
    where
      go : (o : Option (Trie A)) → ((scope : Trie A) → trie_find_exact scope (t ∷ q) ≡ walk_first scope (t ∷ q))
          → bind_option o (λ scope. trie_find_exact scope (t ∷ q)) ≡ bind_option o (λ scope. walk_first scope (t ∷ q))
      go none f = refl
      go (some x) f = f x

-- ---- what a listing asks of rows
module _ {A : Type 0} (Key Label : Str → Type 0) (Item : A → Type 0) where
  -- What a listing asks of the rows of a list.
  pub record Finds (find : Finder A) : Type 0 where
    pub descends : (ℓ : Level) (nl : NameList A ℓ) (term : SearchTerm) → OrderedN nl
        → Decreasing elem_key (find ℓ nl term)
    pub formed : (ℓ : Level) (nl : NameList A ℓ) (term : SearchTerm) → FormedNames Key Label Item nl
        → Allˡ (λ y. Key (elem_key y) × Formed Key Label Item y.1) (find ℓ nl term)
    pub shallow : (nl : NameList A ns) (term : SearchTerm) → Allˡ (λ y. depth y.1 < depth_names nl) (find ns nl term)

  pub source_finds : Finds of_source
  source_finds = record {
    descends = λ l n term o. find_rev_decreasing n term o;
    formed = λ l n term g. names_find_rev_all (λ k v. Key k × Formed Key Label Item v) n term (formed_named Key Label Item n g);
    shallow = λ n term. names_find_rev_depth n term;
  }

  pub first_finds : Finds by_first
  first_finds = record {
    descends = λ l n term o. find_first_decreasing n term o;
    formed = λ l n term g. rows_formed Key Label Item n term g;
    shallow = λ n term. names_find_first_depth n term;
  }

pub lookup_all : {B : Type 0} (key : B → Str) (P : B → Type 0) (k : Str) (m : List B) (y : B) → Allˡ P m
    → lookup key k m ≡ some y → P y
unfolding lookup
lookup_all key P k [] y a e = absurd (none-ne-some y e)
lookup_all key P k (x ∷ m) y a e = go (same k (key x)) (lookup_all key P k m y a.1) e
  where
    go : (b : Bool) → (lookup key k m ≡ some y → P y) → cond b (some x) (lookup key k m) ≡ some y → P y
    go true f e = subst P (some-injective x y e) a.0
    go false f e = f e

-- ---- lines by name
unfoldable pub same_names : List Str → List Str → Bool
same_names [] [] = true
same_names [] (t ∷ b) = false
same_names (s ∷ a) [] = false
same_names (s ∷ a) (t ∷ b) = same s t && same_names a b

pub same_names_self : (a : List Str) → same_names a a ≡ true
unfolding same_names
same_names_self [] = refl
same_names_self (s ∷ a) = rw (same_self s) (same_names_self a)

and-true : (a b : Bool) → a && b ≡ true → (a ≡ true) × (b ≡ true)
and-true true b e = (refl, e)
and-true false b e = absurd (false≢true e)

pub same_true : (s t : Str) → same s t ≡ true → s ≡ t
unfolding Same
same_true s t e = go (same_view s t)
  where
    go : Same s t → s ≡ t
    go (inl h) = h.1
    go (inr h) = absurd (true≢false (sym e ∙ h.0))

pub same_names_eq : (a b : List Str) → same_names a b ≡ true → a ≡ b
unfolding same_names
same_names_eq [] [] e = refl
same_names_eq [] (t ∷ b) e = absurd (false≢true e)
same_names_eq (s ∷ a) [] e = absurd (false≢true e)
same_names_eq (s ∷ a) (t ∷ b) e =
    let p : s ≡ t = same_true s t (and-true (same s t) (same_names a b) e).0 in
    let q : a ≡ b = same_names_eq a b (and-true (same s t) (same_names a b) e).1 in
    cc

pub keys_reverse : (a b : PathOf) → keys (reverse_aux a b) ≡ reverse_aux (keys a) (keys b)
keys_reverse [] b = refl
keys_reverse (x ∷ a) b = keys_reverse a (x ∷ b)

onto_inj : (p a b : List Str) → reverse_aux p a ≡ reverse_aux p b → a ≡ b
onto_inj [] a b e = e
onto_inj (x ∷ p) a b e = tail-eq_of_cons-eq (onto_inj p (x ∷ a) (x ∷ b) e)

abbrev pub from : {B C : Type 0} → (B → List C) → Option B → List C
from c none = []
from c (some y) = c y

module _ {A : Type 0} where
  -- the lines that have that name
  unfoldable pub named : List Str → List (PathOf × A) → List (PathOf × A)
  named T [] = []
  named T (x ∷ ls) = cond (same_names (keys x.0) T) (x ∷ named T ls) (named T ls)

  pub named_hit : (T : List Str) (x : PathOf × A) (ls : List (PathOf × A)) → keys x.0 ≡ T
      → named T (x ∷ ls) ≡ x ∷ named T ls
  unfolding named
  named_hit T x ls e = rw (ap (λ k. same_names k T) e ∙ same_names_self T)

  pub named_miss : (T : List Str) (x : PathOf × A) (ls : List (PathOf × A)) → (keys x.0 ≡ T → ⊥)
      → named T (x ∷ ls) ≡ named T ls
  unfolding named
  named_miss T x ls n = go (same_names (keys x.0) T) refl
    where
      go : (b : Bool) → same_names (keys x.0) T ≡ b → cond b (x ∷ named T ls) (named T ls) ≡ named T ls
      go true e = absurd (n (same_names_eq (keys x.0) T e))
      go false e = refl

  pub rev_map_is : {B : Type 0} (g : B → PathOf × A) (xs : List B) (acc : List (PathOf × A))
      → rev_map_onto g xs acc ≡ fold_left (λ acc x. g x ∷ acc) acc xs
  unfolding rev_map_onto fold_left
  rev_map_is g [] acc = refl
  rev_map_is g (x ∷ xs) acc = rev_map_is g xs (g x ∷ acc)

  fold_foreign : {B : Type 0} (T : List Str) (f : List (PathOf × A) → B → List (PathOf × A))
      → ((acc : List (PathOf × A)) (x : B) → named T (f acc x) ≡ named T acc)
      → (xs : List B) (acc : List (PathOf × A)) → named T (fold_left f acc xs) ≡ named T acc
  unfolding fold_left
  fold_foreign T f h [] acc = refl
  fold_foreign T f h (x ∷ xs) acc = fold_foreign T f h xs (f acc x) ∙ h acc x

  -- a fold over a decreasing list, where only the row with key s adds lines of that name
  module _ {ℓ : Level} (T : List Str) (f : List (PathOf × A) → PathElem × Value A ℓ → List (PathOf × A)) (s : Str)
      (c : PathElem × Value A ℓ → List (PathOf × A)) (P : PathElem × Value A ℓ → Type 0)
      (on : (acc : List (PathOf × A)) (y : PathElem × Value A ℓ) → P y → elem_key y ≡ s
      → named T (f acc y) ≡ c y ++ named T acc)
      (off : (acc : List (PathOf × A)) (y : PathElem × Value A ℓ) → (elem_key y ≡ s → ⊥)
      → named T (f acc y) ≡ named T acc) where
    fold_off : (m : List (PathElem × Value A ℓ)) (acc : List (PathOf × A)) → Below elem_key s m
        → named T (fold_left f acc m) ≡ named T acc
    unfolding fold_left
    fold_off [] acc b = refl
    fold_off (y ∷ m) acc b = fold_off m (f acc y) b.1 ∙ off acc y (λ e. <ˢ_irrefl s (rw e at b.0))

    fold_at : (m : List (PathElem × Value A ℓ)) (acc : List (PathOf × A)) → Decreasing elem_key m
        → ((y : PathElem × Value A ℓ) → lookup elem_key s m ≡ some y → P y)
        → named T (fold_left f acc m) ≡ from c (lookup elem_key s m) ++ named T acc
    unfolding fold_left lookup Same
    fold_at [] acc d h = refl
    fold_at (y ∷ m) acc d h = go (same_view s (elem_key y)) (λ g. fold_at m (f acc y) d.1 g)
      where
        skip : (s ≡ elem_key y → ⊥) → (((z : PathElem × Value A ℓ) → lookup elem_key s m ≡ some z → P z)
            → named T (fold_left f (f acc y) m) ≡ from c (lookup elem_key s m) ++ named T (f acc y))
            → named T (fold_left f (f acc y) m) ≡ from c (lookup elem_key s (y ∷ m)) ++ named T acc
        skip n ih = let e : lookup elem_key s (y ∷ m) ≡ lookup elem_key s m = lookup_miss elem_key s y m n in
            ih (λ z g. h z (e ∙ g)) ∙ ap (λ r. from c (lookup elem_key s m) ++ r) (off acc y (λ e. n (sym e))) ∙ ap (λ o. from c o ++ named T acc) (sym e)

        go : Same s (elem_key y) → (((z : PathElem × Value A ℓ) → lookup elem_key s m ≡ some z → P z)
            → named T (fold_left f (f acc y) m) ≡ from c (lookup elem_key s m) ++ named T (f acc y))
            → named T (fold_left f (f acc y) m) ≡ from c (lookup elem_key s (y ∷ m)) ++ named T acc
        go (inl (t, e)) ih =
            let g : lookup elem_key s (y ∷ m) ≡ some y = ap (λ k. lookup elem_key k (y ∷ m)) e ∙ lookup_hit elem_key y m in
            fold_off m (f acc y) (rw e d.0) ∙ on acc y (h y g) (sym e) ∙ ap (λ o. from c o ++ named T acc) (sym g)
        go (inr (t, inl x)) ih = skip (λ e. <ˢ_irrefl s (rw (← e) at x)) ih
        go (inr (t, inr x)) ih = skip (λ e. <ˢ_irrefl s (rw (← e) at x)) ih

-- ---- a listing, by whichever rows
module _ {A : Type 0} (find : Finder A) where
  -- a listing adds only names below its path
  foreign : (n : ℕ) (tr : Trie A) (path : PathOf) (q : Query) (acc : List (PathOf × A)) (T : List Str)
      → ((s : Str) (m : List Str) → reverse_aux (keys path) (s ∷ m) ≡ T → ⊥)
      → named T (find_prefix_fuel find n tr path q acc) ≡ named T acc
  unfolding find_prefix_fuel
  foreign zero tr path q acc T nope = refl
  foreign (suc n) tr path q acc T nope =
      ap (named T) (rev_map_is _ (find bind (bindings tr) (bindings_search_term q)) _)
      ∙ fold_foreign T _ (λ acc x. named_miss T _ acc (λ e. nope x.0.segment.completion [] (sym (keys_reverse path (x.0 ∷ [])) ∙ e)))
      (find bind (bindings tr) (bindings_search_term q)) _
      ∙ fold_foreign T _ (λ acc x. foreign n x.1 (x.0 ∷ path) (tail q) acc T (λ s m e. nope x.0.segment.completion (s ∷ m) e))
      (find ns (namespaces tr) (ns_search_term q)) acc

  -- the line along the rows that have the name's segments as keys
  unfoldable pub along : Trie A → PathOf → Query → Str → Query → List (PathOf × A)
  along tr path q s [] = from (λ y. (reverse (y.0 ∷ path), the_item y.1) ∷ []) (lookup elem_key s (find bind (bindings tr) (bindings_search_term q)))
  along tr path q s (t ∷ name) = from (λ y. along y.1 (y.0 ∷ path) (tail q) t name) (lookup elem_key s (find ns (namespaces tr) (ns_search_term q)))

  module _ (Key Label : Str → Type 0) (Item : A → Type 0) (finds : Finds Key Label Item find) where
    last_segment : (n : ℕ) (tr : Trie A) (path : PathOf) (q : Query) (acc : List (PathOf × A)) (s : Str)
        → OrderedN (bindings tr)
        → named (reverse_aux (keys path) (s ∷ [])) (find_prefix_fuel find (suc n) tr path q acc)
        ≡ along tr path q s [] ++ named (reverse_aux (keys path) (s ∷ [])) acc
    unfolding find_prefix_fuel elem_key along
    last_segment n tr path q acc s o =
        ap (named T) (rev_map_is g rows below)
        ∙ fold_at T (λ acc x. g x ∷ acc) s (λ y. g y ∷ []) (λ y. Unit {0})
        (λ acc y _ e. named_hit T (g y) acc (keys_reverse path (y.0 ∷ []) ∙ ap (λ k. reverse_aux (keys path) (k ∷ [])) e))
        (λ acc y ne. named_miss T (g y) acc (λ e. ne (head-eq_of_cons-eq (onto_inj (keys path) _ _ (sym (keys_reverse path (y.0 ∷ [])) ∙ e)))))
        rows below (finds.descends bind (bindings tr) (bindings_search_term q) o) (λ y _. tt)
        ∙ ap (λ r. from (λ y. g y ∷ []) (lookup elem_key s rows) ++ r)
        (fold_foreign T _ (λ acc x. foreign n x.1 (x.0 ∷ path) (tail q) acc T (λ t m e. nil≢cons (sym (tail-eq_of_cons-eq (onto_inj (keys path) _ _ e)))))
        (find ns (namespaces tr) (ns_search_term q)) acc)
      where
        T : List Str
        T = reverse_aux (keys path) (s ∷ [])

        g : PathElem × Value A bind → PathOf × A
        g x = (reverse (x.0 ∷ path), the_item x.1)

        rows : List (PathElem × Value A bind)
        rows = find bind (bindings tr) (bindings_search_term q)

        below : List (PathOf × A)
        below = fold_left (λ acc x. find_prefix_fuel find n x.1 (x.0 ∷ path) (tail q) acc) acc (find ns (namespaces tr) (ns_search_term q))

    earlier_segment : (n : ℕ) (tr : Trie A) (path : PathOf) (q : Query) (acc : List (PathOf × A)) (s t : Str)
        (name : Query)
        → FormedNames Key Label Item (namespaces tr) → depth_names (namespaces tr) ≤ n
        → ((child : Trie A) (el : PathElem) (acc : List (PathOf × A)) → Formed Key Label Item child → depth child < n
        → named (reverse_aux (keys path) (el.segment.completion ∷ (t ∷ name)))
        (find_prefix_fuel find n child (el ∷ path) (tail q) acc)
        ≡ along child (el ∷ path) (tail q) t name
        ++ named (reverse_aux (keys path) (el.segment.completion ∷ (t ∷ name))) acc)
        → named (reverse_aux (keys path) (s ∷ (t ∷ name))) (find_prefix_fuel find (suc n) tr path q acc)
        ≡ along tr path q s (t ∷ name) ++ named (reverse_aux (keys path) (s ∷ (t ∷ name))) acc
    unfolding find_prefix_fuel elem_key along
    earlier_segment n tr path q acc s t name gd dp ih =
        ap (named T) (rev_map_is _ (find bind (bindings tr) (bindings_search_term q)) _)
        ∙ fold_foreign T _
        (λ acc x. named_miss T _ acc (λ e. nil≢cons (tail-eq_of_cons-eq (onto_inj (keys path) _ _ (sym (keys_reverse path (x.0 ∷ [])) ∙ e)))))
        (find bind (bindings tr) (bindings_search_term q)) _
        ∙ fold_at T (λ acc x. find_prefix_fuel find n x.1 (x.0 ∷ path) (tail q) acc) s (λ y. along y.1 (y.0 ∷ path) (tail q) t name)
        (λ y. Formed Key Label Item y.1 × (depth y.1 < n))
        (λ acc y p e. subst (λ k. named (reverse_aux (keys path) (k ∷ (t ∷ name))) (find_prefix_fuel find n y.1 (y.0 ∷ path) (tail q) acc)
        ≡ along y.1 (y.0 ∷ path) (tail q) t name ++ named (reverse_aux (keys path) (k ∷ (t ∷ name))) acc) e (ih y.1 y.0 acc p.0 p.1))
        (λ acc y ne. foreign n y.1 (y.0 ∷ path) (tail q) acc T (λ u m e. ne (head-eq_of_cons-eq (onto_inj (keys path) _ _ e))))
        rows acc (finds.descends ns (namespaces tr) (ns_search_term q) (formed_orderedN Key Label Item (namespaces tr) gd))
        (λ y e. lookup_all elem_key (λ y. Formed Key Label Item y.1 × (depth y.1 < n)) s rows y fine e)
      where
        T : List Str
        T = reverse_aux (keys path) (s ∷ (t ∷ name))

        rows : List (PathElem × Trie A)
        rows = find ns (namespaces tr) (ns_search_term q)

        fine : Allˡ (λ y. Formed Key Label Item y.1 × (depth y.1 < n)) rows
        fine = Allˡ-zip rows (λ y f d. (f.1, omega arith)) (finds.formed ns (namespaces tr) (ns_search_term q) gd)
            (finds.shallow (namespaces tr) (ns_search_term q))

    listed : (n : ℕ) (tr : Trie A) (path : PathOf) (q : Query) (acc : List (PathOf × A)) (s : Str) (name : Query)
        → Formed Key Label Item tr → depth tr < n
        → named (reverse_aux (keys path) (s ∷ name)) (find_prefix_fuel find n tr path q acc)
        ≡ along tr path q s name ++ named (reverse_aux (keys path) (s ∷ name)) acc
    unfolding depth
    listed zero tr path q acc s name gd dp = absurd (omega arith)
    listed (suc n) tr path q acc s [] gd dp =
        last_segment n tr path q acc s (formed_orderedN Key Label Item (bindings tr) (formed_parts Key Label Item tr gd).0)
    listed (suc n) tr path q acc s (t ∷ name) gd dp =
        earlier_segment n tr path q acc s t name (formed_parts Key Label Item tr gd).1 (omega (arith, (formed_parts Key Label Item tr gd).2))
        (λ child el acc g d. listed n child (el ∷ path) (tail q) acc t name g d)

    -- by names: the lines that have the name
    pub listed_named : (tr : Trie A) (q : Query) (s : Str) (name : Query) → Formed Key Label Item tr
        → named (s ∷ name) (trie_find_prefix' find tr [] q []) ≡ along tr [] q s name
    unfolding named trie_find_prefix'
    listed_named tr q s name g = listed (suc (depth tr)) tr [] q [] s name g (omega arith) ∙ append-nil (along tr [] q s name)

-- ---- covering
pub covers_binding : (q : Query) (s : Str) → Covers q (s ∷ []) → accepts (bindings_search_term q) s ≡ true
unfolding bindings_search_term
covers_binding [] s b = refl
covers_binding (p ∷ []) s b = b.0
covers_binding (p ∷ (p' ∷ q)) s b = absurd b.1

pub covers_namespace : (q : Query) (s : Str) (name : Query) → Covers q (s ∷ name) → accepts (ns_search_term q) s ≡ true
unfolding ns_search_term
covers_namespace [] s name b = refl
covers_namespace (p ∷ q) s name b = b.0

pub covers_tail : (q : Query) (s : Str) (name : Query) → Covers q (s ∷ name) → Covers (tail q) name
covers_tail [] s name b = tt
covers_tail (p ∷ q) s name b = b.1

-- ---- the item of that line
abbrev pub item_list : {A : Type 0} → Option (Value A bind) → List A
item_list none = []
item_list (some v) = the_item v ∷ []

module _ {A : Type 0} (Key Label : Str → Type 0) (Item : A → Type 0) where
  pub along_items : (tr : Trie A) (path : PathOf) (q : Query) (s : Str) (name : Query) → Formed Key Label Item tr
      → Covers q (s ∷ name)
      → map (λ (x : PathOf × A). x.1) (along by_first tr path q s name) ≡ item_list (walk_first tr (s ∷ name))
  unfolding along walk_first bind_option
  along_items tr path q s [] g c =
      go (lookup elem_key s (names_find_rev_first (bindings tr) (bindings_search_term q)))
      ∙ ap item_list (first_found (bindings tr) (bindings_search_term q) s (formed_orderedN Key Label Item (bindings tr) (formed_parts Key Label Item tr g).0)
      (covers_binding q s c))
    where
      go : (o : Option (PathElem × Value A bind))
          → map (λ (x : PathOf × A). x.1) (from (λ y. (reverse (y.0 ∷ path), the_item y.1) ∷ []) o)
          ≡ item_list (valof o)
      go none = refl
      go (some y) = refl
  along_items tr path q s (t ∷ name) g c =
      go (lookup elem_key s rows) refl (λ y f. along_items y.1 (y.0 ∷ path) (tail q) t name f (covers_tail q s (t ∷ name) c))
      ∙ ap (λ o. item_list (bind_option o (λ scope. walk_first scope (t ∷ name))))
      (first_found (namespaces tr) (ns_search_term q) s (formed_orderedN Key Label Item (namespaces tr) gd) (covers_namespace q s (t ∷ name) c))
    where
      gd : FormedNames Key Label Item (namespaces tr)
      gd = (formed_parts Key Label Item tr g).1

      rows : List (PathElem × Trie A)
      rows = names_find_rev_first (namespaces tr) (ns_search_term q)

      go : (o : Option (PathElem × Trie A)) → lookup elem_key s rows ≡ o
          → ((y : PathElem × Trie A) → Formed Key Label Item y.1
          → map (λ (x : PathOf × A). x.1) (along by_first y.1 (y.0 ∷ path) (tail q) t name)
          ≡ item_list (walk_first y.1 (t ∷ name)))
          → map (λ (x : PathOf × A). x.1) (from (λ y. along by_first y.1 (y.0 ∷ path) (tail q) t name) o)
          ≡ item_list (bind_option (valof o) (λ scope. walk_first scope (t ∷ name)))
      go none e ih = refl
      go (some y) e ih = ih y (lookup_all elem_key (λ y. Key (elem_key y) × Formed Key Label Item y.1) s rows y
          (rows_formed Key Label Item (namespaces tr) (ns_search_term q) gd) e).1
