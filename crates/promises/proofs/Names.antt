-- Lists of collections: what a search of one gives at a key. Of the key's rows in flattened order the source's gives the last, the listing's the first.
use mathlib.Core.Path.{◌≡◌, refl, sym, ap, ap₂, ◌∙◌}
use mathlib.Core.Logic.{inl, inr}
use mathlib.Core.Bool.{Bool, true, false, cond}
use mathlib.Core.List.{List, [], ◌∷◌, ◌++◌, map, flat_map, reverse, reverse-cons, append-nil}
use mathlib.Core.Option
use mathlib.Core.Option.{Option, none, some}
use Rattle.source.specs.Text.{Str, starts_with}
use Rattle.source.specs.Rules.{Ordered}
use Rattle.source.specs.Types.{Level, Value, Tree, NameList, []ᴺ, Names, ImportedNames}
use Rattle.source.specs.Trees.{PrefixMatch, PathElem, btree_find_exact}
use Rattle.source.specs.Tries.{or_else, names_find_exact}
use Rattle.source.specs.Shared.{same, Allˡ}
use Rattle.source.proofs.Lookup.{Same, same_view, lookup, first_lookup, Increasing, Decreasing, or_else_none, lookup_above, lookup_below}
use Rattle.source.proofs.Lists.{merge_decreasing, merge_at}
use Rattle.source.specs.Listing.{SearchTerm, NSTAll, NSTNone, NSTPrefix, matching_values, with_imports, elem_key, names_find_rev, names_find_rev_first}
use Rattle.source.specs.Terms.{flatten, found_onto, holders, first_of}
use Rattle.source.specs.Table.{last_opt}
use Rattle.promises.specs.Departs.{accepts, to_list, with_key, rows_of}
use Rattle.promises.proofs.Trees.{gate, valof, entry, or_assoc, find_all_row, find_prefix_row}
use Rattle.source.proofs.Trees.{entry_key}
use Rattle.source.proofs.Lines.{flatMap_append}
use Rattle.source.specs.Forward.{tree_matches}
use Rattle.source.proofs.Names.{OrderedN, tree_ascends, labelled_increasing, values_increasing, turned_increasing}

-- ---- first and last elements
module _ {A : Type 0} where
  first_append : (xs m : List A) → first_of (xs ++ m) ≡ or_else (first_of xs) (first_of m)
  unfolding first_of or_else
  first_append [] m = refl
  first_append (a ∷ xs) m = refl

  last_cons : (a : A) (xs : List A) → last_opt (a ∷ xs) ≡ or_else (last_opt xs) (some a)
  unfolding last_opt or_else
  last_cons a [] = refl
  last_cons a (b ∷ xs) = sym (some_last b xs)
    where
      some_last : (b : A) (xs : List A) → or_else (last_opt (b ∷ xs)) (some a) ≡ last_opt (b ∷ xs)
      some_last b [] = refl
      some_last b (c ∷ xs) = some_last c xs

  last_append : (xs m : List A) → last_opt (xs ++ m) ≡ or_else (last_opt m) (last_opt xs)
  unfolding last_opt
  last_append [] m = sym (or_else_none (last_opt m))
  last_append (a ∷ xs) m =
      last_cons a (xs ++ m) ∙ ap (λ o. or_else o (some a)) (last_append xs m) ∙ or_assoc (last_opt m) (last_opt xs) (some a)
      ∙ ap (or_else (last_opt m)) (sym (last_cons a xs))

ends_of : {B : Type 0} (o : Option B) → (first_of (to_list o) ≡ o) × (last_opt (to_list o) ≡ o)
unfolding first_of last_opt
ends_of none = (refl, refl)
ends_of (some b) = (refl, refl)

pub value_of_first : {B C : Type 0} (xs : List (B × C)) → valof (first_of xs) ≡ first_of (map (λ x. x.1) xs)
unfolding first_of
value_of_first [] = refl
value_of_first (x ∷ xs) = refl

-- What of a key a search matches.
abbrev pub term_prefix : SearchTerm → Option Str
term_prefix NSTAll = none
term_prefix NSTNone = none
term_prefix (NSTPrefix p) = some p

-- What a search puts before the value of a key in a tree with those imports.
abbrev pub elem : SearchTerm → Str → List Str → PathElem
elem term k i = record { imports = i; segment = record { prefix = term_prefix term; completion = k } }

-- ---- look-up takes the first holder
module _ {A : Type 0} where
  first_onto : {ℓ : Level} (o : Option (Value A ℓ)) (vs : List (Value A ℓ))
      → first_of (found_onto o vs) ≡ or_else o (first_of vs)
  unfolding found_onto first_of or_else
  first_onto none vs = refl
  first_onto (some v) vs = refl

  pub holders_append : {ℓ : Level} (xs ys : List (Tree A ℓ)) (k : Str)
      → holders (xs ++ ys) k ≡ holders xs k ++ holders ys k
  unfolding holders found_onto
  holders_append [] ys k = refl
  holders_append (t ∷ xs) ys k = rw (holders_append xs ys k) (go (btree_find_exact t k))
    where
      go : (o : Option (Value A _))
          → found_onto o (holders xs k ++ holders ys k) ≡ found_onto o (holders xs k) ++ holders ys k
      go none = refl
      go (some v) = refl

  pub find_exact_is_first : {ℓ : Level} (nl : NameList A ℓ) (k : Str)
      → names_find_exact nl k ≡ first_of (holders (flatten nl) k)
  unfolding names_find_exact flatten holders first_of
  find_exact_is_first []ᴺ k = refl
  find_exact_is_first (Names bt tl) k =
      ap (or_else (btree_find_exact bt k)) (find_exact_is_first tl k) ∙ sym (first_onto (btree_find_exact bt k) (holders (flatten tl) k))
  find_exact_is_first (ImportedNames label inner tl) k =
      rw (find_exact_is_first inner k, find_exact_is_first tl k)
      (sym (ap first_of (holders_append (flatten inner) (flatten tl) k) ∙ first_append (holders (flatten inner) k) (holders (flatten tl) k)))

  -- ---- the rows of a key
  pub key_append : {ℓ : Level} (k : Str) (xs ys : List (PathElem × Value A ℓ))
      → with_key k (xs ++ ys) ≡ with_key k xs ++ with_key k ys
  unfolding with_key
  key_append k [] ys = refl
  key_append k (x ∷ xs) ys = rw (key_append k xs ys) (go (same k (elem_key x)))
    where
      go : (b : Bool) → cond b (x ∷ (with_key k xs ++ with_key k ys)) (with_key k xs ++ with_key k ys)
          ≡ cond b (x ∷ with_key k xs) (with_key k xs) ++ with_key k ys
      go true = refl
      go false = refl

  -- No key comes twice.
  abbrev Once : {ℓ : Level} → List (PathElem × Value A ℓ) → Type 0
  Once [] = Unit {0}
  Once (x ∷ xs) = (lookup elem_key (elem_key x) xs ≡ none) × Once xs

  key_once : {ℓ : Level} (k : Str) (xs : List (PathElem × Value A ℓ)) → Once xs
      → with_key k xs ≡ to_list (lookup elem_key k xs)
  unfolding with_key lookup Same
  key_once k [] o = refl
  key_once k (x ∷ xs) o = go (same_view k (elem_key x)) (key_once k xs o.1)
    where
      go : Same k (elem_key x) → with_key k xs ≡ to_list (lookup elem_key k xs)
          → with_key k (x ∷ xs) ≡ to_list (lookup elem_key k (x ∷ xs))
      go (inl (t, e)) h = rw t (ap (◌∷◌ x) (h ∙ ap to_list (ap (λ k. lookup elem_key k xs) e ∙ o.0)))
      go (inr (f, _)) h = rw f h

  ascending_once : {ℓ : Level} (xs : List (PathElem × Value A ℓ)) → Increasing elem_key xs → Once xs
  ascending_once [] i = tt
  ascending_once (x ∷ xs) i = (lookup_above elem_key (elem_key x) xs i.0, ascending_once xs i.1)

  descending_once : {ℓ : Level} (xs : List (PathElem × Value A ℓ)) → Decreasing elem_key xs → Once xs
  descending_once [] i = tt
  descending_once (x ∷ xs) i = (lookup_below elem_key (elem_key x) xs i.0, descending_once xs i.1)

  -- Of an ascending or descending list at most one row has a key.
  key_ascending : {ℓ : Level} (k : Str) (xs : List (PathElem × Value A ℓ)) → Increasing elem_key xs
      → with_key k xs ≡ to_list (lookup elem_key k xs)
  key_ascending k xs i = key_once k xs (ascending_once xs i)

  pub key_descending : {ℓ : Level} (k : Str) (xs : List (PathElem × Value A ℓ)) → Decreasing elem_key xs
      → with_key k xs ≡ to_list (lookup elem_key k xs)
  key_descending k xs i = key_once k xs (descending_once xs i)

  -- The first list with the key has the first row, and the last of the turned ones.
  first_match_row : {ℓ : Level} (k : Str) (ms : List (List Str × List (PrefixMatch × Value A ℓ)))
      → Allˡ (Increasing elem_key) (map with_imports ms)
      → first_lookup elem_key k (map with_imports ms) ≡ first_of (with_key k (flat_map with_imports ms))
  unfolding first_lookup flat_map with_key first_of
  first_match_row k [] i = refl
  first_match_row k (m ∷ ms) i =
      ap₂ or_else (sym (ap first_of (key_ascending k (with_imports m) i.0) ∙ (ends_of (lookup elem_key k (with_imports m))).0)) (first_match_row k ms i.1)
      ∙ sym (ap first_of (key_append k (with_imports m) (flat_map with_imports ms))
      ∙ first_append (with_key k (with_imports m)) (with_key k (flat_map with_imports ms)))

  last_row : {ℓ : Level} (k : Str) (ms : List (List Str × List (PrefixMatch × Value A ℓ)))
      → Allˡ (Increasing elem_key) (map with_imports ms)
      → first_lookup elem_key k (map with_imports ms) ≡ last_opt (with_key k (flat_map with_imports (reverse ms)))
  unfolding first_lookup flat_map with_key last_opt
  last_row k [] i = refl
  last_row k (m ∷ ms) i =
      ap₂ or_else (sym (ap last_opt (key_ascending k (with_imports m) i.0) ∙ (ends_of (lookup elem_key k (with_imports m))).1)) (last_row k ms i.1)
      ∙ sym (ap (λ ℓ. last_opt (with_key k ℓ)) (ap (flat_map with_imports) (reverse-cons m ms) ∙ flatMap_append with_imports (reverse ms) (m ∷ [])
      ∙ ap (λ r. flat_map with_imports (reverse ms) ++ r) (append-nil (with_imports m)))
      ∙ ap last_opt (key_append k (flat_map with_imports (reverse ms)) (with_imports m))
      ∙ last_append (with_key k (flat_map with_imports (reverse ms))) (with_key k (with_imports m)))

  -- ---- what a search gives: descending, and at each key the last row or the first
  pub find_rev_decreasing : {ℓ : Level} (nl : NameList A ℓ) (term : SearchTerm) → OrderedN nl
      → Decreasing elem_key (names_find_rev nl term)
  unfolding names_find_rev
  find_rev_decreasing nl term o = merge_decreasing elem_key (map with_imports (matching_values nl term)) (values_increasing term nl o)

  pub find_rev_at : {ℓ : Level} (nl : NameList A ℓ) (term : SearchTerm) (k : Str) → OrderedN nl
      → lookup elem_key k (names_find_rev nl term) ≡ last_opt (rows_of nl term k)
  unfolding names_find_rev rows_of
  find_rev_at nl term k o =
      merge_at elem_key (map with_imports (matching_values nl term)) (values_increasing term nl o) k
      ∙ last_row k (matching_values nl term) (values_increasing term nl o)

  pub find_first_decreasing : {ℓ : Level} (nl : NameList A ℓ) (term : SearchTerm) → OrderedN nl
      → Decreasing elem_key (names_find_rev_first nl term)
  unfolding names_find_rev_first
  find_first_decreasing nl term o = merge_decreasing elem_key (map with_imports (reverse (matching_values nl term))) (turned_increasing term nl o)

  pub find_first_at : {ℓ : Level} (nl : NameList A ℓ) (term : SearchTerm) (k : Str) → OrderedN nl
      → lookup elem_key k (names_find_rev_first nl term) ≡ first_of (rows_of nl term k)
  unfolding names_find_rev_first rows_of
  find_first_at nl term k o =
      merge_at elem_key (map with_imports (reverse (matching_values nl term))) (turned_increasing term nl o) k
      ∙ first_match_row k (reverse (matching_values nl term)) (turned_increasing term nl o)

  -- ---- the row of a key in one tree
  tree_at : {ℓ : Level} (term : SearchTerm) (bt : Tree A ℓ) (k : Str) → Ordered bt
      → lookup entry_key k (tree_matches term bt)
      ≡ entry (term_prefix term) k (gate (accepts term k) (btree_find_exact bt k))
  unfolding tree_matches lookup starts_with
  tree_at NSTAll bt k o = find_all_row none bt k o
  tree_at NSTNone bt k o = refl
  tree_at (NSTPrefix []) bt k o = find_all_row (some []) bt k o
  tree_at (NSTPrefix (c ∷ p)) bt k o = find_prefix_row bt (c ∷ p) k o

  abbrev under : {ℓ : Level} → List Str → PrefixMatch × Value A ℓ → PathElem × Value A ℓ
  under i x = (record { imports = i; segment = x.0 }, x.1)

  labelled_at : {ℓ : Level} (i : List Str) (k : Str) (m : List (PrefixMatch × Value A ℓ))
      → lookup elem_key k (with_imports (i, m)) ≡ Option.map (under i) (lookup entry_key k m)
  unfolding lookup elem_key entry_key with_imports
  labelled_at i k [] = refl
  labelled_at i k (x ∷ m) = go (same k x.0.completion) (labelled_at i k m)
    where
      go : (b : Bool) → lookup elem_key k (map (under i) m) ≡ Option.map (under i) (lookup entry_key k m)
          → cond b (some (under i x)) (lookup elem_key k (map (under i) m))
          ≡ Option.map (under i) (cond b (some x) (lookup entry_key k m))
      go true e = refl
      go false e = e

  pub tree_rows : {ℓ : Level} (term : SearchTerm) (k : Str) (i : List Str) (bt : Tree A ℓ) → Ordered bt
      → with_key k (with_imports (i, tree_matches term bt))
      ≡ to_list (Option.map {B = PathElem × Value A ℓ} (λ v. (elem term k i, v)) (gate (accepts term k) (btree_find_exact bt k)))
  unfolding with_imports
  tree_rows {ℓ} term k i bt o =
      let m = tree_matches term bt in
      key_ascending k (with_imports (i, m)) (labelled_increasing i m (tree_ascends term bt o))
      ∙ ap to_list (labelled_at i k m ∙ ap (Option.map (under i)) (tree_at term bt k o) ∙ go (gate (accepts term k) (btree_find_exact bt k)))
    where
      go : (o : Option (Value A ℓ)) → Option.map (under i) (entry (term_prefix term) k o)
          ≡ Option.map {B = PathElem × Value A ℓ} (λ v. (elem term k i, v)) o
      go none = refl
      go (some v) = refl

  -- Their values alone.
  pub tree_row : {ℓ : Level} (term : SearchTerm) (k : Str) (i : List Str) (bt : Tree A ℓ) → Ordered bt
      → map (λ x. x.1) (with_key k (with_imports (i, tree_matches term bt)))
      ≡ to_list (gate (accepts term k) (btree_find_exact bt k))
  tree_row {ℓ} term k i bt o = ap (map (λ x. x.1)) (tree_rows term k i bt o) ∙ go (gate (accepts term k) (btree_find_exact bt k))
    where
      go : (o : Option (Value A ℓ))
          → map (λ x. x.1) (to_list (Option.map {B = PathElem × Value A ℓ} (λ v. (elem term k i, v)) o)) ≡ to_list o
      go none = refl
      go (some v) = refl
