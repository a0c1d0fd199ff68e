-- The rows of a key are those of its holders, in flattened order.
use mathlib.Core.Path.{◌≡◌, refl, sym, ap, ap₂, ◌∙◌}
use mathlib.Core.Bool.{Bool, true, false, cond}
use mathlib.Core.List.{List, [], ◌∷◌, ◌++◌, map, flat_map, reverse, map-append, map-map, reverse-reverse}
use mathlib.Core.Option
use mathlib.Core.Option.{Option, none, some}
use Rattle.source.specs.Text.{Str}
use Rattle.source.specs.Types.{Level, Value, Tree, NameList, StrEmpty, []ᴺ, Names, ImportedNames}
use Rattle.source.specs.Tries.{names_find_exact, names_insert}
use Rattle.source.specs.Trees.{PathElem, btree_find_exact, btree_insert_replace}
use Rattle.source.specs.Terms.{flatten, found_onto, holders, first_of}
use Rattle.source.specs.Listing.{SearchTerm, NSTAll, NSTNone, NSTPrefix, matching_values, with_imports, elem_key, names_find_rev_first}
use Rattle.promises.specs.Departs.{accepts, to_list, with_key, rows_of}
use Rattle.source.specs.Forward.{tree_matches, flat_in, flat}
use Rattle.source.proofs.Elsewhere.{names_find_other}
use Rattle.source.proofs.Imports.{find_inserted}
use Rattle.source.proofs.Lookup.{lookup, or_else_none}
use Rattle.promises.proofs.Trees.{gate, valof}
use Rattle.source.proofs.Lines.{flatMap_append, flatMap_map}
use Rattle.source.proofs.Names.{OrderedN, values_none}
use Rattle.promises.proofs.Names.{elem, holders_append, key_append, find_first_at, tree_rows, value_of_first}
use Rattle.source.proofs.Flat.{values_all_is, values_prefix_is}

module _ {A : Type 0} {ℓ : Level} where
  abbrev rows_in : SearchTerm → List Str → NameList A ℓ → List (PathElem × Value A ℓ)
  rows_in term imports nl = flat_map (λ x. with_imports (x.0, tree_matches term x.1)) (flat_in imports nl)

  turned_rows : (term : SearchTerm) (nl : NameList A ℓ)
      → matching_values nl term ≡ reverse (map (λ x. (x.0, tree_matches term x.1)) (flat nl))
      → flat_map with_imports (reverse (matching_values nl term)) ≡ rows_in term [] nl
  turned_rows term nl e =
      ap (λ ms. flat_map with_imports (reverse ms)) e ∙ ap (flat_map with_imports) (reverse-reverse (map (λ x. (x.0, tree_matches term x.1)) (flat nl)))
      ∙ flatMap_map with_imports (λ x. (x.0, tree_matches term x.1)) (flat nl)

  no_rows : (ts : List (List Str × Tree A ℓ)) → flat_map (λ x. with_imports (x.0, tree_matches NSTNone x.1)) ts ≡ []
  unfolding flat_map with_imports tree_matches
  no_rows [] = refl
  no_rows (t ∷ ts) = no_rows ts

  rows_are : (nl : NameList A ℓ) (term : SearchTerm) (k : Str) → rows_of nl term k ≡ with_key k (rows_in term [] nl)
  unfolding rows_of flat_map
  rows_are nl NSTAll k = ap (with_key k) (turned_rows NSTAll nl (values_all_is nl))
  rows_are nl NSTNone k = ap (with_key k) (rw (values_none nl) (sym (no_rows (flat nl))))
  rows_are nl (NSTPrefix p) k = ap (with_key k) (turned_rows (NSTPrefix p) nl (values_prefix_is nl p))

  -- ---- with their imports
  abbrev held_onto : List Str → Option (Value A ℓ) → List (List Str × Value A ℓ) → List (List Str × Value A ℓ)
  held_onto i none vs = vs
  held_onto i (some v) vs = (i, v) ∷ vs

  -- The holders of a key with their imports, the innermost first, in flattened order.
  unfoldable pub holders_in : List Str → NameList A ℓ → Str → List (List Str × Value A ℓ)
  holders_in i []ᴺ k = []
  holders_in i (Names bt tl) k = held_onto i (btree_find_exact bt k) (holders_in i tl k)
  holders_in i (ImportedNames label inner tl) k = holders_in (label ∷ i) inner k ++ holders_in i tl k

  pub holders_in_values : (i : List Str) (nl : NameList A ℓ) (k : Str)
      → map (λ x. x.1) (holders_in i nl k) ≡ holders (flatten nl) k
  unfolding holders_in flatten holders found_onto
  holders_in_values i []ᴺ k = refl
  holders_in_values i (Names bt tl) k = go (btree_find_exact bt k) (holders_in_values i tl k)
    where
      go : (o : Option (Value A ℓ)) → map (λ x. x.1) (holders_in i tl k) ≡ holders (flatten tl) k
          → map (λ x. x.1) (held_onto i o (holders_in i tl k)) ≡ found_onto o (holders (flatten tl) k)
      go none e = e
      go (some v) e = ap (◌∷◌ v) e
  holders_in_values i (ImportedNames label inner tl) k =
      map-append (λ x. x.1) (holders_in (label ∷ i) inner k) (holders_in i tl k)
      ∙ ap₂ ◌++◌ (holders_in_values (label ∷ i) inner k) (holders_in_values i tl k) ∙ sym (holders_append (flatten inner) (flatten tl) k)

  -- ---- the rows of a key
  abbrev pub row : SearchTerm → Str → List Str × Value A ℓ → PathElem × Value A ℓ
  row term k x = (elem term k x.0, x.1)

  hold_in : (term : SearchTerm) (k : Str) (i : List Str) (nl : NameList A ℓ) → OrderedN nl
      → with_key k (rows_in term i nl) ≡ cond (accepts term k) (map (row term k) (holders_in i nl k)) []
  unfolding flat_in holders_in flat_map with_key
  hold_in term k i []ᴺ o = sym (go (accepts term k))
    where
      go : (b : Bool) → cond {A = List (PathElem × Value A ℓ)} b [] [] ≡ []
      go true = refl
      go false = refl
  hold_in term k i (Names bt tl) o =
      key_append k (with_imports (i, tree_matches term bt)) (rows_in term i tl)
      ∙ ap₂ ◌++◌ (tree_rows term k i bt o.0) (hold_in term k i tl o.1) ∙ go (accepts term k) (btree_find_exact bt k)
    where
      go : (b : Bool) (v : Option (Value A ℓ))
          → to_list (Option.map (λ v. row term k (i, v)) (gate b v)) ++ cond b (map (row term k) (holders_in i tl k)) []
          ≡ cond b (map (row term k) (held_onto i v (holders_in i tl k))) []
      go true none = refl
      go true (some v) = refl
      go false v = refl
  hold_in term k i (ImportedNames label inner tl) o =
      ap (with_key k) (flatMap_append (λ x. with_imports (x.0, tree_matches term x.1)) (flat_in (label ∷ i) inner) (flat_in i tl))
      ∙ key_append k (rows_in term (label ∷ i) inner) (rows_in term i tl)
      ∙ ap₂ ◌++◌ (hold_in term k (label ∷ i) inner o.0) (hold_in term k i tl o.1) ∙ go (accepts term k)
    where
      go : (b : Bool) → cond b (map (row term k) (holders_in (label ∷ i) inner k)) []
          ++ cond b (map (row term k) (holders_in i tl k)) []
          ≡ cond b (map (row term k) (holders_in (label ∷ i) inner k ++ holders_in i tl k)) []
      go true = sym (map-append (row term k) (holders_in (label ∷ i) inner k) (holders_in i tl k))
      go false = refl

  pub rows_hold_in : (nl : NameList A ℓ) (term : SearchTerm) (k : Str) → OrderedN nl
      → rows_of nl term k ≡ cond (accepts term k) (map (row term k) (holders_in [] nl k)) []
  rows_hold_in nl term k o = rows_are nl term k ∙ hold_in term k [] nl o

  pub rows_hold : (nl : NameList A ℓ) (term : SearchTerm) (k : Str) → OrderedN nl
      → map (λ x. x.1) (rows_of nl term k) ≡ cond (accepts term k) (holders (flatten nl) k) []
  rows_hold nl term k o = ap (map (λ x. x.1)) (rows_hold_in nl term k o) ∙ go (accepts term k)
    where
      go : (b : Bool)
          → map (λ x. x.1) (cond b (map (row term k) (holders_in [] nl k)) []) ≡ cond b (holders (flatten nl) k) []
      go true = map-map (λ x. x.1) (row term k) (holders_in [] nl k) ∙ holders_in_values [] nl k
      go false = refl

  -- What the listing finds of a key that the term accepts.
  pub first_found : (nl : NameList A ℓ) (term : SearchTerm) (k : Str) → OrderedN nl → accepts term k ≡ true
      → valof (lookup elem_key k (names_find_rev_first nl term)) ≡ first_of (holders (flatten nl) k)
  first_found nl term k o e =
      ap valof (find_first_at nl term k o) ∙ value_of_first (rows_of nl term k)
      ∙ ap first_of (rows_hold nl term k o ∙ ap (λ b. cond b (holders (flatten nl) k) []) e)

  -- The row that a search gives at a key is that of the first holder.
  pub first_row_at : (nl : NameList A ℓ) (term : SearchTerm) (k : Str) → OrderedN nl
      → lookup elem_key k (names_find_rev_first nl term)
      ≡ gate (accepts term k) (Option.map (row term k) (first_of (holders_in [] nl k)))
  unfolding first_of
  first_row_at nl term k o = find_first_at nl term k o ∙ ap first_of (rows_hold_in nl term k o) ∙ go (accepts term k) (holders_in [] nl k)
    where
      go : (b : Bool) (xs : List (List Str × Value A ℓ))
          → first_of (cond b (map (row term k) xs) []) ≡ gate b (Option.map (row term k) (first_of xs))
      go true [] = refl
      go true (x ∷ xs) = refl
      go false xs = refl

  -- ---- after an insert
  -- The inserted value is the first holder, in no import; other keys have the holders that they had.
  pub holder_inserted : (nl : NameList A ℓ) (k : Str) (v : Value A ℓ)
      → first_of (holders_in [] (names_insert nl k v) k) ≡ some ([], v)
  unfolding names_insert holders_in first_of
  holder_inserted []ᴺ k v = rw (find_inserted StrEmpty k v)
  holder_inserted (Names bt tl) k v = rw (find_inserted bt k v)
  holder_inserted (ImportedNames label inner tl) k v = rw (find_inserted StrEmpty k v)

  tree_other : (bt : Tree A ℓ) (k j : Str) (v : Value A ℓ) → (j ≡ k → ⊥)
      → btree_find_exact (btree_insert_replace bt k v) j ≡ btree_find_exact bt j
  unfolding names_insert names_find_exact
  tree_other bt k j v n = sym (or_else_none _) ∙ names_find_other (Names bt []ᴺ) k j v n ∙ or_else_none (btree_find_exact bt j)

  pub holders_other : (nl : NameList A ℓ) (k j : Str) (v : Value A ℓ) → (j ≡ k → ⊥)
      → holders_in [] (names_insert nl k v) j ≡ holders_in [] nl j
  unfolding names_insert holders_in btree_find_exact
  holders_other []ᴺ k j v n = rw (tree_other StrEmpty k j v n)
  holders_other (Names bt tl) k j v n = rw (tree_other bt k j v n)
  holders_other (ImportedNames label inner tl) k j v n = rw (tree_other StrEmpty k j v n)
