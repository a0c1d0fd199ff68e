-- The line at a name, by the rows along it: its path is the name's plain path but for imports, and of imports only the first row's show.
use mathlib.Core.Path.{◌≡◌, refl, sym, ap, ap₂, ◌∙◌}
use mathlib.Core.Bool.{Bool, true, false, false≢true}
use mathlib.Core.List.{List, [], ◌∷◌, map, reverse, reverse_aux, tail, nil≢cons, head-eq_of_cons-eq, tail-eq_of_cons-eq}
use mathlib.Core.Option
use mathlib.Core.Option.{Option, none, some, none-ne-some, some-injective}
use Rattle.source.specs.Text.{Str, Query}
use Rattle.source.specs.Types.{Level, Value, Trie, NameList, bind, the_item, bindings, namespaces}
use Rattle.source.specs.Trees.{PrefixMatch, PathElem}
use Rattle.source.specs.Tries.{names_find_exact}
use Rattle.source.specs.Terms.{first_of}
use Rattle.source.specs.Listing.{PathOf, SearchTerm, fold_left, by_first, elem_key, names_find_rev_first, ns_search_term, bindings_search_term}
use Rattle.source.specs.Table.{Matched, match_elem, match_length_of_path, string_of_path, first_import_of_path, last_opt, completion_result_of_lid}
use Rattle.source.specs.Rules.{Formed}
use Rattle.source.specs.Shared.{Allˡ}
use Rattle.source.specs.declared.LidSymbol.{LidSymbol}
use Rattle.promises.specs.Agreement.{Covers}
use Rattle.promises.specs.Departs.{accepts}
use Rattle.promises.specs.Moved.{plain_path}
use Rattle.source.proofs.Formed.{formed_orderedN, formed_parts, rows_formed}
use Rattle.source.proofs.Lookup.{lookup, Allˡ-map}
use Rattle.source.proofs.Names.{OrderedN, map_reverse}
use Rattle.source.proofs.Paths.{first_import_more}
use Rattle.promises.proofs.Trees.{gate}
use Rattle.promises.proofs.Names.{term_prefix, find_exact_is_first}
use Rattle.promises.proofs.Holders.{holders_in, holders_in_values, row, first_row_at}
use Rattle.promises.proofs.Listed.{from, along, lookup_all}
use Rattle.promises.proofs.LinesFound.{binding_covers, namespace_covers}

-- What of a path its elements matched: all but the imports.
abbrev pub matches : PathOf → List PrefixMatch
matches p = map (λ el. el.segment) p

-- ---- a line says no more of its path than this and the first import
fold_matches : (m : Matched) (p p' : PathOf) → matches p ≡ matches p'
    → fold_left match_elem m p ≡ fold_left match_elem m p'
unfolding fold_left match_elem
fold_matches m [] [] e = refl
fold_matches m [] (y ∷ p') e = absurd (nil≢cons e)
fold_matches m (x ∷ p) [] e = absurd (nil≢cons (sym e))
fold_matches m (x ∷ p) (y ∷ p') e =
    let h : x.segment ≡ y.segment = head-eq_of_cons-eq e in
    rw h (fold_matches (match_elem m y) p p' (tail-eq_of_cons-eq e))

pub match_length_matches : (p p' : PathOf) → matches p ≡ matches p' → match_length_of_path p ≡ match_length_of_path p'
unfolding match_length_of_path
match_length_matches p p' e = rw (fold_matches _ p p' e)

pub keys_matches : (p p' : PathOf) → matches p ≡ matches p'
    → map (λ el. el.segment.completion) p ≡ map (λ el. el.segment.completion) p'
keys_matches [] [] e = refl
keys_matches [] (y ∷ p') e = absurd (nil≢cons e)
keys_matches (x ∷ p) [] e = absurd (nil≢cons (sym e))
keys_matches (x ∷ p) (y ∷ p') e = ap₂ ◌∷◌ (ap (λ m. m.completion) (head-eq_of_cons-eq e)) (keys_matches p p' (tail-eq_of_cons-eq e))

pub line_matches : (p p' : PathOf) (i : LidSymbol) → matches p ≡ matches p'
    → first_import_of_path p ≡ first_import_of_path p'
    → completion_result_of_lid (p, i) ≡ completion_result_of_lid (p', i)
unfolding completion_result_of_lid string_of_path
line_matches p p' i e f = rw (match_length_matches p p' e, keys_matches p p' e, f)

pub plain_path_import : (query name : Query) → first_import_of_path (plain_path query name) ≡ none
unfolding first_import_of_path plain_path last_opt
plain_path_import query [] = refl
plain_path_import query (s ∷ name) = refl

-- ---- what a query matches of a row's key
binding_prefix : (q : Query) (s : Str) → accepts (bindings_search_term q) s ≡ true
    → term_prefix (bindings_search_term q) ≡ first_of q
unfolding bindings_search_term first_of
binding_prefix [] s e = refl
binding_prefix (p ∷ []) s e = refl
binding_prefix (p ∷ (p' ∷ q)) s e = absurd (false≢true e)

namespace_prefix : (q : Query) → term_prefix (ns_search_term q) ≡ first_of q
unfolding ns_search_term first_of
namespace_prefix [] = refl
namespace_prefix (p ∷ q) = refl

module _ {A : Type 0} where
  -- ---- rows
  -- The row of a key that is found: the term takes the key, and the row says how.
  row_seen : {ℓ : Level} (nl : NameList A ℓ) (term : SearchTerm) (s : Str) → OrderedN nl → (y : PathElem × Value A ℓ)
      → lookup elem_key s (names_find_rev_first nl term) ≡ some y
      → (accepts term s ≡ true) × (y.0.segment ≡ record { prefix = term_prefix term; completion = s })
  row_seen {ℓ} nl term s o y e = go (accepts term s) (first_of (holders_in [] nl s)) (sym (first_row_at nl term s o) ∙ e)
    where
      go : (b : Bool) (h : Option (List Str × Value A ℓ)) → gate b (Option.map (row term s) h) ≡ some y
          → (b ≡ true) × (y.0.segment ≡ record { prefix = term_prefix term; completion = s })
      go true none e = absurd (none-ne-some y e)
      go true (some x) e = (refl, ap (λ z. z.0.segment) (sym (some-injective _ _ e)))
      go false h e = absurd (none-ne-some y e)

  -- Lists with the same holders of a key have the same row of it, and look-up finds the same there.
  pub row_same : {ℓ : Level} (nl nl' : NameList A ℓ) (term : SearchTerm) (s : Str) → OrderedN nl → OrderedN nl'
      → holders_in [] nl' s ≡ holders_in [] nl s
      → lookup elem_key s (names_find_rev_first nl' term) ≡ lookup elem_key s (names_find_rev_first nl term)
  row_same nl nl' term s o o' e =
      first_row_at nl' term s o' ∙ ap (λ h. gate (accepts term s) (Option.map (row term s) (first_of h))) e ∙ sym (first_row_at nl term s o)

  pub find_same : {ℓ : Level} (nl nl' : NameList A ℓ) (s : Str) → holders_in [] nl' s ≡ holders_in [] nl s
      → names_find_exact nl' s ≡ names_find_exact nl s
  find_same {ℓ} nl nl' s e = first nl' ∙ ap (λ h. first_of (map (λ x. x.1) h)) e ∙ sym (first nl)
    where
      first : (nl : NameList A ℓ) → names_find_exact nl s ≡ first_of (map (λ x. x.1) (holders_in [] nl s))
      first nl = find_exact_is_first nl s ∙ ap first_of (sym (holders_in_values [] nl s))

  -- ---- what each row along a name gives
  module _ (P : PathOf × A → Type 0) (tr : Trie A) (path : PathOf) (q : Query) (s : Str) where
    pub each_last : ((y : PathElem × Value A bind)
        → lookup elem_key s (names_find_rev_first (bindings tr) (bindings_search_term q)) ≡ some y
        → P (reverse (y.0 ∷ path), the_item y.1)) → Allˡ P (along by_first tr path q s [])
    unfolding along
    each_last h = go (lookup elem_key s (names_find_rev_first (bindings tr) (bindings_search_term q))) h
      where
        go : (o : Option (PathElem × Value A bind))
            → ((y : PathElem × Value A bind) → o ≡ some y → P (reverse (y.0 ∷ path), the_item y.1))
            → Allˡ P (from (λ y. (reverse (y.0 ∷ path), the_item y.1) ∷ []) o)
        go none h = tt
        go (some y) h = (h y refl, tt)

    pub each_next : (t : Str) (name : Query) → ((y : PathElem × Trie A)
        → lookup elem_key s (names_find_rev_first (namespaces tr) (ns_search_term q)) ≡ some y
        → Allˡ P (along by_first y.1 (y.0 ∷ path) (tail q) t name)) → Allˡ P (along by_first tr path q s (t ∷ name))
    unfolding along
    each_next t name h = go (lookup elem_key s (names_find_rev_first (namespaces tr) (ns_search_term q))) h
      where
        go : (o : Option (PathElem × Trie A))
            → ((y : PathElem × Trie A) → o ≡ some y → Allˡ P (along by_first y.1 (y.0 ∷ path) (tail q) t name))
            → Allˡ P (from (λ y. along by_first y.1 (y.0 ∷ path) (tail q) t name) o)
        go none h = tt
        go (some y) h = h y refl

  -- ---- imports: those of the outermost row alone
  abbrev pub ImportIs : Option Str → PathOf × A → Type 0
  ImportIs o x = first_import_of_path x.0 ≡ o

  pub along_import : (tr : Trie A) (outer : PathElem) (path : PathOf) (q : Query) (s : Str) (name : Query)
      → Allˡ (ImportIs (first_import_of_path (reverse (outer ∷ path)))) (along by_first tr (outer ∷ path) q s name)
  along_import tr outer path q s [] = each_last (ImportIs _) tr (outer ∷ path) q s (λ y e. first_import_more y.0 outer path)
  along_import tr outer path q s (t ∷ name) =
      each_next (ImportIs _) tr (outer ∷ path) q s t name (λ y e. rw (← first_import_more y.0 outer path)
      (along_import y.1 y.0 (outer ∷ path) (tail q) t name))

  -- ---- the path of a line: but for imports it is the name's plain path, and the query covers the name
  abbrev pub Plain : PathOf → (query name : Query) → PathOf × A → Type 0
  Plain path q name x = (matches x.0 ≡ reverse_aux (matches path) (matches (plain_path q name))) × Covers q name

  module _ (Key Label : Str → Type 0) (Item : A → Type 0) where
    pub along_plain : (tr : Trie A) (path : PathOf) (q : Query) (s : Str) (name : Query) → Formed Key Label Item tr
        → Allˡ (Plain path q (s ∷ name)) (along by_first tr path q s name)
    unfolding plain_path
    along_plain tr path q s [] g = each_last (Plain path q (s ∷ [])) tr path q s line
      where
        line : (y : PathElem × Value A bind)
            → lookup elem_key s (names_find_rev_first (bindings tr) (bindings_search_term q)) ≡ some y
            → Plain path q (s ∷ []) (reverse (y.0 ∷ path), the_item y.1)
        line y e =
            let r = row_seen (bindings tr) (bindings_search_term q) s (formed_orderedN Key Label Item (bindings tr) (formed_parts Key Label Item tr g).0) y e in
            let z : y.0.segment ≡ record { prefix = first_of q; completion = s } =
            r.1 ∙ ap (λ p. record { prefix = p; completion = s }) (binding_prefix q s r.0) in
            (map_reverse (λ el. el.segment) path (y.0 ∷ []) ∙ ap (λ m. reverse_aux (matches path) (m ∷ [])) z, binding_covers q s r.0)
    along_plain tr path q s (t ∷ name) g =
        each_next (Plain path q (s ∷ (t ∷ name))) tr path q s t name (λ y e. below y e (λ f. along_plain y.1 (y.0 ∷ path) (tail q) t name f))
      where
        below : (y : PathElem × Trie A)
            → lookup elem_key s (names_find_rev_first (namespaces tr) (ns_search_term q)) ≡ some y
            → (Formed Key Label Item y.1
            → Allˡ (Plain (y.0 ∷ path) (tail q) (t ∷ name)) (along by_first y.1 (y.0 ∷ path) (tail q) t name))
            → Allˡ (Plain path q (s ∷ (t ∷ name))) (along by_first y.1 (y.0 ∷ path) (tail q) t name)
        below y e ih =
            let f = (formed_parts Key Label Item tr g).1 in
            let r = row_seen (namespaces tr) (ns_search_term q) s (formed_orderedN Key Label Item (namespaces tr) f) y e in
            let z : y.0.segment ≡ record { prefix = first_of q; completion = s } = r.1 ∙ ap (λ p. record { prefix = p; completion = s }) (namespace_prefix q) in
            Allˡ-map {P = Plain (y.0 ∷ path) (tail q) (t ∷ name)} {Q = Plain path q (s ∷ (t ∷ name))} (along by_first y.1 (y.0 ∷ path) (tail q) t name)
            (λ x i. (i.0 ∙ ap (λ m. reverse_aux (matches path) (m ∷ matches (plain_path (tail q) (t ∷ name)))) z, namespace_covers q s (t ∷ name) r.0 i.1))
            (ih (lookup_all elem_key (λ y. Key (elem_key y) × Formed Key Label Item y.1) s
            (names_find_rev_first (namespaces tr) (ns_search_term q)) y (rows_formed Key Label Item (namespaces tr) (ns_search_term q) f) e).1)
