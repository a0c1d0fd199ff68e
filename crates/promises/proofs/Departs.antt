-- Where the listing listing-departs from the source's, the theorems: `list_departs`, `listing_departs`.
use Prim.Native.Nat.{ℕ, zero, suc, ◌≤◌}
use mathlib.Core.Path.{◌≡◌, refl, sym, ap, ◌∙◌}
use mathlib.Core.Logic.{inl, inr}
use mathlib.Core.Bool.{true, false, cond, true≢false}
use mathlib.Core.List.{List, [], ◌∷◌, map, reverse, tail, map-id}
use mathlib.Core.Option
use mathlib.Core.Option.{Option, none, some}
use native.Mathlib.Omega.{arith}
use lib.ListN.{length, length-map}
use Rattle.source.specs.Text.{Str, Query, segments}
use Rattle.source.specs.Types.{Level, Value, Trie, NameList, bind, the_item, bindings, namespaces}
use Rattle.source.specs.Trees.{PathElem}
use Rattle.source.specs.Terms.{flatten, holders, first_of, depth}
use Rattle.source.specs.Listing.{PathOf, SearchTerm, of_source, by_first, rev_map_onto, ns_search_term, bindings_search_term, elem_key, names_find_rev}
use Rattle.source.specs.Listing.{names_find_rev_first, trie_find_prefix, trie_find_prefix_first}
use Rattle.source.specs.Table.{Table, Line, last_opt, string_of_path, completion_result_of_lid, completion_result_of_ns_or_mod, autocomplete_lid}
use Rattle.source.specs.Table.{autocomplete_lid_first, autocomplete_mod_or_ns, autocomplete_mod_or_ns_first}
use Rattle.source.specs.Counted.{Counted, one, ◌>>=◌, fold_leftᶜ, find_prefix_fuelᶜ, trie_find_prefix'ᶜ}
use Rattle.source.specs.Rules.{Formed, IsKey, IsLabel, NameItem, ModItem, SoundTrie, SoundTable}
use Rattle.source.specs.Calls.{is_empty}
use Rattle.promises.specs.Agreement.{Covers, without_last, lines_of_text}
use Rattle.promises.specs.Departs.{accepts, to_list, with_key, rows_of, ListDeparts, OneHolderEach, SameRun, OneHolder, SameLine, Departs}
use Rattle.source.specs.Shared.{Allˡ}
use Rattle.source.proofs.Lookup.{Same, same_view, lookup, decreasing_unique, Allˡ-zip}
use Rattle.promises.proofs.Trees.{valof}
use Rattle.source.proofs.Names.{OrderedN}
use Rattle.promises.proofs.Names.{key_descending, find_rev_decreasing, find_rev_at, find_first_decreasing, find_first_at}
use Rattle.promises.proofs.Holders.{rows_hold, first_found}
use Rattle.promises.proofs.Fuel.{fold_leftᶜ_same}
use Rattle.source.proofs.Formed.{formed_parts, formed_orderedN, rows_formed}
use Rattle.promises.proofs.Listed.{source_finds, first_finds, lookup_all, from, along, covers_binding, covers_namespace, covers_tail}
use Rattle.source.proofs.Refusals.{look_up_whole, look_up_segment}
use Rattle.promises.proofs.Agreement.{line_along, look_up_admitted}
use Rattle.source.proofs.Filters.{filter_map_some}

-- ---- one row is the first and the last
one_of : {B : Type 0} (bs : List B) → length bs ≤ 1 → first_of bs ≡ last_opt bs
unfolding first_of last_opt
one_of [] h = refl
one_of (b ∷ []) h = refl
one_of (b ∷ (c ∷ bs)) h = absurd (omega arith)

module _ {A : Type 0} {ℓ : Level} where
  -- The rows of a key have it.
  have_key : (k : Str) (xs : List (PathElem × Value A ℓ)) → Allˡ (λ x. elem_key x ≡ k) (with_key k xs)
  unfolding with_key Same
  have_key k [] = tt
  have_key k (x ∷ xs) = go (same_view k (elem_key x)) (have_key k xs)
    where
      go : Same k (elem_key x) → Allˡ (λ x. elem_key x ≡ k) (with_key k xs)
          → Allˡ (λ x. elem_key x ≡ k) (with_key k (x ∷ xs))
      go (inl (t, e)) a = rw t (sym e, a)
      go (inr (f, _)) a = rw f a

  same_ends : (k : Str) (xs : List (PathElem × Value A ℓ)) → Allˡ (λ x. elem_key x ≡ k) xs
      → Option.map elem_key (first_of xs) ≡ Option.map elem_key (last_opt xs)
  unfolding first_of last_opt
  same_ends k [] a = refl
  same_ends k (x ∷ []) a = refl
  same_ends k (x ∷ (y ∷ xs)) a = ap some (a.0 ∙ sym a.1.0) ∙ same_ends k (y ∷ xs) a.1

  module _ (nl : NameList A ℓ) (term : SearchTerm) (o : OrderedN nl) where
    pub list_departs : ListDeparts nl term
    unfolding rows_of
    list_departs = record {
      same_keys = decreasing_unique elem_key elem_key _ _ (find_first_decreasing nl term o) (find_rev_decreasing nl term o)
          (λ k. ap (Option.map elem_key) (find_first_at nl term k o) ∙ same_ends k (rows_of nl term k) (have_key k _)
          ∙ sym (ap (Option.map elem_key) (find_rev_at nl term k o)));
      by_source = λ k. key_descending k (names_find_rev nl term) (find_rev_decreasing nl term o) ∙ ap to_list (find_rev_at nl term k o);
      by_listing = λ k. key_descending k (names_find_rev_first nl term) (find_first_decreasing nl term o) ∙ ap to_list (find_first_at nl term k o);
      rows_hold = λ k. rows_hold nl term k o;
    }

    -- One holder of each key: the same rows.
    same_rows : ((k : Str) → length (rows_of nl term k) ≤ 1) → names_find_rev_first nl term ≡ names_find_rev nl term
    same_rows h =
        sym (map-id (names_find_rev_first nl term))
        ∙ decreasing_unique elem_key (λ x. x) _ _ (find_first_decreasing nl term o) (find_rev_decreasing nl term o)
        (λ k. ap (Option.map (λ x. x)) (find_first_at nl term k o ∙ one_of (rows_of nl term k) (h k) ∙ sym (find_rev_at nl term k o)))
        ∙ map-id (names_find_rev nl term)

    -- One holder of a key that the term accepts: the same row.
    same_row : (k : Str) → accepts term k ≡ true → length (holders (flatten nl) k) ≤ 1
        → lookup elem_key k (names_find_rev_first nl term) ≡ lookup elem_key k (names_find_rev nl term)
    same_row k e h =
        let held : map (λ x. x.1) (rows_of nl term k) ≡ holders (flatten nl) k = rows_hold nl term k o ∙ ap (λ b. cond b (holders (flatten nl) k) []) e in
        find_first_at nl term k o ∙ one_of (rows_of nl term k) (omega (arith, length-map (rows_of nl term k) (λ x. x.1), ap length held))
        ∙ sym (find_rev_at nl term k o)

-- ---- a run, and the line of a name
module _ {A : Type 0} (Item : A → Type 0) where
  abbrev Fine : Trie A → Type 0
  Fine tr = Formed IsKey IsLabel Item tr

  ordered_bindings : (tr : Trie A) → Fine tr → OrderedN (bindings tr)
  ordered_bindings tr g = formed_orderedN IsKey IsLabel Item (bindings tr) (formed_parts IsKey IsLabel Item tr g).0

  ordered_namespaces : (tr : Trie A) → Fine tr → OrderedN (namespaces tr)
  ordered_namespaces tr g = formed_orderedN IsKey IsLabel Item (namespaces tr) (formed_parts IsKey IsLabel Item tr g).1

  rows_fine : (tr : Trie A) (q : Query) → Fine tr
      → Allˡ (λ y. IsKey (elem_key y) × Fine y.1) (names_find_rev_first (namespaces tr) (ns_search_term q))
  rows_fine tr q g = rows_formed IsKey IsLabel Item (namespaces tr) (ns_search_term q) (formed_parts IsKey IsLabel Item tr g).1

  run_same : (n : ℕ) (tr : Trie A) (path : PathOf) (q : Query) (acc : List (PathOf × A)) → Fine tr
      → OneHolderEach n tr q
      → find_prefix_fuelᶜ by_first n tr path q acc ≡ find_prefix_fuelᶜ of_source n tr path q acc
  unfolding find_prefix_fuelᶜ
  run_same zero tr path q acc g h = refl
  run_same (suc n) tr path q acc g h =
      ap (λ l. l >>= λ acc. one (own (names_find_rev_first (bindings tr) (bindings_search_term q)) acc))
      (fold_leftᶜ_same (λ x. Fine x.1 × OneHolderEach n x.1 (tail q)) _ _ (λ acc x f. run_same n x.1 (x.0 ∷ path) (tail q) acc f.0 f.1) acc
      (names_find_rev_first (namespaces tr) (ns_search_term q))
      (Allˡ-zip (names_find_rev_first (namespaces tr) (ns_search_term q)) (λ x f m. (f.1, m)) (rows_fine tr q g) h.2)
      ∙ ap (fold_leftᶜ below acc) (same_rows (namespaces tr) (ns_search_term q) (ordered_namespaces tr g) h.1))
      ∙ ap (λ rows. fold_leftᶜ below acc (names_find_rev (namespaces tr) (ns_search_term q)) >>= λ acc. one (own rows acc))
      (same_rows (bindings tr) (bindings_search_term q) (ordered_bindings tr g) h.0)
    where
      own : List (PathElem × Value A bind) → List (PathOf × A) → List (PathOf × A)
      own rows acc = rev_map_onto (λ x. (reverse (x.0 ∷ path), the_item x.1)) rows acc

      below : List (PathOf × A) → PathElem × Trie A → Counted (List (PathOf × A))
      below acc x = find_prefix_fuelᶜ of_source n x.1 (x.0 ∷ path) (tail q) acc

  root_run : (tr : Trie A) (q : Query) → Fine tr → SameRun tr q
  unfolding trie_find_prefix'ᶜ
  root_run tr q g h = run_same (suc (depth tr)) tr [] q [] g h

  along_same : (tr : Trie A) (path : PathOf) (q : Query) (s : Str) (name : Query) → Fine tr → Covers q (s ∷ name)
      → OneHolder tr (s ∷ name)
      → along by_first tr path q s name ≡ along of_source tr path q s name
  unfolding along
  along_same tr path q s [] g c h =
      ap (from (λ y. (reverse (y.0 ∷ path), the_item y.1) ∷ []))
      (same_row (bindings tr) (bindings_search_term q) (ordered_bindings tr g) s (covers_binding q s c) h)
  along_same tr path q s (t ∷ name) g c h =
      go (lookup elem_key s rows) refl (first_found (namespaces tr) (ns_search_term q) s (ordered_namespaces tr g) (covers_namespace q s (t ∷ name) c))
      (λ y f k. along_same y.1 (y.0 ∷ path) (tail q) t name f (covers_tail q s (t ∷ name) c) k)
      ∙ ap (from (λ y. along of_source y.1 (y.0 ∷ path) (tail q) t name))
      (same_row (namespaces tr) (ns_search_term q) (ordered_namespaces tr g) s (covers_namespace q s (t ∷ name) c) h.0)
    where
      rows : List (PathElem × Trie A)
      rows = names_find_rev_first (namespaces tr) (ns_search_term q)

      go : (o : Option (PathElem × Trie A)) → lookup elem_key s rows ≡ o
          → valof (lookup elem_key s rows) ≡ first_of (holders (flatten (namespaces tr)) s)
          → ((y : PathElem × Trie A) → Fine y.1 → OneHolder y.1 (t ∷ name)
          → along by_first y.1 (y.0 ∷ path) (tail q) t name ≡ along of_source y.1 (y.0 ∷ path) (tail q) t name)
          → from (λ y. along by_first y.1 (y.0 ∷ path) (tail q) t name) o
          ≡ from (λ y. along of_source y.1 (y.0 ∷ path) (tail q) t name) o
      go none e v ih = refl
      go (some y) e v ih =
          ih y (lookup_all elem_key (λ y. IsKey (elem_key y) × Fine y.1) s rows y (rows_fine tr q g) e).1 (h.1 y.1 (sym v ∙ ap valof e))

  root_line : (f : PathOf × A → Line A) → ((x : PathOf × A) → (f x).candidate ≡ string_of_path x.0) → (tr : Trie A)
      → SoundTrie Item tr → (name query : Str)
      → SameLine tr (map f (trie_find_prefix_first tr (segments query)))
      (map f (trie_find_prefix tr (segments query))) name query
  unfolding is_empty trie_find_prefix trie_find_prefix_first
  root_line f text tr sound name query asked covers one =
      go (segments name) refl (look_up_segment true name (look_up_admitted tr name asked)) covers one
    where
      go : (full : Query) → segments name ≡ full → is_empty full ≡ false → Covers (segments query) full
          → OneHolder tr full
          → lines_of_text (without_last name) (map f (trie_find_prefix_first tr (segments query)))
          ≡ lines_of_text (without_last name) (map f (trie_find_prefix tr (segments query)))
      go [] e h c o = absurd (true≢false h)
      go (s ∷ q) e h c o =
          let whole = look_up_whole true name (look_up_admitted tr name asked) in
          line_along Item f text by_first (first_finds IsKey IsLabel Item) tr sound.formed name query s q e whole
          ∙ ap (map f) (along_same tr [] (segments query) s q sound.formed c o)
          ∙ sym (line_along Item f text of_source (source_finds IsKey IsLabel Item) tr sound.formed name query s q e whole)

pub listing_departs : (tbl : Table) → SoundTable tbl → Departs tbl
unfolding autocomplete_lid autocomplete_lid_first autocomplete_mod_or_ns autocomplete_mod_or_ns_first completion_result_of_lid completion_result_of_ns_or_mod
listing_departs tbl sound = record {
  names_run = λ q. root_run NameItem tbl.tbl_lids q sound.lids.formed;
  modules_run = λ q. root_run ModItem tbl.tbl_mods q sound.mods.formed;
  names_line = λ name query. root_line NameItem completion_result_of_lid (λ x. refl) tbl.tbl_lids sound.lids name query;
  modules_line = λ name query asked covers one.
      rw (filter_map_some (trie_find_prefix_first tbl.tbl_mods (segments query)), filter_map_some (trie_find_prefix tbl.tbl_mods (segments query)))
      (root_line ModItem completion_result_of_ns_or_mod (λ x. refl) tbl.tbl_mods sound.mods name query asked covers one);
}
