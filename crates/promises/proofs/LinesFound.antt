-- Each line of a listing is what look-up finds, the theorem: `lines_found`.
use Prim.Native.Nat.{ℕ, zero, suc, ◌≤◌, ◌<◌}
use mathlib.Core.Path.{◌≡◌, refl, sym, ap, ◌∙◌, subst}
use mathlib.Core.Bool.{Bool, true, false, cond, false≢true}
use mathlib.Core.List.{List, [], ◌∷◌, ◌++◌, map, reverse_aux, tail, append_assoc}
use mathlib.Core.Option.{none, some, none-ne-some}
use native.Mathlib.Omega.{arith}
use borrow.Author.Tests.{ne_eqb, le-ltb}
use lib.Dec.{ltb}
use lib.ListN.{length}
use Rattle.source.specs.Limits.{longest_name, most_segments}
use Rattle.source.specs.Text.{Str, Query, dot, onto_first, segments, ends_in_dot, query_to_string, name_byte, query_byte}
use Rattle.source.specs.Types.{Level, Value, Trie, NameList, bind, the_item, bindings, namespaces}
use Rattle.source.specs.Trees.{PathElem}
use Rattle.source.specs.Tries.{bind_option, trie_find_exact}
use Rattle.source.specs.Terms.{flatten, holders, first_of, depth, depth_names, walk_first}
use Rattle.source.specs.Listing.{PathOf, SearchTerm, by_first, elem_key, names_find_rev_first, ns_search_term, bindings_search_term, find_prefix_fuel}
use Rattle.source.specs.Listing.{trie_find_prefix', trie_find_prefix_first}
use Rattle.source.specs.Table.{Line, string_of_path, completion_result_of_lid, completion_result_of_ns_or_mod, autocomplete_lid_first}
use Rattle.source.specs.Rules.{all, Formed, FormedNames, IsKey, IsLabel, NameItem, ModItem, SoundTrie}
use Rattle.source.specs.Calls.{found, found_of, look_up, kept, keeps, keeps_kind, complete, complete_modules, first_row, argument_rows, a_look_up}
use Rattle.source.specs.Calls.{is_empty, any, bad_query, long_query, malformed, empty_name, too_long}
use Rattle.source.specs.Queries.{IsQuery}
use Rattle.source.specs.Shared.{Allˡ}
use Rattle.promises.specs.Departs.{accepts, rows_of}
use Rattle.promises.specs.Agreement.{Covers, full_name, EachFound, LinesFound}
use Rattle.source.proofs.Filters.{all_listed}
use Rattle.source.proofs.Formed.{formed_orderedN, formed_parts, rows_formed}
use Rattle.source.proofs.Lookup.{lookup, lookup_hit, lookup_miss, lt_ne, Decreasing, Allˡ-map, Allˡ-zip}
use Rattle.source.proofs.Names.{OrderedN}
use Rattle.source.proofs.Paths.{keys}
use Rattle.source.proofs.Queries.{all_append, query_to_string_label, segments_dot, segments_other}
use Rattle.source.proofs.Refusals.{none_first_row}
use Rattle.source.proofs.Rows.{names_find_first_depth}
use Rattle.promises.proofs.Trees.{valof}
use Rattle.promises.proofs.Names.{find_first_at, find_first_decreasing, value_of_first}
use Rattle.promises.proofs.Holders.{rows_hold}
use Rattle.promises.proofs.Listed.{look_up_is_walk}
use Rattle.promises.proofs.ListedTexts.{NoDot, rev_map_all, fold_all}
use Rattle.promises.proofs.Agreement.{key_no_dot, completed_lines}

-- ---- the rows of a list are its first holders
lookup_each : {B : Type 0} (key : B → Str) (xs : List B) → Decreasing key xs
    → Allˡ (λ y. lookup key (key y) xs ≡ some y) xs
lookup_each key [] d = tt
lookup_each key (x ∷ xs) d = (
  lookup_hit key x xs,
  Allˡ-zip xs (λ y b e. lookup_miss key (key y) x xs (lt_ne (key y) (key x) b) ∙ e) d.0 (lookup_each key xs d.1),
)

module _ {A : Type 0} {ℓ : Level} where
  -- A row's key passes the term, and its value is the first holder's.
  abbrev Holds : NameList A ℓ → SearchTerm → PathElem × Value A ℓ → Type 0
  Holds nl term y = (accepts term (elem_key y) ≡ true) × (first_of (holders (flatten nl) (elem_key y)) ≡ some y.1)

  rows_first : (nl : NameList A ℓ) (term : SearchTerm) → OrderedN nl
      → Allˡ (Holds nl term) (names_find_rev_first nl term)
  unfolding first_of
  rows_first nl term o = Allˡ-map (names_find_rev_first nl term) row (lookup_each elem_key (names_find_rev_first nl term) (find_first_decreasing nl term o))
    where
      row : (y : PathElem × Value A ℓ) → lookup elem_key (elem_key y) (names_find_rev_first nl term) ≡ some y
          → Holds nl term y
      row y e = go (accepts term (elem_key y)) (sym (ap first_of (rows_hold nl term (elem_key y) o)) ∙ sym (value_of_first (rows_of nl term (elem_key y)))
          ∙ ap valof (sym (find_first_at nl term (elem_key y) o) ∙ e))
        where
          go : (b : Bool) → first_of (cond b (holders (flatten nl) (elem_key y)) []) ≡ some y.1
              → (b ≡ true) × (first_of (holders (flatten nl) (elem_key y)) ≡ some y.1)
          go true h = (refl, h)
          go false h = absurd (none-ne-some y.1 h)

-- ---- covering
pub binding_covers : (q : Query) (s : Str) → accepts (bindings_search_term q) s ≡ true → Covers q (s ∷ [])
unfolding bindings_search_term
binding_covers [] s e = tt
binding_covers (p ∷ []) s e = (e, tt)
binding_covers (p ∷ (p' ∷ q)) s e = absurd (false≢true e)

pub namespace_covers : (q : Query) (s : Str) (name : Query) → accepts (ns_search_term q) s ≡ true → Covers (tail q) name
    → Covers q (s ∷ name)
unfolding ns_search_term
namespace_covers [] s name e c = tt
namespace_covers (p ∷ q) s name e c = (e, c)

-- ---- the way to a line
module _ {A : Type 0} (Key Label : Str → Type 0) (Item : A → Type 0) where
  -- A name that a query lists in a trie: keys, at most one more than the trie is deep, covered, and the walk ends at the item.
  record Leads (tr : Trie A) (q : Query) (name : Query) (a : A) : Type 0 where
    keyed : Allˡ Key name
    few : length name ≤ suc (depth tr)
    covers : Covers q name
    ends : (v : Value A bind) × (walk_first tr name ≡ some v) × (the_item v ≡ a)

  leads_binding : (tr : Trie A) (q : Query) (k : Str) (v : Value A bind) → Key k
      → accepts (bindings_search_term q) k ≡ true → first_of (holders (flatten (bindings tr)) k) ≡ some v
      → Leads tr q (k ∷ []) (the_item v)
  unfolding walk_first
  leads_binding tr q k v g e h = record { keyed = (g, tt); few = omega arith; covers = binding_covers q k e; ends = (v, h, refl) }

  leads_namespace : (tr child : Trie A) (q : Query) (k : Str) (name : Query) (a : A) → Key k → depth child < depth tr
      → accepts (ns_search_term q) k ≡ true → first_of (holders (flatten (namespaces tr)) k) ≡ some child
      → Leads child (tail q) name a → Leads tr q (k ∷ name) a
  unfolding walk_first bind_option
  leads_namespace tr child q k name a g d e h w = record {
    keyed = (g, w.keyed);
    few = omega (arith, w.few);
    covers = namespace_covers q k name e w.covers;
    ends = (w.ends.0, walk name w.ends.0 w.ends.1, w.ends.2);
  }
    where
      walk : (m : Query) (v : Value A bind) → walk_first child m ≡ some v → walk_first tr (k ∷ m) ≡ some v
      walk [] v i = absurd (none-ne-some v i)
      walk (t ∷ m) v i = rw h i

  -- What a row of a formed list keeps.
  abbrev RowFine : {ℓ : Level} → NameList A ℓ → SearchTerm → PathElem × Value A ℓ → Type 0
  RowFine nl term y = (Key (elem_key y) × Formed Key Label Item y.1) × Holds nl term y

  rows_fine : {ℓ : Level} (nl : NameList A ℓ) (term : SearchTerm) → FormedNames Key Label Item nl
      → Allˡ (RowFine nl term) (names_find_rev_first nl term)
  rows_fine nl term g =
      Allˡ-zip (names_find_rev_first nl term) (λ y k h. (k, h)) (rows_formed Key Label Item nl term g)
      (rows_first nl term (formed_orderedN Key Label Item nl g))

  -- Where each way below a path gives a line that is fine, all lines that the listing adds are fine.
  lines_lead : (P : PathOf × A → Type 0) (n : ℕ) (tr : Trie A) (path : PathOf) (q : Query) (acc : List (PathOf × A))
      → Formed Key Label Item tr
      → ((p : PathOf) (a : A) → Leads tr q (keys p) a → P (reverse_aux path p, a)) → Allˡ P acc
      → Allˡ P (find_prefix_fuel by_first n tr path q acc)
  unfolding find_prefix_fuel elem_key
  lines_lead P zero tr path q acc g f a = a
  lines_lead P (suc n) tr path q acc g f a =
      rev_map_all P _ (names_find_rev_first (bindings tr) (bindings_search_term q)) _
      (Allˡ-map (names_find_rev_first (bindings tr) (bindings_search_term q)) line
      (rows_fine (bindings tr) (bindings_search_term q) parts.0))
      (fold_all P _ Below (names_find_rev_first (namespaces tr) (ns_search_term q)) acc
      (λ acc y h b. lines_lead P n y.1 (y.0 ∷ path) (tail q) acc h.0.0.1 (below y h) b)
      (Allˡ-zip (names_find_rev_first (namespaces tr) (ns_search_term q)) (λ y h d. (h, omega (arith, d, parts.2)))
      (rows_fine (namespaces tr) (ns_search_term q) parts.1) (names_find_first_depth (namespaces tr) (ns_search_term q)))
      a)
    where
      parts : FormedNames Key Label Item (bindings tr) × FormedNames Key Label Item (namespaces tr)
          × (depth tr ≡ depth_names (namespaces tr))
      parts = formed_parts Key Label Item tr g

      line : (y : PathElem × Value A bind) → RowFine (bindings tr) (bindings_search_term q) y
          → P (reverse_aux path (y.0 ∷ []), the_item y.1)
      line y (k, (e, h)) = f (y.0 ∷ []) (the_item y.1) (leads_binding tr q (elem_key y) y.1 k.0 e h)

      Below : PathElem × Trie A → Type 0
      Below y = RowFine (namespaces tr) (ns_search_term q) y × (depth y.1 < depth tr)

      below : (y : PathElem × Trie A) → Below y → (p : PathOf) (a : A) → Leads y.1 (tail q) (keys p) a
          → P (reverse_aux path (y.0 ∷ p), a)
      below y ((k, (e, h)), d) p a w = f (y.0 ∷ p) a (leads_namespace tr y.1 q (elem_key y) (keys p) a k.0 d e h w)

-- ---- the text of a name
pub segments_first : (s t : Str) → NoDot s → segments (s ++ (dot ∷ t)) ≡ s ∷ segments t
unfolding onto_first
segments_first [] t n = segments_dot dot t refl
segments_first (b ∷ s) t n = segments_other b (s ++ (dot ∷ t)) (ne_eqb b dot n.0) ∙ ap (onto_first b) (segments_first s t n.1)

-- A name joined by dots, with a dot after it, has the segments of the name.
pub segments_joined : (s : Str) (q : Query) → Allˡ NoDot (s ∷ q)
    → segments (query_to_string (s ∷ q) ++ (dot ∷ [])) ≡ s ∷ q
unfolding query_to_string segments
segments_joined s [] n = segments_first s [] n.0
segments_joined s (t ∷ q) n =
    ap segments (append_assoc s (dot ∷ query_to_string (t ∷ q)) (dot ∷ [])) ∙ segments_first s _ n.0 ∙ ap (◌∷◌ s) (segments_joined t q n.1)

pub dot_ends : (s : Str) → ends_in_dot (s ++ (dot ∷ [])) ≡ true
unfolding ends_in_dot
dot_ends [] = refl
dot_ends (b ∷ []) = refl
dot_ends (b ∷ (c ∷ s)) = dot_ends (c ∷ s)

any_none : {B : Type 0} (p : B → Bool) (xs : List B) → Allˡ (λ a. p a ≡ false) xs → any p xs ≡ false
unfolding any
any_none p [] a = refl
any_none p (x ∷ xs) a = rw a.0 (any_none p xs a.1)

key_some : (s : Str) → IsKey s → is_empty s ≡ false
unfolding is_empty
key_some [] k = absurd (omega (arith, k.long))
key_some (b ∷ s) k = refl

-- So look-up does not refuse it.
name_passes : (s : Str) (q : Query) → IsQuery (s ∷ q)
    → first_row (argument_rows true (a_look_up (query_to_string (s ∷ q) ++ (dot ∷ [])) ∷ [])) ≡ none
unfolding argument_rows any malformed bad_query empty_name too_long long_query is_empty all query_byte name_byte
name_passes s q i = none_first_row _ (refl, (well_formed, (named, (short, tt))))
  where
    name : Str
    name = query_to_string (s ∷ q) ++ (dot ∷ [])

    e : segments name ≡ s ∷ q
    e = segments_joined s q (Allˡ-map (s ∷ q) (λ k h. key_no_dot k h.bytes) i.keys)

    well_formed : any malformed (a_look_up name ∷ []) ≡ false
    well_formed = rw (
      dot_ends (query_to_string (s ∷ q)),
      all_append query_byte (query_to_string (s ∷ q)) (dot ∷ []) (query_to_string_label (s ∷ q) i).bytes refl,
    ) refl

    named : any empty_name (a_look_up name ∷ []) ≡ false
    named = rw (e, any_none is_empty (s ∷ q) (Allˡ-map (s ∷ q) key_some i.keys)) refl

    few : ltb most_segments (length (s ∷ q)) ≡ false
    few = le-ltb most_segments (length (s ∷ q)) i.few

    no_long : any (λ g. ltb longest_name (length g)) (s ∷ q) ≡ false
    no_long = any_none _ (s ∷ q) (Allˡ-map (s ∷ q) (λ g k. le-ltb longest_name (length g) k.short) i.keys)

    short : any too_long (a_look_up name ∷ []) ≡ false
    short = rw (e, no_long, few) refl

-- ---- the lines of a root
all_mapped : {B C : Type 0} (P : C → Type 0) (f : B → C) (ls : List B) → Allˡ (λ x. P (f x)) ls → Allˡ P (map f ls)
all_mapped P f [] a = tt
all_mapped P f (x ∷ ls) a = (a.0, all_mapped P f ls a.1)

-- A filter only drops lines.
all_kept : {A : Type 0} (P : Line A → Type 0) (keep : A → Bool) (ls : List (Line A)) → Allˡ P ls → Allˡ P (kept keep ls)
unfolding kept
all_kept P keep [] a = tt
all_kept P keep (l ∷ ls) a = go (keep l.item_of) (all_kept P keep ls a.1)
  where
    go : (b : Bool) → Allˡ P (kept keep ls) → Allˡ P (cond b (l ∷ kept keep ls) (kept keep ls))
    go true h = (a.0, h)
    go false h = h

module _ {A : Type 0} (Item : A → Type 0) (tr : Trie A) (sound : SoundTrie Item tr) where
  -- The query covers the text, and look-up of it finds the item.
  abbrev FoundAt : Query → Str → A → Type 0
  FoundAt q t a = Covers q (segments t) × (look_up true tr t ≡ found a)

  way_found : (q name : Query) (a : A) → Leads IsKey IsLabel Item tr q name a
      → FoundAt q (query_to_string name ++ (dot ∷ [])) a
  unfolding walk_first look_up found_of
  way_found q [] a w = absurd (none-ne-some w.ends.0 w.ends.1)
  way_found q (s ∷ m) a w = (
    subst (Covers q) (sym e) w.covers,
    rw (name_passes s m i, look_up)
        (ap (λ g. found_of (trie_find_exact tr g)) e ∙ ap found_of (look_up_is_walk tr (s ∷ m) ∙ w.ends.1) ∙ ap found w.ends.2),
  )
    where
      i : IsQuery (s ∷ m)
      i = record { keys = w.keyed; few = omega (arith, w.few, sound.shallow) }

      e : segments (query_to_string (s ∷ m) ++ (dot ∷ [])) ≡ s ∷ m
      e = segments_joined s m (Allˡ-map (s ∷ m) (λ k h. key_no_dot k h.bytes) w.keyed)

  -- Of lines that are made of what the listing gives, by a function that keeps the text and the item.
  root_lines : (f : PathOf × A → Line A) → ((x : PathOf × A) → (f x).candidate ≡ string_of_path x.0)
      → ((x : PathOf × A) → (f x).item_of ≡ x.1) → (q : Query)
      → Allˡ (λ l. FoundAt q (full_name l) l.item_of) (map f (trie_find_prefix_first tr q))
  unfolding trie_find_prefix_first trie_find_prefix' string_of_path
  root_lines f text same_item q =
      all_mapped (λ l. FoundAt q (full_name l) l.item_of) f (trie_find_prefix_first tr q)
      (lines_lead IsKey IsLabel Item (λ x. FoundAt q (full_name (f x)) (f x).item_of) (suc (depth tr)) tr [] q [] sound.formed
      (λ p a w. rw (text (p, a), same_item (p, a)) (way_found q (keys p) a w)) tt)

-- ---- the theorem
each_found : {A : Type 0} (tr : Trie A) {Lists : Str → List (Line A) → Type 0}
    → ((query : Str) (lines : List (Line A)) → Lists query lines
    → Allˡ (λ l. Covers (segments query) (segments (full_name l))
    × (look_up true tr (full_name l) ≡ found l.item_of)) lines)
    → EachFound (λ name a. look_up true tr name ≡ a) Lists
each_found tr h = record {
  covered = λ query lines g. Allˡ-map lines (λ l p. p.0) (h query lines g);
  found_item = λ query lines g. Allˡ-map lines (λ l p a e. sym e ∙ p.1) (h query lines g);
}

pub lines_found : LinesFound
unfolding complete complete_modules autocomplete_lid_first completion_result_of_lid completion_result_of_ns_or_mod
lines_found = record {
  names = λ tbl sound f. each_found tbl.tbl_lids (λ query lines (budget, out, entered, h).
      rw (← completed_lines true budget out query _ lines _ entered h)
      (all_kept _ (keeps_kind f) _
      (root_lines NameItem tbl.tbl_lids sound.lids completion_result_of_lid (λ x. refl) (λ x. refl) (segments query))));
  modules = λ tbl sound f. each_found tbl.tbl_mods (λ query lines (budget, out, entered, h).
      rw (← completed_lines true budget out query _ lines _ entered h, all_listed tbl (segments query))
      (all_kept _ (keeps f) _
      (root_lines ModItem tbl.tbl_mods sound.mods completion_result_of_ns_or_mod (λ x. refl) (λ x. refl) (segments query))));
}
