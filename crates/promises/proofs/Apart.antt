-- A registration in another segment than s leaves what its root holds at s, and so the lines and look-ups in s.
use mathlib.Core.Path.{◌≡◌, refl, sym, ap, ◌∙◌}
use mathlib.Core.Bool.{Bool, true, false, cond, false≢true}
use mathlib.Core.List.{List, [], ◌∷◌, ◌++◌, map, reverse, tail}
use mathlib.Core.Option.{some, none-ne-some, some-injective}
use Rattle.source.specs.Text.{Str, Query, dot, query_to_string, segments}
use Rattle.source.specs.Types.{Trie, NameList, bind, trie, []ᴺ, ImportedNames, the_item, bindings, namespaces}
use Rattle.source.specs.Tries.{MutLeaf, or_else, bind_option, names_find_exact, trie_find_exact, trie_mutate, trie_mutate_leaf, trie_insert, included}
use Rattle.source.specs.Tries.{trie_import}
use Rattle.source.specs.Tries.{trie_include, trie_open_namespace, trie_add_alias}
use Rattle.source.specs.Terms.{first_of}
use Rattle.source.specs.Listing.{PathOf, by_first, ns_search_term, bindings_search_term, trie_find_prefix_first, trie_find_prefix'}
use Rattle.source.specs.Table.{Table, ModSymbol, Line, string_of_path, ins_stays_loaded, ins_mod, ins_ns, ns_inserts, insert, register_include, register_open}
use Rattle.source.specs.Table.{register_alias}
use Rattle.source.specs.Table.{register_module_stays_loaded}
use Rattle.source.specs.Rules.{Formed, IsKey, IsLabel}
use Rattle.source.specs.Calls.{Call, name, include, opens, alias, module_path, registered}
use Rattle.source.specs.Shared.{Allˡ}
use Rattle.promises.specs.Agreement.{full_name}
use Rattle.promises.specs.Moved.{segment_of, Elsewhere, begins_in, lines_in}
use Rattle.source.proofs.Formed.{formed_orderedN, formed_parts}
use Rattle.source.proofs.Lookup.{Allˡ-map}
use Rattle.source.proofs.Paths.{keys}
use Rattle.promises.proofs.Holders.{holders_in, holders_other}
use Rattle.promises.proofs.Listed.{first_finds, from, along, named, listed_named, same_true}
use Rattle.promises.proofs.ListedTexts.{LineOk, lines_ok}
use Rattle.promises.proofs.ListingOrder.{listing_increasing, picked, picked_same}
use Rattle.promises.proofs.Agreement.{key_no_dot}
use Rattle.promises.proofs.LinesFound.{segments_joined}
use Rattle.promises.proofs.LineAt.{row_same, find_same}

-- ---- tries with the same holders of a segment
module _ {A : Type 0} where
  pub record Alike (tr tr' : Trie A) (s : Str) : Type 0 where
    pub bound : holders_in [] (bindings tr') s ≡ holders_in [] (bindings tr) s
    pub spaced : holders_in [] (namespaces tr') s ≡ holders_in [] (namespaces tr) s

  alike_self : (tr : Trie A) (s : Str) → Alike tr tr s
  alike_self tr s = record { bound = refl; spaced = refl }

  -- Look-ups there.
  pub alike_find : (tr tr' : Trie A) (s : Str) (q : Query) → Alike tr tr' s
      → trie_find_exact tr' (s ∷ q) ≡ trie_find_exact tr (s ∷ q)
  unfolding trie_find_exact
  alike_find tr tr' s [] a = find_same (bindings tr) (bindings tr') s a.bound
  alike_find tr tr' s (t ∷ q) a =
      ap (λ o. bind_option o (λ scope. trie_find_exact scope (t ∷ q))) (find_same (namespaces tr) (namespaces tr') s a.spaced)

  -- A change below a host that begins with another segment.
  pub leaf_alike : (tr : Trie A) (leaf : MutLeaf A) (host : Query) (t s : Str) → first_of host ≡ some t → (t ≡ s → ⊥)
      → Alike tr (trie_mutate_leaf tr host leaf) s
  unfolding trie_mutate_leaf trie_mutate first_of bindings namespaces
  leaf_alike tr leaf [] t s e n = absurd (none-ne-some t e)
  leaf_alike tr leaf (h ∷ host) t s e n = record {
    bound = refl;
    spaced = holders_other (namespaces tr) h s _ (λ i. n (sym (some-injective h t e) ∙ sym i));
  }

  alias_alike : (tr : Trie A) (key : Str) (host q : Query) (t s : Str) → or_else (first_of host) (some key) ≡ some t
      → (t ≡ s → ⊥) → Alike tr (trie_add_alias tr key host q) s
  unfolding trie_add_alias trie_import trie_mutate_leaf trie_mutate or_else first_of
  alias_alike tr key [] q t s e n =
      leaf_alike tr (λ _ _. trie (ImportedNames (query_to_string q) (bindings (included tr q)) []ᴺ) []ᴺ) (key ∷ []) t s e n
  alias_alike tr key (h ∷ host) q t s e n = leaf_alike tr _ (h ∷ host) t s e n

  -- The lines there.
  module _ (Key Label : Str → Type 0) (Item : A → Type 0) (tr tr' : Trie A) (g : Formed Key Label Item tr)
      (g' : Formed Key Label Item tr') where
    pub alike_along : (path : PathOf) (q : Query) (s : Str) (m : Query) → Alike tr tr' s
        → along by_first tr' path q s m ≡ along by_first tr path q s m
    unfolding along
    alike_along path q s [] a =
        ap (from (λ y. (reverse (y.0 ∷ path), the_item y.1) ∷ []))
        (row_same (bindings tr) (bindings tr') (bindings_search_term q) s (formed_orderedN Key Label Item (bindings tr) (formed_parts Key Label Item tr g).0)
        (formed_orderedN Key Label Item (bindings tr') (formed_parts Key Label Item tr' g').0) a.bound)
    alike_along path q s (t ∷ m) a =
        ap (from (λ y. along by_first y.1 (y.0 ∷ path) (tail q) t m))
        (row_same (namespaces tr) (namespaces tr') (ns_search_term q) s (formed_orderedN Key Label Item (namespaces tr) (formed_parts Key Label Item tr g).1)
        (formed_orderedN Key Label Item (namespaces tr') (formed_parts Key Label Item tr' g').1) a.spaced)

-- ---- the calls
pub names_alike : (tbl : Table) (c : Call) (s : Str) → Elsewhere s c → Alike tbl.tbl_lids (registered tbl c).tbl_lids s
unfolding registered segment_of insert register_include register_open register_alias register_module_stays_loaded
    trie_insert trie_include trie_open_namespace trie_import
names_alike tbl (name host id i) s (t, e, n) = leaf_alike tbl.tbl_lids _ (segments host) t s e n
names_alike tbl (include host q) s (t, e, n) = leaf_alike tbl.tbl_lids _ (segments host) t s e n
names_alike tbl (opens true host q) s (t, e, n) = leaf_alike tbl.tbl_lids _ (segments host) t s e n
names_alike tbl (opens false host q) s (t, e, n) = leaf_alike tbl.tbl_lids _ (segments host) t s e n
names_alike tbl (alias key host q) s (t, e, n) = alias_alike tbl.tbl_lids key (segments host) (segments q) t s e n
names_alike tbl (module_path loaded query path) s x = alike_self tbl.tbl_lids s

-- What a module's registration puts into the bindings of a trie, at the segment h.
put_holders : (path h : Str) (q : Query) (nl : NameList ModSymbol bind) (loaded : Bool) (s : Str) → (s ≡ h → ⊥)
    → holders_in [] (ins_stays_loaded path h q [] nl loaded) s ≡ holders_in [] nl s
unfolding ins_stays_loaded ins_mod ins_ns
put_holders path h [] nl loaded s n = holders_other nl h s _ n
put_holders path h (g ∷ q) nl loaded s n = kept (ns_inserts (names_find_exact nl h) loaded) _ (holders_other nl h s _ n)
  where
    kept : (b : Bool) (nl' : NameList ModSymbol bind) → holders_in [] nl' s ≡ holders_in [] nl s
        → holders_in [] (cond b nl' nl) s ≡ holders_in [] nl s
    kept true nl' f = f
    kept false nl' f = refl

modules_mutated : (tr : Trie ModSymbol) (loaded : Bool) (path : Str) (q : Query) (t s : Str) → first_of q ≡ some t
    → (t ≡ s → ⊥)
    → Alike tr (trie_mutate tr q [] (λ tr id q revq n. trie (ins_stays_loaded path id q revq (bindings tr) loaded) n)
    (λ tr _. tr)) s
unfolding trie_mutate first_of bindings namespaces
modules_mutated tr loaded path [] t s e n = absurd (none-ne-some t e)
modules_mutated tr loaded path (h ∷ q) t s e n =
    let other : s ≡ h → ⊥ = λ i. n (sym (some-injective h t e) ∙ sym i) in
    record {
      bound = put_holders path h q (bindings tr) loaded s other;
      spaced = holders_other (namespaces tr) h s _ other;
    }

pub modules_alike : (tbl : Table) (c : Call) (s : Str) → Elsewhere s c
    → Alike tbl.tbl_mods (registered tbl c).tbl_mods s
unfolding registered segment_of insert register_include register_open register_alias register_module_stays_loaded
modules_alike tbl (name host id i) s x = alike_self tbl.tbl_mods s
modules_alike tbl (include host q) s x = alike_self tbl.tbl_mods s
modules_alike tbl (opens true host q) s x = alike_self tbl.tbl_mods s
modules_alike tbl (opens false host q) s x = alike_self tbl.tbl_mods s
modules_alike tbl (alias key host q) s x = alike_self tbl.tbl_mods s
modules_alike tbl (module_path loaded query path) s (t, e, n) = modules_mutated tbl.tbl_mods loaded path (segments query) t s e n

-- ---- the lines of a listing by their names
module _ {A : Type 0} (Item : A → Type 0) where
  -- A listing's line: its name has a segment, and each is a key.
  abbrev pub Named : PathOf × A → Type 0
  Named x = LineOk IsKey IsLabel Item by_first (first_finds IsKey IsLabel Item) x

  pub listing_named : (tr : Trie A) (q : Query) → Formed IsKey IsLabel Item tr
      → Allˡ Named (trie_find_prefix_first tr q)
  unfolding trie_find_prefix_first trie_find_prefix'
  listing_named tr q g = lines_ok IsKey IsLabel Item by_first (first_finds IsKey IsLabel Item) _ tr [] q [] g tt tt

  module _ (f : PathOf × A → Line A) (text : (x : PathOf × A) → (f x).candidate ≡ string_of_path x.0) where
    pub line_segments : (x : PathOf × A) → Named x → segments (full_name (f x)) ≡ keys x.0
    unfolding string_of_path
    line_segments x (k, m, e, h) =
        ap (λ t. segments (t ++ (dot ∷ []))) (text x ∙ ap query_to_string e)
        ∙ segments_joined k m (Allˡ-map (k ∷ m) (λ s i. key_no_dot s i.bytes) h) ∙ sym e

    lines_picked : (s : Str) (xs : List (PathOf × A)) → Allˡ Named xs
        → lines_in s (map f xs) ≡ map f (picked (begins_in s) xs)
    unfolding lines_in picked
    lines_picked s [] a = refl
    lines_picked s (x ∷ xs) a = rw (line_segments x a.0, lines_picked s xs a.1) (go (begins_in s (keys x.0)))
      where
        go : (b : Bool) → cond b (f x ∷ map f (picked (begins_in s) xs)) (map f (picked (begins_in s) xs))
            ≡ map f (cond b (x ∷ picked (begins_in s) xs) (picked (begins_in s) xs))
        go true = refl
        go false = refl

    -- Where both tries have the same holders of s, listings show the same lines in s.
    pub alike_lines : (tr tr' : Trie A) (s : Str) (q : Query) → Formed IsKey IsLabel Item tr
        → Formed IsKey IsLabel Item tr'
        → Alike tr tr' s
        → lines_in s (map f (trie_find_prefix_first tr' q)) ≡ lines_in s (map f (trie_find_prefix_first tr q))
    unfolding begins_in trie_find_prefix_first
    alike_lines tr tr' s q g g' a =
        lines_picked s _ (listing_named tr' q g')
        ∙ picked_same f f (begins_in s) (trie_find_prefix_first tr' q) (trie_find_prefix_first tr q)
        (listing_increasing IsKey IsLabel Item tr' q g') (listing_increasing IsKey IsLabel Item tr q g) (λ T e. ap (map f) (at_name T e))
        ∙ sym (lines_picked s _ (listing_named tr q g))
      where
        at_name : (T : List Str) → begins_in s T ≡ true
            → named T (trie_find_prefix_first tr' q) ≡ named T (trie_find_prefix_first tr q)
        at_name [] e = absurd (false≢true e)
        at_name (t ∷ m) e =
            listed_named by_first IsKey IsLabel Item (first_finds IsKey IsLabel Item) tr' q t m g'
            ∙ alike_along IsKey IsLabel Item tr tr' g g' [] q t m (rw (same_true t s e) a)
            ∙ sym (listed_named by_first IsKey IsLabel Item (first_finds IsKey IsLabel Item) tr q t m g)
