-- How much one registration can move, the theorem: `moves-little`.
use mathlib.Core.Path.{◌≡◌, refl, sym, ap, ◌∙◌, subst}
use mathlib.Core.Bool.{Bool, true, false, true≢false, false≢true}
use mathlib.Core.List.{[], ◌∷◌, ◌++◌, map, reverse, tail}
use mathlib.Core.Option
use mathlib.Core.Option.{Option, none, some, none-ne-some, some-injective}
use Rattle.source.specs.Text.{Str, Query}
use Rattle.source.specs.Types.{Level, Value, Trie, NameList, ns, item, trie, bindings, namespaces}
use Rattle.source.specs.Trees.{PathElem}
use Rattle.source.specs.Tries.{bind_option, names_insert, scope_of, trie_find_exact, trie_mutate, trie_mutate_leaf, trie_insert}
use Rattle.source.specs.Terms.{first_of}
use Rattle.source.specs.Listing.{SearchTerm, by_first, elem_key, names_find_rev_first, ns_search_term}
use Rattle.source.specs.Table.{first_import_of_path, last_opt}
use Rattle.source.specs.Rules.{Formed}
use Rattle.source.specs.Shared.{same, Allˡ}
use Rattle.promises.specs.Departs.{accepts}
use Rattle.promises.specs.Moved.{below_first}
use Rattle.source.proofs.Formed.{formed_orderedN, formed_parts}
use Rattle.source.proofs.Imports.{names_find_inserted}
use Rattle.source.proofs.Lookup.{lookup, same_self}
use Rattle.source.proofs.Names.{OrderedN}
use Rattle.source.proofs.Paths.{first_import_one}
use Rattle.promises.proofs.Trees.{gate}
use Rattle.promises.proofs.Holders.{row, first_row_at, holder_inserted, holders_other}
use Rattle.promises.proofs.Listed.{same_true, along}
use Rattle.promises.proofs.LineAt.{ImportIs, each_next, along_import}
use Rattle.promises.proofs.Apart.{leaf_alike, alike_along}

-- ---- what an insert leaves at a name
module _ {A : Type 0} where
  -- The row of the inserted key has no import.
  pub row_inserted : {ℓ : Level} (nl : NameList A ℓ) (k : Str) (v : Value A ℓ) (term : SearchTerm)
      → OrderedN (names_insert nl k v)
      → (y : PathElem × Value A ℓ) → lookup elem_key k (names_find_rev_first (names_insert nl k v) term) ≡ some y
      → first_import_of_path (reverse (y.0 ∷ [])) ≡ none
  unfolding last_opt
  row_inserted nl k v term o y e = first_import_one y.0 ∙ go (accepts term k)
      (sym (first_row_at (names_insert nl k v) term k o ∙ ap (λ h. gate (accepts term k) (Option.map (row term k) h)) (holder_inserted nl k v)) ∙ e)
    where
      go : (b : Bool) → gate b (some (row term k ([], v))) ≡ some y → last_opt y.0.imports ≡ none
      go true e = ap (λ z. last_opt z.0.imports) (sym (some-injective _ _ e))
      go false e = absurd (none-ne-some y e)

  -- Look-up of the inserted name.
  pub own_found : (tr : Trie A) (host rev : Query) (id : Str) (v : A)
      → trie_find_exact (trie_mutate tr host rev (λ tr _ _ _ n. trie (bindings tr) n)
      (λ tr _. trie (names_insert (bindings tr) id (item v)) (namespaces tr))) (host ++ (id ∷ [])) ≡ some (item v)
  unfolding trie_mutate trie_find_exact bind_option bindings namespaces
  own_found tr [] rev id v = names_find_inserted (bindings tr) id (item v)
  own_found tr (h ∷ []) rev id v = rw (names_find_inserted, bind_option) (own_found (scope_of (namespaces tr) h) [] (h ∷ rev) id v)
  own_found tr (h ∷ (g ∷ host)) rev id v = rw (names_find_inserted, bind_option) (own_found (scope_of (namespaces tr) h) (g ∷ host) (h ∷ rev) id v)

  module _ (Key Label : Str → Type 0) (Item : A → Type 0) (tr : Trie A) (id : Str) (v : A)
      (g : Formed Key Label Item tr) where
    -- Another name that is not below the host's first segment.
    pub same_along : (host : Query) → Formed Key Label Item (trie_insert tr host id v)
        → (q : Query) (s : Str) (m : Query)
        → (s ∷ m ≡ host ++ (id ∷ []) → ⊥) → below_first host (s ∷ m) ≡ false
        → along by_first (trie_insert tr host id v) [] q s m ≡ along by_first tr [] q s m
    unfolding trie_insert trie_mutate_leaf trie_mutate below_first along bindings namespaces first_of
    same_along [] g' q s [] n b =
        alike_along Key Label Item tr (trie_insert tr [] id v) g g' [] q s []
        (record { bound = holders_other (bindings tr) id s (item v) (λ e. n (ap (λ x. x ∷ []) e)); spaced = refl })
    same_along [] g' q s (t ∷ m) n b = refl
    same_along (h ∷ host) g' q s [] n b = refl
    same_along (h ∷ host) g' q s (t ∷ m) n b =
        alike_along Key Label Item tr _ g g' [] q s (t ∷ m)
        (leaf_alike tr (λ tr _. trie (names_insert (bindings tr) id (item v)) (namespaces tr)) (h ∷ host) h s refl
        (λ e. true≢false (sym (same_self s) ∙ ap (same s) (sym e) ∙ b)))

    -- No import leads to a name below the host's first segment, and to the inserted name.
    pub below_import : (host : Query) → Formed Key Label Item (trie_insert tr host id v)
        → (q : Query) (s : Str) (m : Query)
        → below_first host (s ∷ m) ≡ true → Allˡ (ImportIs none) (along by_first (trie_insert tr host id v) [] q s m)
    unfolding trie_insert trie_mutate_leaf trie_mutate below_first bindings namespaces
    below_import [] g' q s m b = absurd (false≢true b)
    below_import (h ∷ host) g' q s [] b = absurd (false≢true b)
    below_import (h ∷ host) g' q s (t ∷ m) b = each_next (ImportIs none) (trie_insert tr (h ∷ host) id v) [] q s t m (λ y e.
        subst (λ o. Allˡ (ImportIs o) (along by_first y.1 (y.0 ∷ []) (tail q) t m))
        (row_inserted (namespaces tr) h _ (ns_search_term q)
        (formed_orderedN Key Label Item {ℓ = ns} (namespaces (trie_insert tr (h ∷ host) id v))
        (formed_parts Key Label Item (trie_insert tr (h ∷ host) id v) g').1) y (rw (same_true s h b) at e))
        (along_import y.1 y.0 [] (tail q) t m))
    -- Still to be proved, of the inserted name itself:
    -- own_import : (host : Query) → Formed Key Label Item (trie_insert tr host id v) → (q : Query) (s : Str) (m : Query)
    -- → host ++ (id ∷ []) ≡ s ∷ m → Allˡ (ImportIs none) (along by_first (trie_insert tr host id v) [] q s m)
