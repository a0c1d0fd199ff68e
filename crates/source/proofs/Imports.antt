-- What an include, an open of a namespace and an alias leave at their host: what was included is read in the table before the call.
use Prim.Native.Nat.{Ordering}
use mathlib.Core.Path.{◌≡◌, refl, ◌∙◌}
use mathlib.Core.List.{[], ◌∷◌, ◌++◌}
use mathlib.Core.Option.{some}
use Rattle.source.specs.Text.{Str, Query, string_compare, query_to_string}
use Rattle.source.specs.Types.{Level, Value, Trie, Tree, NameList, trie, StrEmpty, StrBranch, []ᴺ, Names, ImportedNames, bindings, namespaces}
use Rattle.source.specs.Trees.{btree_insert_replace, btree_find_exact}
use Rattle.source.specs.Tries.{or_else, bind_option, names_find_exact, names_insert, scope_of, trie_descend_exact, trie_mutate, trie_mutate_leaf}
use Rattle.source.specs.Tries.{included, trie_import, trie_include, trie_open_namespace, trie_add_alias}
use Rattle.source.proofs.Order.{compare_self}
use Rattle.source.specs.Plans.{host_of}

module _ {A : Type 0} where
  -- a key that was inserted is found
  pub find_inserted : {ℓ : Level} (bt : Tree A ℓ) (k : Str) (v : Value A ℓ)
      → btree_find_exact (btree_insert_replace bt k v) k ≡ some v
  unfolding btree_insert_replace btree_find_exact
  find_inserted StrEmpty k v = rw (compare_self k, btree_find_exact)
  find_inserted {ℓ} (StrBranch k' v' lbt rbt) k v = go (string_compare k k') refl (find_inserted lbt k v) (find_inserted rbt k v)
    where
      go : (o : Ordering) → string_compare k k' ≡ o → btree_find_exact (btree_insert_replace lbt k v) k ≡ some v
          → btree_find_exact (btree_insert_replace rbt k v) k ≡ some v
          → btree_find_exact {A = A} {ℓ = ℓ} (elim o [
            | Ordering.lt ↦ StrBranch k' v' (btree_insert_replace lbt k v) rbt
            | Ordering.eq ↦ StrBranch k' v lbt rbt
            | Ordering.gt ↦ StrBranch k' v' lbt (btree_insert_replace rbt k v)
          ]) k ≡ some v
      go Ordering.lt e i j = rw (e, btree_find_exact) i
      go Ordering.eq e i j = rw (e, btree_find_exact)
      go Ordering.gt e i j = rw (e, btree_find_exact) j

  pub names_find_inserted : {ℓ : Level} (nl : NameList A ℓ) (k : Str) (v : Value A ℓ)
      → names_find_exact (names_insert nl k v) k ≡ some v
  unfolding names_insert names_find_exact or_else
  names_find_inserted []ᴺ k v = rw (find_inserted StrEmpty k v)
  names_find_inserted (Names bt tl) k v = rw (find_inserted bt k v)
  names_find_inserted (ImportedNames label inner tl) k v = rw (find_inserted StrEmpty k v)

  module _ (leaf : Trie A → Trie A) where
    descend_mutated : (tr : Trie A) (q rev_acc rest : Query)
        → trie_descend_exact (trie_mutate tr q rev_acc (λ tr _ _ _ n. trie (bindings tr) n) (λ at _. leaf at))
        (q ++ rest)
        ≡ trie_descend_exact (leaf (host_of tr q)) rest
    unfolding trie_mutate trie_descend_exact bind_option host_of namespaces
    descend_mutated tr [] rev_acc rest = refl
    descend_mutated tr (s ∷ q) rev_acc rest =
        rw (names_find_inserted, bind_option) (descend_mutated (scope_of (namespaces tr) s) q (s ∷ rev_acc) rest)

    -- what a change leaves at its host
    pub descend_mutated_leaf : (tr : Trie A) (q rest : Query)
        → trie_descend_exact (trie_mutate_leaf tr q (λ at _. leaf at)) (q ++ rest)
        ≡ trie_descend_exact (leaf (host_of tr q)) rest
    unfolding trie_mutate_leaf
    descend_mutated_leaf tr q rest = descend_mutated tr q [] rest

  -- include: the included bindings, labelled, before the host's own; namespaces stay
  pub include_at_host : (tr : Trie A) (host q : Query)
      → trie_descend_exact (trie_include tr host q) (host ++ [])
      ≡ some (trie (ImportedNames (query_to_string q) (bindings (included tr q)) (bindings (host_of tr host)))
      (namespaces (host_of tr host)))
  unfolding trie_include trie_import trie_descend_exact
  include_at_host tr host q = descend_mutated_leaf _ tr host []

  -- open of a namespace: the included namespaces; bindings stay
  pub open_at_host : (tr : Trie A) (host q : Query)
      → trie_descend_exact (trie_open_namespace tr host q) (host ++ [])
      ≡ some (trie (bindings (host_of tr host))
      (ImportedNames (query_to_string q) (namespaces (included tr q)) (namespaces (host_of tr host))))
  unfolding trie_open_namespace trie_import trie_descend_exact
  open_at_host tr host q = descend_mutated_leaf _ tr host []

  -- alias: at its key a fresh trie with the included bindings and no namespaces
  pub alias_at_key : (tr : Trie A) (key : Str) (host q : Query)
      → trie_descend_exact (trie_add_alias tr key host q) (host ++ (key ∷ []))
      ≡ some (trie (ImportedNames (query_to_string q) (bindings (included tr q)) []ᴺ) []ᴺ)
  unfolding trie_add_alias trie_import trie_descend_exact
  alias_at_key tr key host q =
      descend_mutated_leaf _ tr host (key ∷ [])
      ∙ descend_mutated_leaf (λ _. trie (ImportedNames (query_to_string q) (bindings (included tr q)) []ᴺ) []ᴺ) (host_of tr host) (key ∷ []) []
