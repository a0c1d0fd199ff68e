-- Tries, as in the source: look-up, changes and imports.
use Rattle.std.specs.Prelude.{[], ◌∷◌}
use Rattle.std.proofs.Math.Option.{Option, none, some}
use Rattle.source.specs.Text.{Str, Query, query_to_string}
use Rattle.source.specs.Types.{Level, Value, Trie, NameList, bind, ns, item, trie, StrEmpty, []ᴺ, Names, ImportedNames, bindings, namespaces, trie_empty}
use Rattle.source.specs.Trees.{btree_find_exact, btree_insert_replace}

-- The source's matches on an option: the first result, or where it is None the second.
unfoldable pub or_else : {A : Type 0} → Option A → Option A → Option A
or_else none o = o
or_else (some a) o = some a

-- Option.dflt
unfoldable pub dflt : {A : Type 0} → A → Option A → A
dflt d none = d
dflt d (some a) = a

-- Option.bind
unfoldable pub bind_option : {A B : Type 0} → Option A → (A → Option B) → Option B
bind_option none f = none
bind_option (some a) f = f a

abbrev pub MutNode : Type 0 → Type 0
MutNode A = Trie A → Str → Query → Query → NameList A ns → Trie A

abbrev pub MutLeaf : Type 0 → Type 0
MutLeaf A = Trie A → Query → Trie A

module _ {A : Type 0} where
  unfoldable pub names_find_exact : {ℓ : Level} → NameList A ℓ → Str → Option (Value A ℓ)
  names_find_exact []ᴺ k = none
  names_find_exact (Names bt tl) k = or_else (btree_find_exact bt k) (names_find_exact tl k)
  names_find_exact (ImportedNames label inner tl) k = or_else (names_find_exact inner k) (names_find_exact tl k)

  unfoldable pub trie_descend_exact : Trie A → Query → Option (Trie A)
  trie_descend_exact tr [] = some tr
  trie_descend_exact tr (s ∷ q) = bind_option (names_find_exact (namespaces tr) s) (λ scope. trie_descend_exact scope q)

  -- A query of no segment fails in the source; row 3 refuses it before.
  unfoldable pub trie_find_exact : Trie A → Query → Option (Value A bind)
  trie_find_exact tr [] = none
  trie_find_exact tr (name ∷ []) = names_find_exact (bindings tr) name
  trie_find_exact tr (s ∷ (t ∷ q)) =
      bind_option (names_find_exact (namespaces tr) s) (λ scope. trie_find_exact scope (t ∷ q))

  unfoldable pub names_insert : {ℓ : Level} → NameList A ℓ → Str → Value A ℓ → NameList A ℓ
  names_insert []ᴺ id v = Names (btree_insert_replace StrEmpty id v) []ᴺ
  names_insert (Names bt tl) id v = Names (btree_insert_replace bt id v) tl
  names_insert (ImportedNames label inner tl) id v =
      Names (btree_insert_replace StrEmpty id v) (ImportedNames label inner tl)

  -- The trie that namespaces_mutate goes on with.
  unfoldable pub scope_of : NameList A ns → Str → Trie A
  scope_of nl s = dflt trie_empty (names_find_exact nl s)

  -- Written out, since antt's recursion is on the query alone; the source's cycle is trie-mutate-step of proofs/Tries.antt.
  unfoldable pub trie_mutate : Trie A → Query → Query → MutNode A → MutLeaf A → Trie A
  trie_mutate tr [] rev_acc mut_node mut_leaf = mut_leaf tr rev_acc
  trie_mutate tr (id ∷ q) rev_acc mut_node mut_leaf =
      mut_node tr id q rev_acc
      (names_insert (namespaces tr) id
      (trie_mutate (scope_of (namespaces tr) id) q (id ∷ rev_acc) mut_node mut_leaf))

  unfoldable pub namespaces_mutate : NameList A ns → Str → Query → Query → MutNode A → MutLeaf A → NameList A ns
  namespaces_mutate nl s q rev_acc mut_node mut_leaf =
      names_insert nl s (trie_mutate (scope_of nl s) q rev_acc mut_node mut_leaf)

  unfoldable pub trie_mutate_leaf : Trie A → Query → MutLeaf A → Trie A
  trie_mutate_leaf tr query mut_leaf = trie_mutate tr query [] (λ tr _ _ _ n. trie (bindings tr) n) mut_leaf

  unfoldable pub trie_insert : Trie A → Query → Str → A → Trie A
  trie_insert tr ns_query id v =
      trie_mutate_leaf tr ns_query (λ tr _. trie (names_insert (bindings tr) id (item v)) (namespaces tr))

  -- included_trie of trie_import
  unfoldable pub included : Trie A → Query → Trie A
  included tr q = dflt trie_empty (trie_descend_exact tr q)

  unfoldable pub trie_import : Trie A → Query → Query → (Trie A → Trie A → Str → Trie A) → Trie A
  trie_import tr host q mutator = trie_mutate_leaf tr host (λ at _. mutator at (included tr q) (query_to_string q))

  unfoldable pub trie_include : Trie A → Query → Query → Trie A
  trie_include tr host q =
      trie_import tr host q (λ at inc label. trie (ImportedNames label (bindings inc) (bindings at)) (namespaces at))

  unfoldable pub trie_open_namespace : Trie A → Query → Query → Trie A
  trie_open_namespace tr host q =
      trie_import tr host q (λ at inc label. trie (bindings at) (ImportedNames label (namespaces inc) (namespaces at)))

  unfoldable pub trie_add_alias : Trie A → Str → Query → Query → Trie A
  trie_add_alias tr key host q =
      trie_import tr host q (λ at inc label.
      trie_mutate_leaf at (key ∷ []) (λ _ _. trie (ImportedNames label (bindings inc) []ᴺ) []ᴺ))
