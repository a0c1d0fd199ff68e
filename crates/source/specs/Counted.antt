-- What the requirements count, over the source's own expressions: a counted form of each function that builds records, and of the listing.
-- proofs/Counted.antt: the value of each counted form is the plain function's.
use Prim.Native.Nat.{Ordering}
use Rattle.std.specs.Prelude.{ℕ, zero, suc, ◌+◌, Bool, true, false, ◌||◌}
use mathlib.Core.List.{List, [], ◌∷◌, reverse, tail}
use Rattle.source.specs.Text.{Str, Query, string_compare, query_to_string}
use Rattle.source.specs.Types.{Level, Value, Trie, Tree, NameList, bind, ns, item, trie, StrEmpty, StrBranch, []ᴺ, Names, ImportedNames, the_item}
use Rattle.source.specs.Types.{bindings, namespaces}
use Rattle.source.specs.Tries.{names_find_exact, scope_of, included}
use Rattle.source.specs.Terms.{depth}
use Rattle.source.specs.Listing.{PathOf, Finder, rev_map_onto, ns_search_term, bindings_search_term}
use Rattle.source.specs.Table.{Table, ModSymbol, Module, Namespace, ns_inserts, name_of_revq, loaded_module}
use Rattle.source.specs.declared.LidSymbol.{LidSymbol}

-- A value, and how many were counted on the way to it.
pub record Counted (A : Type 0) : Type 0 where
  pub value : A
  pub count : ℕ

-- No count; one.
unfoldable pub pure : {A : Type 0} → A → Counted A
pure a = record { value = a; count = 0 }

unfoldable pub one : {A : Type 0} → A → Counted A
one a = record { value = a; count = 1 }

infixl 20 ◌>>=◌
unfoldable pub ◌>>=◌ : {A B : Type 0} → Counted A → (A → Counted B) → Counted B
m >>= f = record { value = (f m.value).value; count = m.count + (f m.value).count }

-- ---- Records: one for each trie record, each collection put in a list and each branch that an expression of the source builds.

abbrev pub MutNodeᶜ : Type 0 → Type 0
MutNodeᶜ A = Trie A → Str → Query → Query → NameList A ns → Counted (Trie A)

abbrev pub MutLeafᶜ : Type 0 → Type 0
MutLeafᶜ A = Trie A → Query → Counted (Trie A)

module _ {A : Type 0} where
  unfoldable pub btree_insert_replaceᶜ : {ℓ : Level} → Tree A ℓ → Str → Value A ℓ → Counted (Tree A ℓ)
  btree_insert_replaceᶜ StrEmpty k v = one (StrBranch k v StrEmpty StrEmpty)
  btree_insert_replaceᶜ (StrBranch k' v' lbt rbt) k v =
      elim (string_compare k k') [
        | Ordering.lt ↦ do
          lbt ← btree_insert_replaceᶜ lbt k v
          one (StrBranch k' v' lbt rbt)
        | Ordering.eq ↦ one (StrBranch k' v lbt rbt)
        | Ordering.gt ↦ do
          rbt ← btree_insert_replaceᶜ rbt k v
          one (StrBranch k' v' lbt rbt)
      ]

  unfoldable pub names_insertᶜ : {ℓ : Level} → NameList A ℓ → Str → Value A ℓ → Counted (NameList A ℓ)
  names_insertᶜ []ᴺ id v = do
    bt ← btree_insert_replaceᶜ StrEmpty id v
    one (Names bt []ᴺ)
  names_insertᶜ (Names bt tl) id v = do
    bt ← btree_insert_replaceᶜ bt id v
    one (Names bt tl)
  names_insertᶜ (ImportedNames label inner tl) id v = do
    bt ← btree_insert_replaceᶜ StrEmpty id v
    one (Names bt (ImportedNames label inner tl))

  unfoldable pub trie_mutateᶜ : Trie A → Query → Query → MutNodeᶜ A → MutLeafᶜ A → Counted (Trie A)
  trie_mutateᶜ tr [] rev_acc mut_node mut_leaf = mut_leaf tr rev_acc
  trie_mutateᶜ tr (id ∷ q) rev_acc mut_node mut_leaf = do
    scope ← trie_mutateᶜ (scope_of (namespaces tr) id) q (id ∷ rev_acc) mut_node mut_leaf
    n ← names_insertᶜ (namespaces tr) id scope
    mut_node tr id q rev_acc n

  unfoldable pub trie_mutate_leafᶜ : Trie A → Query → MutLeafᶜ A → Counted (Trie A)
  trie_mutate_leafᶜ tr query mut_leaf = trie_mutateᶜ tr query [] (λ tr _ _ _ n. one (trie (bindings tr) n)) mut_leaf

  unfoldable pub trie_insertᶜ : Trie A → Query → Str → A → Counted (Trie A)
  trie_insertᶜ tr ns_query id v =
      trie_mutate_leafᶜ tr ns_query (λ tr _. do
        b ← names_insertᶜ (bindings tr) id (item v)
        one (trie b (namespaces tr)))

  unfoldable pub trie_importᶜ : Trie A → Query → Query → (Trie A → Trie A → Str → Counted (Trie A)) → Counted (Trie A)
  trie_importᶜ tr host q mutator = trie_mutate_leafᶜ tr host (λ at _. mutator at (included tr q) (query_to_string q))

  unfoldable pub trie_includeᶜ : Trie A → Query → Query → Counted (Trie A)
  trie_includeᶜ tr host q =
      trie_importᶜ tr host q (λ at inc label. do
        b ← one (ImportedNames label (bindings inc) (bindings at))
        one (trie b (namespaces at)))

  unfoldable pub trie_open_namespaceᶜ : Trie A → Query → Query → Counted (Trie A)
  trie_open_namespaceᶜ tr host q =
      trie_importᶜ tr host q (λ at inc label. do
        n ← one (ImportedNames label (namespaces inc) (namespaces at))
        one (trie (bindings at) n))

  unfoldable pub trie_add_aliasᶜ : Trie A → Str → Query → Query → Counted (Trie A)
  trie_add_aliasᶜ tr key host q =
      trie_importᶜ tr host q (λ at inc label.
      trie_mutate_leafᶜ at (key ∷ []) (λ _ _. do
        b ← one (ImportedNames label (bindings inc) []ᴺ)
        one (trie b []ᴺ)))

unfoldable pub lids : Table → Counted (Trie LidSymbol) → Counted Table
lids tbl m = do
  tr ← m
  pure (record { tbl_lids = tr; tbl_mods = tbl.tbl_mods })

unfoldable pub insertᶜ : Table → Query → Str → LidSymbol → Counted Table
insertᶜ tbl host id c = lids tbl (trie_insertᶜ tbl.tbl_lids host id c)

unfoldable pub register_aliasᶜ : Table → Str → Query → Query → Counted Table
register_aliasᶜ tbl key host q = lids tbl (trie_add_aliasᶜ tbl.tbl_lids key host q)

unfoldable pub register_includeᶜ : Table → Query → Query → Counted Table
register_includeᶜ tbl host q = lids tbl (trie_includeᶜ tbl.tbl_lids host q)

unfoldable pub register_openᶜ : Table → Bool → Query → Query → Counted Table
register_openᶜ tbl true host q = register_includeᶜ tbl host q
register_openᶜ tbl false host q = lids tbl (trie_open_namespaceᶜ tbl.tbl_lids host q)

unfoldable pub ins_nsᶜ : Str → NameList ModSymbol bind → Str → Bool → Counted (NameList ModSymbol bind)
ins_nsᶜ id bindings full_name loaded =
    elim (ns_inserts (names_find_exact bindings id) loaded) [
      | true ↦ names_insertᶜ bindings id (item (Namespace full_name loaded))
      | false ↦ pure bindings
    ]

unfoldable pub ins_modᶜ : Str → Str → NameList ModSymbol bind → Str → Bool → Counted (NameList ModSymbol bind)
ins_modᶜ path id bindings full_name loaded = names_insertᶜ bindings id (item (Module full_name path loaded))

unfoldable pub insᶜ : Str → Str → Query → Query → NameList ModSymbol bind → Bool → Counted (NameList ModSymbol bind)
insᶜ path id [] revq bindings loaded = ins_modᶜ path id bindings (name_of_revq (id ∷ revq)) loaded
insᶜ path id (s ∷ q) revq bindings loaded = ins_nsᶜ id bindings (name_of_revq (id ∷ revq)) loaded

unfoldable pub register_module_pathᶜ : Table → Bool → Str → Query → Counted Table
register_module_pathᶜ tbl loaded path mod_query = do
  tr ← trie_mutateᶜ tbl.tbl_mods mod_query []
      (λ tr id q revq n. do
        b ← insᶜ path id q revq (bindings tr) loaded
        one (trie b n))
      (λ tr _. pure tr)
  pure (record { tbl_lids = tbl.tbl_lids; tbl_mods = tr })

-- What the departing functions build: as many, by register-module-stays-loaded-count of proofs/Counted.antt.
unfoldable pub ins_stays_loadedᶜ : Str → Str → Query → Query → NameList ModSymbol bind → Bool
    → Counted (NameList ModSymbol bind)
ins_stays_loadedᶜ path id [] revq bindings loaded =
    ins_modᶜ path id bindings (name_of_revq (id ∷ revq)) (loaded_module (names_find_exact bindings id) || loaded)
ins_stays_loadedᶜ path id (s ∷ q) revq bindings loaded = ins_nsᶜ id bindings (name_of_revq (id ∷ revq)) loaded

unfoldable pub register_module_stays_loadedᶜ : Table → Bool → Str → Query → Counted Table
register_module_stays_loadedᶜ tbl loaded path mod_query = do
  tr ← trie_mutateᶜ tbl.tbl_mods mod_query []
      (λ tr id q revq n. do
        b ← ins_stays_loadedᶜ path id q revq (bindings tr) loaded
        one (trie b n))
      (λ tr _. pure tr)
  pure (record { tbl_lids = tbl.tbl_lids; tbl_mods = tr })

-- ---- Tries entered: one for each call of trie_find_prefix'.

unfoldable pub fold_leftᶜ : {A B : Type 0} → (B → A → Counted B) → B → List A → Counted B
fold_leftᶜ f b [] = pure b
fold_leftᶜ f b (a ∷ xs) = do
  b ← f b a
  fold_leftᶜ f b xs

module _ {A : Type 0} (find : Finder A) where
  unfoldable pub find_prefix_fuelᶜ : ℕ → Trie A → PathOf → Query → List (PathOf × A) → Counted (List (PathOf × A))
  find_prefix_fuelᶜ zero tr path_acc q acc = pure acc
  find_prefix_fuelᶜ (suc n) tr path_acc q acc = do
    acc ← fold_leftᶜ (λ acc x. find_prefix_fuelᶜ n x.1 (x.0 ∷ path_acc) (tail q) acc) acc
        (find ns (namespaces tr) (ns_search_term q))
    one (rev_map_onto (λ x. (reverse (x.0 ∷ path_acc), the_item x.1))
        (find bind (bindings tr) (bindings_search_term q)) acc)

  unfoldable pub trie_find_prefix'ᶜ : Trie A → PathOf → Query → List (PathOf × A) → Counted (List (PathOf × A))
  trie_find_prefix'ᶜ tr path_acc q acc = find_prefix_fuelᶜ (suc (depth tr)) tr path_acc q acc
