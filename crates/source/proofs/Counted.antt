-- The counted forms of specs/Counted.antt: the value of each is the plain function's; how each counts.
use Prim.Native.Nat.{ℕ, zero, suc, ◌+◌, Ordering}
use mathlib.Core.Path.{◌≡◌, refl, sym, ap, ◌∙◌}
use mathlib.Core.Bool.{Bool, true, false, cond}
use mathlib.Core.List.{List, [], ◌∷◌, reverse, tail}
use native.Mathlib.Omega.{arith}
use Rattle.source.specs.Text.{Str, Query, string_compare, segments}
use Rattle.source.specs.Types.{Level, Value, Trie, Tree, NameList, bind, ns, item, trie, StrEmpty, StrBranch, []ᴺ, Names, ImportedNames, the_item}
use Rattle.source.specs.Types.{bindings, namespaces}
use Rattle.source.specs.Trees.{btree_insert_replace}
use Rattle.source.specs.Tries.{MutNode, MutLeaf, names_find_exact, names_insert, scope_of, trie_mutate, trie_mutate_leaf, trie_insert, trie_import}
use Rattle.source.specs.Tries.{trie_include, trie_open_namespace, trie_add_alias}
use Rattle.source.specs.Terms.{depth}
use Rattle.source.specs.Listing.{PathOf, fold_left, rev_map_onto, ns_search_term, bindings_search_term, names_find_rev_first, Finder, by_first}
use Rattle.source.specs.Listing.{find_prefix_fuel, trie_find_prefix'}
use Rattle.source.specs.Table.{Table, ModSymbol, Module, Namespace, insert, register_alias, register_include, register_open, ns_inserts, ins_ns, ins_mod}
use Rattle.source.specs.Table.{ins, name_of_revq, register_module_path, ins_stays_loaded, register_module_stays_loaded}
use Rattle.source.specs.Counted.{Counted, pure, one, ◌>>=◌, MutNodeᶜ, MutLeafᶜ, btree_insert_replaceᶜ, names_insertᶜ, trie_mutateᶜ, trie_mutate_leafᶜ}
use Rattle.source.specs.Counted.{trie_insertᶜ, trie_importᶜ, trie_includeᶜ, trie_open_namespaceᶜ, trie_add_aliasᶜ, lids, insertᶜ, register_aliasᶜ}
use Rattle.source.specs.Counted.{register_includeᶜ, register_openᶜ, ins_nsᶜ, ins_modᶜ, insᶜ, register_module_pathᶜ, ins_stays_loadedᶜ}
use Rattle.source.specs.Counted.{register_module_stays_loadedᶜ, fold_leftᶜ, find_prefix_fuelᶜ, trie_find_prefix'ᶜ}
use Rattle.source.specs.Calls.{Call, name, include, opens, alias, module_path, registered, records, tries_entered}
use Rattle.source.specs.Shared.{sumˡ}
use Rattle.source.specs.Plans.{insert_branches, first_tree}
use Rattle.source.specs.Forward.{entered}
use Rattle.source.specs.declared.LidSymbol.{LidSymbol}

-- A function of a choice by an order, case by case.
by_order : {B C : Type 0} (f : B → C) (o : Ordering) {x y z : B} {x' y' z' : C} → f x ≡ x' → f y ≡ y' → f z ≡ z'
    → f (elim o [ Ordering.lt ↦ x | Ordering.eq ↦ y | Ordering.gt ↦ z ])
    ≡ elim o [ Ordering.lt ↦ x' | Ordering.eq ↦ y' | Ordering.gt ↦ z' ]
by_order f Ordering.lt p q r = p
by_order f Ordering.eq p q r = q
by_order f Ordering.gt p q r = r

module _ {A : Type 0} where
  -- ---- Trees and lists of collections
  pub btree_insert_replace_value : {ℓ : Level} (bt : Tree A ℓ) (k : Str) (v : Value A ℓ)
      → (btree_insert_replaceᶜ bt k v).value ≡ btree_insert_replace bt k v
  unfolding btree_insert_replaceᶜ btree_insert_replace ◌>>=◌ one
  btree_insert_replace_value StrEmpty k v = refl
  btree_insert_replace_value (StrBranch k' v' lbt rbt) k v =
      by_order (λ (c : Counted (Tree A _)). c.value) (string_compare k k')
      (ap (λ bt. StrBranch k' v' bt rbt) (btree_insert_replace_value lbt k v)) refl (ap (StrBranch k' v' lbt) (btree_insert_replace_value rbt k v))

  pub btree_insert_replace_count : {ℓ : Level} (bt : Tree A ℓ) (k : Str) (v : Value A ℓ)
      → (btree_insert_replaceᶜ bt k v).count ≡ insert_branches bt k
  unfolding btree_insert_replaceᶜ insert_branches ◌>>=◌ one
  btree_insert_replace_count StrEmpty k v = refl
  btree_insert_replace_count (StrBranch k' v' lbt rbt) k v =
      by_order (λ (c : Counted (Tree A _)). c.count) (string_compare k k')
      (omega (arith, btree_insert_replace_count lbt k v)) refl (omega (arith, btree_insert_replace_count rbt k v))

  pub names_insert_value : {ℓ : Level} (nl : NameList A ℓ) (id : Str) (v : Value A ℓ)
      → (names_insertᶜ nl id v).value ≡ names_insert nl id v
  unfolding names_insertᶜ names_insert ◌>>=◌ one
  names_insert_value []ᴺ id v = rw btree_insert_replace_value
  names_insert_value (Names bt tl) id v = rw btree_insert_replace_value
  names_insert_value (ImportedNames label inner tl) id v = rw btree_insert_replace_value

  pub names_insert_count : {ℓ : Level} (nl : NameList A ℓ) (id : Str) (v : Value A ℓ)
      → (names_insertᶜ nl id v).count ≡ suc (insert_branches (first_tree nl) id)
  unfolding names_insertᶜ first_tree ◌>>=◌ one
  names_insert_count []ᴺ id v = omega (arith, btree_insert_replace_count StrEmpty id v)
  names_insert_count (Names bt tl) id v = omega (arith, btree_insert_replace_count bt id v)
  names_insert_count (ImportedNames label inner tl) id v = omega (arith, btree_insert_replace_count StrEmpty id v)

  -- ---- Tries
  module _ (nodeᶜ : MutNodeᶜ A) (leafᶜ : MutLeafᶜ A) (node : MutNode A) (leaf : MutLeaf A)
      (node_value : (tr : Trie A) (id : Str) (q rev_acc : Query) (nl : NameList A ns)
      → (nodeᶜ tr id q rev_acc nl).value ≡ node tr id q rev_acc nl)
      (leaf_value : (tr : Trie A) (rev_acc : Query) → (leafᶜ tr rev_acc).value ≡ leaf tr rev_acc) where
    pub trie_mutate_value : (tr : Trie A) (q rev_acc : Query)
        → (trie_mutateᶜ tr q rev_acc nodeᶜ leafᶜ).value ≡ trie_mutate tr q rev_acc node leaf
    unfolding trie_mutateᶜ trie_mutate ◌>>=◌
    trie_mutate_value tr [] rev_acc = leaf_value tr rev_acc
    trie_mutate_value tr (id ∷ q) rev_acc =
        rw (trie_mutate_value (scope_of (namespaces tr) id) q (id ∷ rev_acc), names_insert_value) (node_value tr id q rev_acc _)

  -- Nodes that count alike, whatever list they are given.
  trie_mutate_same_count : (node node' : MutNodeᶜ A) (leaf : MutLeafᶜ A)
      → ((tr : Trie A) (id : Str) (q rev_acc : Query) (nl nl' : NameList A ns)
      → (node tr id q rev_acc nl).count ≡ (node' tr id q rev_acc nl').count)
      → (tr : Trie A) (q rev_acc : Query)
      → (trie_mutateᶜ tr q rev_acc node leaf).count ≡ (trie_mutateᶜ tr q rev_acc node' leaf).count
  unfolding trie_mutateᶜ ◌>>=◌
  trie_mutate_same_count node node' leaf h tr [] rev_acc = refl
  trie_mutate_same_count node node' leaf h tr (id ∷ q) rev_acc =
      let scope = trie_mutateᶜ (scope_of (namespaces tr) id) q (id ∷ rev_acc) node leaf in
      let scope' = trie_mutateᶜ (scope_of (namespaces tr) id) q (id ∷ rev_acc) node' leaf in
      omega (
        arith,
        trie_mutate_same_count node node' leaf h (scope_of (namespaces tr) id) q (id ∷ rev_acc),
        names_insert_count (namespaces tr) id scope.value,
        names_insert_count (namespaces tr) id scope'.value,
        h tr id q rev_acc (names_insertᶜ (namespaces tr) id scope.value).value (names_insertᶜ (namespaces tr) id scope'.value).value,
      )

  pub trie_mutate_leaf_value : (leafᶜ : MutLeafᶜ A) (leaf : MutLeaf A)
      → ((tr : Trie A) (rev_acc : Query) → (leafᶜ tr rev_acc).value ≡ leaf tr rev_acc)
      → (tr : Trie A) (q : Query) → (trie_mutate_leafᶜ tr q leafᶜ).value ≡ trie_mutate_leaf tr q leaf
  unfolding trie_mutate_leafᶜ trie_mutate_leaf one
  trie_mutate_leaf_value leafᶜ leaf leaf_value tr q = trie_mutate_value _ leafᶜ _ leaf (λ tr id q rev_acc n. refl) leaf_value tr q []

  pub trie_insert_value : (tr : Trie A) (q : Query) (id : Str) (v : A)
      → (trie_insertᶜ tr q id v).value ≡ trie_insert tr q id v
  unfolding trie_insertᶜ trie_insert ◌>>=◌ one
  trie_insert_value tr q id v = trie_mutate_leaf_value _ _ (λ tr rev_acc. ap (λ b. trie b (namespaces tr)) (names_insert_value (bindings tr) id (item v))) tr q

  pub trie_include_value : (tr : Trie A) (host q : Query) → (trie_includeᶜ tr host q).value ≡ trie_include tr host q
  unfolding trie_includeᶜ trie_include trie_importᶜ trie_import ◌>>=◌ one
  trie_include_value tr host q = trie_mutate_leaf_value _ _ (λ tr rev_acc. refl) tr host

  pub trie_open_namespace_value : (tr : Trie A) (host q : Query)
      → (trie_open_namespaceᶜ tr host q).value ≡ trie_open_namespace tr host q
  unfolding trie_open_namespaceᶜ trie_open_namespace trie_importᶜ trie_import ◌>>=◌ one
  trie_open_namespace_value tr host q = trie_mutate_leaf_value _ _ (λ tr rev_acc. refl) tr host

  pub trie_add_alias_value : (tr : Trie A) (key : Str) (host q : Query)
      → (trie_add_aliasᶜ tr key host q).value ≡ trie_add_alias tr key host q
  unfolding trie_add_aliasᶜ trie_add_alias trie_importᶜ trie_import ◌>>=◌ one
  trie_add_alias_value tr key host q =
      trie_mutate_leaf_value _ _ (λ at rev_acc. trie_mutate_leaf_value _ _ (λ _ _. refl) at (key ∷ [])) tr host

-- ---- The table
lids_value : (tbl : Table) (m : Counted (Trie LidSymbol)) (tr : Trie LidSymbol) → m.value ≡ tr
    → (lids tbl m).value ≡ record { tbl_lids = tr; tbl_mods = tbl.tbl_mods }
unfolding lids ◌>>=◌ pure
lids_value tbl m tr e = ap (λ tr. record { tbl_lids = tr; tbl_mods = tbl.tbl_mods }) e

pub insert_value : (tbl : Table) (host : Query) (id : Str) (c : LidSymbol)
    → (insertᶜ tbl host id c).value ≡ insert tbl host id c
unfolding insertᶜ insert
insert_value tbl host id c = lids_value tbl _ _ (trie_insert_value tbl.tbl_lids host id c)

pub register_alias_value : (tbl : Table) (key : Str) (host q : Query)
    → (register_aliasᶜ tbl key host q).value ≡ register_alias tbl key host q
unfolding register_aliasᶜ register_alias
register_alias_value tbl key host q = lids_value tbl _ _ (trie_add_alias_value tbl.tbl_lids key host q)

pub register_include_value : (tbl : Table) (host q : Query)
    → (register_includeᶜ tbl host q).value ≡ register_include tbl host q
unfolding register_includeᶜ register_include
register_include_value tbl host q = lids_value tbl _ _ (trie_include_value tbl.tbl_lids host q)

pub register_open_value : (tbl : Table) (is_module : Bool) (host q : Query)
    → (register_openᶜ tbl is_module host q).value ≡ register_open tbl is_module host q
unfolding register_openᶜ register_open
register_open_value tbl true host q = register_include_value tbl host q
register_open_value tbl false host q = lids_value tbl _ _ (trie_open_namespace_value tbl.tbl_lids host q)

pub ins_ns_value : (id : Str) (b : NameList ModSymbol bind) (full_name : Str) (loaded : Bool)
    → (ins_nsᶜ id b full_name loaded).value ≡ ins_ns id b full_name loaded
unfolding ins_nsᶜ ins_ns pure
ins_ns_value id b full_name loaded = go (ns_inserts (names_find_exact b id) loaded)
  where
    new : Value ModSymbol bind
    new = item (Namespace full_name loaded)

    go : (inserts : Bool)
        → (elim inserts as (λ _. Counted (NameList ModSymbol bind))
        [ true ↦ names_insertᶜ b id new | false ↦ pure b ]).value
        ≡ cond inserts (names_insert b id new) b
    go true = names_insert_value b id new
    go false = refl

pub ins_mod_value : (path id : Str) (b : NameList ModSymbol bind) (full_name : Str) (loaded : Bool)
    → (ins_modᶜ path id b full_name loaded).value ≡ ins_mod path id b full_name loaded
unfolding ins_modᶜ ins_mod
ins_mod_value path id b full_name loaded = names_insert_value b id (item (Module full_name path loaded))

pub ins_value : (path id : Str) (q revq : Query) (b : NameList ModSymbol bind) (loaded : Bool)
    → (insᶜ path id q revq b loaded).value ≡ ins path id q revq b loaded
unfolding insᶜ ins
ins_value path id [] revq b loaded = ins_mod_value path id b (name_of_revq (id ∷ revq)) loaded
ins_value path id (s ∷ q) revq b loaded = ins_ns_value id b (name_of_revq (id ∷ revq)) loaded

pub register_module_path_value : (tbl : Table) (loaded : Bool) (path : Str) (q : Query)
    → (register_module_pathᶜ tbl loaded path q).value ≡ register_module_path tbl loaded path q
unfolding register_module_pathᶜ register_module_path ◌>>=◌ one pure
register_module_path_value tbl loaded path q =
    ap (λ tr. record { tbl_lids = tbl.tbl_lids; tbl_mods = tr })
    (trie_mutate_value _ _ _ _ (λ tr id q revq n. ap (λ b. trie b n) (ins_value path id q revq (bindings tr) loaded)) (λ _ _. refl) tbl.tbl_mods q [])

pub ins_stays_loaded_value : (path id : Str) (q revq : Query) (b : NameList ModSymbol bind) (loaded : Bool)
    → (ins_stays_loadedᶜ path id q revq b loaded).value ≡ ins_stays_loaded path id q revq b loaded
unfolding ins_stays_loadedᶜ ins_stays_loaded
ins_stays_loaded_value path id [] revq b loaded = ins_mod_value _ id b (name_of_revq (id ∷ revq)) _
ins_stays_loaded_value path id (s ∷ q) revq b loaded = ins_ns_value id b (name_of_revq (id ∷ revq)) loaded

pub register_module_stays_loaded_value : (tbl : Table) (loaded : Bool) (path : Str) (q : Query)
    → (register_module_stays_loadedᶜ tbl loaded path q).value ≡ register_module_stays_loaded tbl loaded path q
unfolding register_module_stays_loadedᶜ register_module_stays_loaded ◌>>=◌ one pure
register_module_stays_loaded_value tbl loaded path q =
    ap (λ tr. record { tbl_lids = tbl.tbl_lids; tbl_mods = tr })
    (trie_mutate_value _ _ _ _ (λ tr id q revq n. ap (λ b. trie b n) (ins_stays_loaded_value path id q revq (bindings tr) loaded)) (λ _ _. refl)
    tbl.tbl_mods q [])

ins_stays_loaded_count : (path id : Str) (q revq : Query) (b : NameList ModSymbol bind) (loaded : Bool)
    → (ins_stays_loadedᶜ path id q revq b loaded).count ≡ (insᶜ path id q revq b loaded).count
unfolding ins_stays_loadedᶜ insᶜ ins_modᶜ
ins_stays_loaded_count path id [] revq b loaded = names_insert_count b id _ ∙ sym (names_insert_count b id _)
ins_stays_loaded_count path id (s ∷ q) revq b loaded = refl

-- Records are the same number as the source's.
pub register_module_stays_loaded_count : (tbl : Table) (loaded : Bool) (path : Str) (q : Query)
    → (register_module_stays_loadedᶜ tbl loaded path q).count ≡ (register_module_pathᶜ tbl loaded path q).count
unfolding register_module_stays_loadedᶜ register_module_pathᶜ ◌>>=◌ one pure
register_module_stays_loaded_count tbl loaded path q =
    ap (λ c. c + 0)
    (trie_mutate_same_count _ _ _ (λ tr id q revq n n'. ap (λ c. c + 1) (ins_stays_loaded_count path id q revq (bindings tr) loaded)) tbl.tbl_mods q [])

-- ---- Calls

-- The counted form of registered.
unfoldable pub registeredᶜ : Table → Call → Counted Table
registeredᶜ tbl (name host id number) = insertᶜ tbl (segments host) id number
registeredᶜ tbl (include host included) = register_includeᶜ tbl (segments host) (segments included)
registeredᶜ tbl (opens is_module host included) = register_openᶜ tbl is_module (segments host) (segments included)
registeredᶜ tbl (alias key host included) = register_aliasᶜ tbl key (segments host) (segments included)
registeredᶜ tbl (module_path loaded query path) = register_module_stays_loadedᶜ tbl loaded path (segments query)

pub registered_value : (tbl : Table) (c : Call) → (registeredᶜ tbl c).value ≡ registered tbl c
unfolding registeredᶜ registered
registered_value tbl (name host id number) = insert_value tbl (segments host) id number
registered_value tbl (include host included) = register_include_value tbl (segments host) (segments included)
registered_value tbl (opens is_module host included) = register_open_value tbl is_module (segments host) (segments included)
registered_value tbl (alias key host included) = register_alias_value tbl key (segments host) (segments included)
registered_value tbl (module_path loaded query path) = register_module_stays_loaded_value tbl loaded path (segments query)

pub registered_count : (tbl : Table) (c : Call) → (registeredᶜ tbl c).count ≡ records tbl c
unfolding registeredᶜ records
registered_count tbl (name host id number) = refl
registered_count tbl (include host included) = refl
registered_count tbl (opens is_module host included) = refl
registered_count tbl (alias key host included) = refl
registered_count tbl (module_path loaded query path) = register_module_stays_loaded_count tbl loaded path (segments query)

-- ---- The listing
module _ {A B : Type 0} (fᶜ : B → A → Counted B) where
  pub fold_left_value : (f : B → A → B) → ((b : B) (a : A) → (fᶜ b a).value ≡ f b a) → (b : B) (xs : List A)
      → (fold_leftᶜ fᶜ b xs).value ≡ fold_left f b xs
  unfolding fold_leftᶜ fold_left ◌>>=◌ pure
  fold_left_value f h b [] = refl
  fold_left_value f h b (a ∷ xs) = rw (h b a) (fold_left_value f h (f b a) xs)

  pub fold_left_count : (c : A → ℕ) → ((b : B) (a : A) → (fᶜ b a).count ≡ c a) → (b : B) (xs : List A)
      → (fold_leftᶜ fᶜ b xs).count ≡ sumˡ c xs
  unfolding fold_leftᶜ ◌>>=◌ pure
  fold_left_count c h b [] = refl
  fold_left_count c h b (a ∷ xs) = omega (arith, h b a, fold_left_count c h (fᶜ b a).value xs)

module _ {A : Type 0} (find : Finder A) where
  pub find_prefix_fuel_value : (n : ℕ) (tr : Trie A) (path : PathOf) (q : Query) (acc : List (PathOf × A))
      → (find_prefix_fuelᶜ find n tr path q acc).value ≡ find_prefix_fuel find n tr path q acc
  unfolding find_prefix_fuelᶜ find_prefix_fuel ◌>>=◌ pure one
  find_prefix_fuel_value zero tr path q acc = refl
  find_prefix_fuel_value (suc n) tr path q acc =
      ap (rev_map_onto (λ x. (reverse (x.0 ∷ path), the_item x.1)) (find bind (bindings tr) (bindings_search_term q)))
      (fold_left_value _ _ (λ acc x. find_prefix_fuel_value n x.1 (x.0 ∷ path) (tail q) acc) acc (find ns (namespaces tr) (ns_search_term q)))

  pub trie_find_prefix_value : (tr : Trie A) (path : PathOf) (q : Query) (acc : List (PathOf × A))
      → (trie_find_prefix'ᶜ find tr path q acc).value ≡ trie_find_prefix' find tr path q acc
  unfolding trie_find_prefix'ᶜ trie_find_prefix'
  trie_find_prefix_value tr path q acc = find_prefix_fuel_value (suc (depth tr)) tr path q acc

module _ {A : Type 0} where
  -- The count depends neither on the path nor on acc.
  pub find_prefix_fuel_count : (n : ℕ) (tr : Trie A) (path : PathOf) (q : Query) (acc : List (PathOf × A))
      → (find_prefix_fuelᶜ by_first n tr path q acc).count ≡ entered n tr q
  unfolding find_prefix_fuelᶜ entered ◌>>=◌ pure one
  find_prefix_fuel_count zero tr path q acc = refl
  find_prefix_fuel_count (suc n) tr path q acc =
      omega (
        arith,
        fold_left_count (λ acc x. find_prefix_fuelᶜ by_first n x.1 (x.0 ∷ path) (tail q) acc) (λ x. entered n x.1 (tail q))
            (λ acc x. find_prefix_fuel_count n x.1 (x.0 ∷ path) (tail q) acc) acc (names_find_rev_first (namespaces tr) (ns_search_term q)),
      )

  pub tries_entered_count : (tr : Trie A) (q : Query) → tries_entered tr q ≡ entered (suc (depth tr)) tr q
  unfolding tries_entered trie_find_prefix'ᶜ
  tries_entered_count tr q = find_prefix_fuel_count (suc (depth tr)) tr [] q []
