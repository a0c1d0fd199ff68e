-- plan_records is the number of records that the call builds.
use Prim.Native.Nat.{ℕ, ◌+◌}
use mathlib.Core.Path.{◌≡◌, refl, sym, ◌∙◌}
use mathlib.Core.Bool.{Bool, true, false, cond}
use mathlib.Core.List.{[], ◌∷◌}
use native.Mathlib.Nat.{add_assoc, add-zero}
use native.Mathlib.Omega.{arith}
use Rattle.source.specs.Text.{Str, Query, segments}
use Rattle.source.specs.Types.{Level, Value, Trie, NameList, bind, ns, item, bindings, namespaces}
use Rattle.source.specs.Tries.{names_find_exact, scope_of}
use Rattle.source.specs.Table.{Table, ModSymbol, Namespace, ns_inserts, name_of_revq}
use Rattle.source.specs.Counted.{Counted, pure, one, ◌>>=◌, MutNodeᶜ, MutLeafᶜ, names_insertᶜ, trie_mutateᶜ, trie_mutate_leafᶜ, trie_insertᶜ}
use Rattle.source.specs.Counted.{trie_importᶜ, trie_includeᶜ, trie_open_namespaceᶜ, trie_add_aliasᶜ, lids, insertᶜ, register_aliasᶜ, register_includeᶜ}
use Rattle.source.specs.Counted.{register_openᶜ, ins_nsᶜ, ins_modᶜ, insᶜ, register_module_pathᶜ}
use Rattle.source.specs.Calls.{Call, name, include, opens, alias, module_path, records}
use Rattle.source.proofs.Counted.{names_insert_count}
use Rattle.source.specs.Plans.{along, inserted_records, ins_inserts, step_records, name_records, import_records, alias_records, module_step_records}
use Rattle.source.specs.Plans.{module_host, plan_records}

module _ {A : Type 0} where
  names_insert_records : {ℓ : Level} (nl : NameList A ℓ) (id : Str) (v : Value A ℓ)
      → (names_insertᶜ nl id v).count ≡ inserted_records nl id
  unfolding inserted_records
  names_insert_records nl id v = names_insert_count nl id v

  module _ (node : MutNodeᶜ A) (leaf : MutLeafᶜ A) (step : Trie A → Str → Query → ℕ) (end : Trie A → ℕ)
      (node_records : (tr : Trie A) (id : Str) (q rev_acc : Query) (nl : NameList A ns)
      → inserted_records (namespaces tr) id + (node tr id q rev_acc nl).count ≡ step tr id q)
      (leaf_records : (tr : Trie A) (rev_acc : Query) → (leaf tr rev_acc).count ≡ end tr) where
    pub trie_mutate_records : (tr : Trie A) (q rev_acc : Query)
        → (trie_mutateᶜ tr q rev_acc node leaf).count ≡ along ◌+◌ step end tr q
    unfolding trie_mutateᶜ ◌>>=◌ along
    trie_mutate_records tr [] rev_acc = leaf_records tr rev_acc
    trie_mutate_records tr (id ∷ q) rev_acc =
        let scope : Counted (Trie A) = trie_mutateᶜ (scope_of (namespaces tr) id) q (id ∷ rev_acc) node leaf in
        let nl : NameList A ns = (names_insertᶜ (namespaces tr) id scope.value).value in
        omega (
          arith,
          trie_mutate_records (scope_of (namespaces tr) id) q (id ∷ rev_acc),
          names_insert_records (namespaces tr) id scope.value,
          node_records tr id q rev_acc nl,
        )

  module _ (leaf : MutLeafᶜ A) (end : Trie A → ℕ)
      (leaf_records : (tr : Trie A) (rev_acc : Query) → (leaf tr rev_acc).count ≡ end tr) where
    trie_mutate_leaf_records : (tr : Trie A) (q : Query)
        → (trie_mutate_leafᶜ tr q leaf).count ≡ along ◌+◌ step_records end tr q
    unfolding trie_mutate_leafᶜ step_records one
    trie_mutate_leaf_records tr q = trie_mutate_records _ leaf step_records end (λ tr id q rev_acc n. omega arith) leaf_records tr q []

  pub trie_insert_records : (tr : Trie A) (host : Query) (id : Str) (v : A)
      → (trie_insertᶜ tr host id v).count ≡ along ◌+◌ step_records (name_records id) tr host
  unfolding trie_insertᶜ name_records ◌>>=◌ one
  trie_insert_records tr host id v =
      trie_mutate_leaf_records _ (name_records id) (λ at rev_acc. omega (arith, names_insert_records (bindings at) id (item v))) tr host

  pub trie_include_records : (tr : Trie A) (host q : Query)
      → (trie_includeᶜ tr host q).count ≡ along ◌+◌ step_records import_records tr host
  unfolding trie_includeᶜ trie_importᶜ import_records ◌>>=◌ one
  trie_include_records tr host q = trie_mutate_leaf_records _ import_records (λ at rev_acc. refl) tr host

  pub trie_open_namespace_records : (tr : Trie A) (host q : Query)
      → (trie_open_namespaceᶜ tr host q).count ≡ along ◌+◌ step_records import_records tr host
  unfolding trie_open_namespaceᶜ trie_importᶜ import_records ◌>>=◌ one
  trie_open_namespace_records tr host q = trie_mutate_leaf_records _ import_records (λ at rev_acc. refl) tr host

  pub trie_add_alias_records : (tr : Trie A) (key : Str) (host q : Query)
      → (trie_add_aliasᶜ tr key host q).count ≡ along ◌+◌ step_records (alias_records key) tr host
  unfolding trie_add_aliasᶜ trie_importᶜ alias_records step_records along ◌>>=◌ one
  trie_add_alias_records tr key host q =
      trie_mutate_leaf_records _ (alias_records key) (λ at rev_acc. trie_mutate_leaf_records _ (λ _. 2) (λ _ _. refl) at (key ∷ [])) tr host

-- ---- The module table
ins_records : (path id : Str) (q revq : Query) (b : NameList ModSymbol bind) (loaded : Bool)
    → (insᶜ path id q revq b loaded).count ≡ cond (ins_inserts loaded b id q) (inserted_records b id) 0
unfolding insᶜ ins_modᶜ ins_nsᶜ ins_inserts pure
ins_records path id [] revq b loaded = names_insert_records b id _
ins_records path id (s ∷ q) revq b loaded = go (ns_inserts (names_find_exact b id) loaded)
  where
    new : Value ModSymbol bind
    new = item (Namespace (name_of_revq (id ∷ revq)) loaded)

    go : (inserts : Bool)
        → (elim inserts as (λ _. Counted (NameList ModSymbol bind))
        [ true ↦ names_insertᶜ b id new | false ↦ pure b ]).count
        ≡ cond inserts (inserted_records b id) 0
    go true = names_insert_records b id new
    go false = refl

register_module_path_records : (tbl : Table) (loaded : Bool) (path : Str) (q : Query)
    → (register_module_pathᶜ tbl loaded path q).count
    ≡ along ◌+◌ (module_step_records loaded) module_host tbl.tbl_mods q
unfolding register_module_pathᶜ module_step_records module_host ◌>>=◌ one pure
register_module_path_records tbl loaded path q =
    add-zero _
    ∙ trie_mutate_records _ _ (module_step_records loaded) module_host
    (λ tr id q revq n. omega (arith, ins_records path id q revq (bindings tr) loaded)) (λ _ _. refl) tbl.tbl_mods q []

-- ---- Calls
pub records_planned : (tbl : Table) (c : Call) → records tbl c ≡ plan_records tbl c
unfolding records plan_records insertᶜ register_includeᶜ register_openᶜ register_aliasᶜ lids ◌>>=◌ pure
records_planned tbl (name host id number) = omega (arith, trie_insert_records tbl.tbl_lids (segments host) id number)
records_planned tbl (include host inc) = omega (arith, trie_include_records tbl.tbl_lids (segments host) (segments inc))
records_planned tbl (opens true host inc) = omega (arith, trie_include_records tbl.tbl_lids (segments host) (segments inc))
records_planned tbl (opens false host inc) = omega (arith, trie_open_namespace_records tbl.tbl_lids (segments host) (segments inc))
records_planned tbl (alias key host inc) = omega (arith, trie_add_alias_records tbl.tbl_lids key (segments host) (segments inc))
records_planned tbl (module_path loaded query path) = register_module_path_records tbl loaded path (segments query)

-- One step of a loop that keeps the records so far.
pub records_onto : {A : Type 0} (step : Trie A → Str → Query → ℕ) (end : Trie A → ℕ) (so_far : ℕ) (tr : Trie A)
    (s : Str) (q : Query)
    → so_far + along ◌+◌ step end tr (s ∷ q) ≡ so_far + step tr s q + along ◌+◌ step end (scope_of (namespaces tr) s) q
unfolding along
records_onto step end so_far tr s q = sym (add_assoc so_far (step tr s q) _)
