-- plan_depth is over 16 exactly where a root of the new table has depth over 16.
use Prim.Native.Nat.{ℕ, suc, pred, ◌+◌, ◌≤◌, max}
use mathlib.Core.Path.{◌≡◌, refl, ◌∙◌}
use mathlib.Core.Bool.{Bool, true, false}
use mathlib.Core.List.{[], ◌∷◌}
use native.Mathlib.Omega.{arith}
use lib.Dec.{ltb}
use lib.ListN.{length}
use Rattle.source.specs.Text.{Str, Query, segments}
use Rattle.source.specs.Types.{Trie, NameList, ns, namespaces}
use Rattle.source.specs.Tries.{MutNode, scope_of, trie_mutate, trie_mutate_leaf, trie_insert, included, trie_import, trie_include, trie_open_namespace}
use Rattle.source.specs.Tries.{trie_add_alias}
use Rattle.source.specs.Terms.{depth, depth_names}
use Rattle.source.specs.Table.{Table, insert, register_alias, register_include, register_open, register_module_path, register_module_stays_loaded}
use Rattle.source.specs.Rules.{SoundTable}
use Rattle.source.specs.Calls.{Call, name, include, opens, alias, module_path, registered, deep}
use Rattle.source.specs.Plans.{host_of}
use Rattle.source.specs.Plans.{plan_depth}
use Rattle.source.proofs.StaysLoaded.{stays_loaded_depth}
use Rattle.source.proofs.Measures.{depth_namespaces, scope_of_depth, host_of_depth, names_insert_depth, over_left, over_right, over_ltb}

-- One step down: the depth x after an insertion of depth y, where i + d is planned for y.
step_over : (m x y i d : ℕ) → max m x ≡ max m (suc y) → max (pred m) y ≡ max (pred m) (i + d)
    → max m x ≡ max m (suc i + d)
step_over m x y i d p q = omega arith

module _ {A : Type 0} where
  module _ (node : MutNode A) (leaf : Trie A → Trie A)
      (node_depth : (tr : Trie A) (id : Str) (q rev_acc : Query) (nl : NameList A ns)
      → depth (node tr id q rev_acc nl) ≡ depth_names nl) where
    -- The old depth is at most m: over m, the new depth is the query's length and the depth of the new host.
    pub trie_mutate_depth : (m : ℕ) (tr : Trie A) (q rev_acc : Query) → depth tr ≤ m
        → max m (depth (trie_mutate tr q rev_acc node (λ at _. leaf at)))
        ≡ max m (length q + depth (leaf (host_of tr q)))
    unfolding trie_mutate host_of
    trie_mutate_depth m tr [] rev_acc h = omega arith
    trie_mutate_depth m tr (id ∷ q) rev_acc h =
        let nl : NameList A ns = namespaces tr in
        let v : Trie A = trie_mutate (scope_of nl id) q (id ∷ rev_acc) node (λ at _. leaf at) in
        let i = trie_mutate_depth (pred m) (scope_of nl id) q (id ∷ rev_acc) (omega (arith, scope_of_depth nl id, depth_namespaces tr)) in
        rw node_depth (step_over m _ (depth v) (length q) _ (names_insert_depth m nl id v (omega (arith, depth_namespaces tr))) i)

  pub trie_mutate_leaf_depth : (m : ℕ) (tr : Trie A) (q : Query) (leaf : Trie A → Trie A) → depth tr ≤ m
      → max m (depth (trie_mutate_leaf tr q (λ at _. leaf at))) ≡ max m (length q + depth (leaf (host_of tr q)))
  unfolding trie_mutate_leaf depth
  trie_mutate_leaf_depth m tr q leaf h = trie_mutate_depth _ leaf (λ tr id q rev_acc n. refl) m tr q [] h

  module _ (m : ℕ) (tr : Trie A) (h : depth tr ≤ m) where
    -- The old host gives no depth over m.
    host_only : (q : Query) → max m (length q + depth (host_of tr q)) ≡ max m (length q)
    host_only q = omega (arith, host_of_depth tr q)

    host_over : (q : Query) (x y : ℕ) → max (depth (host_of tr q)) x ≡ max (depth (host_of tr q)) y
        → max m (length q + x) ≡ max m (length q + y)
    host_over q x y e = omega (arith, host_of_depth tr q)

    pub trie_insert_depth : (host : Query) (id : Str) (v : A)
        → max m (depth (trie_insert tr host id v)) ≡ max m (length host)
    unfolding trie_insert depth
    trie_insert_depth host id v = trie_mutate_leaf_depth m tr host _ h ∙ rw (← depth_namespaces) (host_only host)

    pub trie_include_depth : (host q : Query) → max m (depth (trie_include tr host q)) ≡ max m (length host)
    unfolding trie_include trie_import depth
    trie_include_depth host q = trie_mutate_leaf_depth m tr host _ h ∙ rw (← depth_namespaces) (host_only host)

    pub trie_open_namespace_depth : (host q : Query)
        → max m (depth (trie_open_namespace tr host q)) ≡ max m (length host + depth (included tr q))
    unfolding trie_open_namespace trie_import depth_names
    trie_open_namespace_depth host q =
        trie_mutate_leaf_depth m tr host _ h
        ∙ host_over host _ _ (rw (← depth_namespaces (included tr q), ← depth_namespaces (host_of tr host)) (omega arith))

    pub trie_add_alias_depth : (key : Str) (host q : Query)
        → max m (depth (trie_add_alias tr key host q)) ≡ max m (length host + 1)
    unfolding trie_add_alias trie_import depth_names
    trie_add_alias_depth key host q =
        trie_mutate_leaf_depth m tr host _ h ∙ host_over host _ 1 (trie_mutate_leaf_depth _ (host_of tr host) (key ∷ []) _ (omega arith))

pub register_module_path_depth : (m : ℕ) (tbl : Table) (loaded : Bool) (path : Str) (q : Query)
    → depth tbl.tbl_mods ≤ m
    → max m (depth (register_module_path tbl loaded path q).tbl_mods) ≡ max m (length q)
unfolding register_module_path depth
register_module_path_depth m tbl loaded path q h =
    trie_mutate_depth _ (λ tr. tr) (λ tr id q rev_acc n. refl) m tbl.tbl_mods q [] h ∙ host_only m tbl.tbl_mods h q

-- ---- Calls
registered_depth : (tbl : Table) (c : Call) → SoundTable tbl
    → max 16 (max (depth (registered tbl c).tbl_lids) (depth (registered tbl c).tbl_mods)) ≡ max 16 (plan_depth tbl c)
unfolding registered plan_depth insert register_include register_open register_alias register_module_stays_loaded
registered_depth tbl (name host id number) t =
    over_left 16 _ _ t.mods.shallow ∙ trie_insert_depth 16 tbl.tbl_lids t.lids.shallow (segments host) id number
registered_depth tbl (include host inc) t =
    over_left 16 _ _ t.mods.shallow ∙ trie_include_depth 16 tbl.tbl_lids t.lids.shallow (segments host) (segments inc)
registered_depth tbl (opens true host inc) t =
    over_left 16 _ _ t.mods.shallow ∙ trie_include_depth 16 tbl.tbl_lids t.lids.shallow (segments host) (segments inc)
registered_depth tbl (opens false host inc) t =
    over_left 16 _ _ t.mods.shallow ∙ trie_open_namespace_depth 16 tbl.tbl_lids t.lids.shallow (segments host) (segments inc)
registered_depth tbl (alias key host inc) t =
    over_left 16 _ _ t.mods.shallow ∙ trie_add_alias_depth 16 tbl.tbl_lids t.lids.shallow key (segments host) (segments inc)
registered_depth tbl (module_path loaded query path) t =
    over_right 16 _ _ t.lids.shallow ∙ rw stays_loaded_depth (register_module_path_depth 16 tbl loaded path (segments query) t.mods.shallow)

pub deep_planned : (tbl : Table) (c : Call) → SoundTable tbl → deep (registered tbl c) ≡ ltb 16 (plan_depth tbl c)
unfolding deep
deep_planned tbl c t = over_ltb 16 _ _ (registered_depth tbl c t)
