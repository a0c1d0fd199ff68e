-- plan_weight is over 96 exactly where a list of the new table weighs over 96.
use Prim.Native.Nat.{ℕ, suc, ◌+◌, ◌≤◌, max}
use mathlib.Core.Path.{◌≡◌, refl, ◌∙◌}
use mathlib.Core.Bool.{Bool, true, false, cond, ◌||◌, or_assoc}
use mathlib.Core.List.{[], ◌∷◌}
use native.Mathlib.Omega.{arith}
use lib.Dec.{ltb}
use Rattle.source.specs.Text.{Str, Query, query_to_string, segments}
use Rattle.source.specs.Types.{Level, Trie, NameList, bind, ns, item, trie, []ᴺ, ImportedNames, bindings, namespaces}
use Rattle.source.specs.Tries.{MutNode, names_find_exact, names_insert, scope_of, trie_mutate, trie_mutate_leaf, trie_insert, included, trie_import}
use Rattle.source.specs.Tries.{trie_include, trie_open_namespace, trie_add_alias}
use Rattle.source.specs.Terms.{weight, heaviest, heaviest_names}
use Rattle.source.specs.Table.{Table, ModSymbol, Namespace, insert, register_alias, register_include, register_open, ns_inserts, name_of_revq, ins_ns}
use Rattle.source.specs.Table.{ins_mod, ins, register_module_path, register_module_stays_loaded}
use Rattle.source.specs.Rules.{SoundTable}
use Rattle.source.specs.Calls.{Call, name, include, opens, alias, module_path, registered, crowded}
use Rattle.source.proofs.Hosts.{included_host}
use Rattle.source.proofs.StaysLoaded.{stays_loaded_heaviest}
use Rattle.source.specs.Plans.{along, inserted_weight, ins_inserts, step_weight, name_weight, include_weight, open_weight, alias_weight}
use Rattle.source.specs.Plans.{module_step_weight, module_host, plan_weight, plan_crowded}
use Rattle.source.proofs.Measures.{over_left, over_right, over_both, over_ltb, ltb_max, heaviest_lists, scope_of_heaviest, host_of_heaviest}
use Rattle.source.proofs.Measures.{names_insert_heaviest}

-- ---- Changes, where no old list weighs more than m
module _ (m : ℕ) {A : Type 0} where
  module _ (node : MutNode A) (leaf : Trie A → Trie A) (step : Trie A → Str → Query → ℕ) (end : Trie A → ℕ)
      (node_weight : (tr : Trie A) (id : Str) (q rev_acc : Query) (v : Trie A) → heaviest tr ≤ m
      → max m (heaviest (node tr id q rev_acc (names_insert (namespaces tr) id v)))
      ≡ max m (max (step tr id q) (heaviest v)))
      (leaf_weight : (at : Trie A) → heaviest at ≤ m → max m (heaviest (leaf at)) ≡ max m (end at)) where
    pub trie_mutate_weight : (tr : Trie A) (q rev_acc : Query) → heaviest tr ≤ m
        → max m (heaviest (trie_mutate tr q rev_acc node (λ at _. leaf at))) ≡ max m (along max step end tr q)
    unfolding trie_mutate along
    trie_mutate_weight tr [] rev_acc h = leaf_weight tr h
    trie_mutate_weight tr (id ∷ q) rev_acc h =
        node_weight tr id q rev_acc _ h
        ∙ over_both m _ _ _ _ refl
        (trie_mutate_weight (scope_of (namespaces tr) id) q (id ∷ rev_acc) (omega (arith, scope_of_heaviest (namespaces tr) id, heaviest_lists tr)))

  -- A new namespaces list beside old bindings, and the other way round.
  beside_bindings : (tr : Trie A) (nl : NameList A ns) → heaviest tr ≤ m
      → max m (heaviest (trie (bindings tr) nl)) ≡ max m (heaviest_names nl)
  unfolding heaviest
  beside_bindings tr nl h = over_right m _ _ (omega (arith, heaviest_lists tr))

  beside_namespaces : (tr : Trie A) (b : NameList A bind) → heaviest tr ≤ m
      → max m (heaviest (trie b (namespaces tr))) ≡ max m (heaviest_names b)
  unfolding heaviest
  beside_namespaces tr b h = over_left m _ _ (omega (arith, heaviest_lists tr))

  module _ (leaf : Trie A → Trie A) (end : Trie A → ℕ)
      (leaf_weight : (at : Trie A) → heaviest at ≤ m → max m (heaviest (leaf at)) ≡ max m (end at)) where
    trie_mutate_leaf_weight : (tr : Trie A) (q : Query) → heaviest tr ≤ m
        → max m (heaviest (trie_mutate_leaf tr q (λ at _. leaf at))) ≡ max m (along max step_weight end tr q)
    unfolding trie_mutate_leaf step_weight
    trie_mutate_leaf_weight tr q h =
        trie_mutate_weight _ leaf step_weight end
        (λ tr id q rev_acc v h. beside_bindings tr _ h ∙ names_insert_heaviest m (namespaces tr) id v (omega (arith, heaviest_lists tr)))
        leaf_weight tr q [] h

  insert_item_weight : (b : NameList A bind) (id : Str) (v : A) → heaviest_names b ≤ m
      → max m (heaviest_names (names_insert b id (item v))) ≡ max m (inserted_weight b)
  unfolding heaviest
  insert_item_weight b id v h = names_insert_heaviest m b id (item v) h ∙ over_left m _ 0 (omega arith)

  imported_weight : {ℓ : Level} (label : Str) (x y : NameList A ℓ) → heaviest_names x ≤ m → heaviest_names y ≤ m
      → max m (heaviest_names (ImportedNames label x y)) ≡ max m (suc (weight x + weight y))
  unfolding heaviest_names weight
  imported_weight label x y h k = over_left m _ _ (omega arith)

  -- The trie that an alias puts at its key.
  fresh_weight : (label : Str) (b : NameList A bind) → heaviest_names b ≤ m
      → max m (heaviest (trie (ImportedNames label b []ᴺ) []ᴺ)) ≡ max m (suc (weight b))
  unfolding heaviest weight
  fresh_weight label b h = over_left m _ 0 (omega arith) ∙ imported_weight label b []ᴺ h (omega arith) ∙ omega arith

  module _ (tr : Trie A) (h : heaviest tr ≤ m) where
    included_light : (q : Query) → heaviest (included tr q) ≤ m
    included_light q = rw included_host (omega (arith, host_of_heaviest tr q))

    pub trie_insert_weight : (host : Query) (id : Str) (v : A)
        → max m (heaviest (trie_insert tr host id v)) ≡ max m (along max step_weight name_weight tr host)
    unfolding trie_insert name_weight
    trie_insert_weight host id v =
        trie_mutate_leaf_weight _ name_weight
        (λ at k. beside_namespaces at (names_insert (bindings at) id (item v)) k ∙ insert_item_weight (bindings at) id v (omega (arith, heaviest_lists at)))
        tr host h

    pub trie_include_weight : (host q : Query)
        → max m (heaviest (trie_include tr host q))
        ≡ max m (along max step_weight (include_weight (included tr q)) tr host)
    unfolding trie_include trie_import include_weight
    trie_include_weight host q =
        let l = included_light q in
        trie_mutate_leaf_weight _ (include_weight (included tr q))
        (λ at k. beside_namespaces at (ImportedNames (query_to_string q) (bindings (included tr q)) (bindings at)) k
        ∙ imported_weight (query_to_string q) (bindings (included tr q)) (bindings at)
        (omega (arith, heaviest_lists (included tr q))) (omega (arith, heaviest_lists at))) tr host h

    pub trie_open_namespace_weight : (host q : Query)
        → max m (heaviest (trie_open_namespace tr host q))
        ≡ max m (along max step_weight (open_weight (included tr q)) tr host)
    unfolding trie_open_namespace trie_import open_weight
    trie_open_namespace_weight host q =
        let l = included_light q in
        trie_mutate_leaf_weight _ (open_weight (included tr q))
        (λ at k. beside_bindings at (ImportedNames (query_to_string q) (namespaces (included tr q)) (namespaces at)) k
        ∙ imported_weight (query_to_string q) (namespaces (included tr q)) (namespaces at)
        (omega (arith, heaviest_lists (included tr q))) (omega (arith, heaviest_lists at))) tr host h

    pub trie_add_alias_weight : (key : Str) (host q : Query)
        → max m (heaviest (trie_add_alias tr key host q))
        ≡ max m (along max step_weight (alias_weight (included tr q)) tr host)
    unfolding trie_add_alias trie_import alias_weight step_weight along
    trie_add_alias_weight key host q =
        let l = included_light q in
        let fresh = fresh_weight (query_to_string q) (bindings (included tr q)) (omega (arith, heaviest_lists (included tr q))) in
        trie_mutate_leaf_weight _ (alias_weight (included tr q))
        (λ at k. trie_mutate_leaf_weight _ (λ _. suc (weight (bindings (included tr q)))) (λ _ _. fresh) at (key ∷ []) k) tr host h

-- ---- The module table
module _ (m : ℕ) (path : Str) (loaded : Bool) where
  ins_weight : (id : Str) (q revq : Query) (b : NameList ModSymbol bind) → heaviest_names b ≤ m
      → max m (heaviest_names (ins path id q revq b loaded))
      ≡ max m (cond (ins_inserts loaded b id q) (inserted_weight b) 0)
  unfolding ins ins_mod ins_ns ins_inserts
  ins_weight id [] revq b h = insert_item_weight m b id _ h
  ins_weight id (s ∷ q) revq b h = go (ns_inserts (names_find_exact b id) loaded)
    where
      go : (c : Bool)
          → max m (heaviest_names (cond c (names_insert b id (item (Namespace (name_of_revq (id ∷ revq)) loaded))) b))
          ≡ max m (cond c (inserted_weight b) 0)
      go true = insert_item_weight m b id _ h
      go false = omega arith

  pub register_module_path_weight : (tbl : Table) (q : Query) → heaviest tbl.tbl_mods ≤ m
      → max m (heaviest (register_module_path tbl loaded path q).tbl_mods)
      ≡ max m (along max (module_step_weight loaded) module_host tbl.tbl_mods q)
  unfolding register_module_path module_step_weight module_host heaviest
  register_module_path_weight tbl q h =
      trie_mutate_weight m _ (λ tr. tr) (module_step_weight loaded) module_host
      (λ tr id q revq v h. over_both m _ _ _ _
      (ins_weight id q revq (bindings tr) (omega (arith, heaviest_lists tr))) (names_insert_heaviest m (namespaces tr) id v (omega (arith, heaviest_lists tr)))
      ∙ regroup _ (inserted_weight (namespaces tr)) (heaviest v)) (λ at k. omega arith) tbl.tbl_mods q [] h
    where
      regroup : (b n v : ℕ) → max m (max b (max n v)) ≡ max m (max (max n b) v)
      regroup b n v = omega arith

-- ---- Calls
registered_weight : (tbl : Table) (c : Call) → SoundTable tbl
    → max 96 (max (heaviest (registered tbl c).tbl_lids) (heaviest (registered tbl c).tbl_mods))
    ≡ max 96 (plan_weight tbl c)
unfolding registered plan_weight insert register_include register_open register_alias register_module_stays_loaded
registered_weight tbl (name host id number) t =
    over_left 96 _ _ t.mods.light ∙ trie_insert_weight 96 tbl.tbl_lids t.lids.light (segments host) id number
registered_weight tbl (include host inc) t =
    over_left 96 _ _ t.mods.light ∙ trie_include_weight 96 tbl.tbl_lids t.lids.light (segments host) (segments inc)
registered_weight tbl (opens true host inc) t =
    over_left 96 _ _ t.mods.light ∙ trie_include_weight 96 tbl.tbl_lids t.lids.light (segments host) (segments inc)
registered_weight tbl (opens false host inc) t =
    over_left 96 _ _ t.mods.light ∙ trie_open_namespace_weight 96 tbl.tbl_lids t.lids.light (segments host) (segments inc)
registered_weight tbl (alias key host inc) t =
    over_left 96 _ _ t.mods.light ∙ trie_add_alias_weight 96 tbl.tbl_lids t.lids.light key (segments host) (segments inc)
registered_weight tbl (module_path loaded query path) t =
    over_right 96 _ _ t.lids.light ∙ rw stays_loaded_heaviest (register_module_path_weight 96 path loaded tbl (segments query) t.mods.light)

pub crowded_planned : (tbl : Table) (c : Call) → SoundTable tbl → crowded (registered tbl c) ≡ plan_crowded tbl c
unfolding crowded plan_crowded
crowded_planned tbl c t = over_ltb 96 _ _ (registered_weight tbl c t)

-- One step of a loop that keeps whether a list so far was over 96.
pub crowded_onto : {A : Type 0} (step : Trie A → Str → Query → ℕ) (end : Trie A → ℕ) (so_far : Bool) (tr : Trie A)
    (s : Str) (q : Query)
    → so_far || ltb 96 (along max step end tr (s ∷ q))
    ≡ (so_far || ltb 96 (step tr s q)) || ltb 96 (along max step end (scope_of (namespaces tr) s) q)
unfolding along
crowded_onto step end so_far tr s q = rw (ltb_max, or_assoc)
