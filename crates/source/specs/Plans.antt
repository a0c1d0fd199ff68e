-- What a registration would make, planned before anything is built: the new depth, the heaviest new list, the records.
-- Each plan goes down the host's path and looks at the lists on it. PlannedDepth, PlannedWeight and PlannedRecords prove them exact.
use Prim.Native.Nat.{Ordering}
use Rattle.std.specs.Prelude.{ℕ, suc, ◌+◌, max, Bool, true, false, cond, [], ◌∷◌, ltb, length}
use Rattle.source.specs.Limits.{heaviest_list}
use Rattle.source.specs.Text.{Str, Query, string_compare, segments}
use Rattle.source.specs.Types.{Level, Trie, Tree, StrEmpty, StrBranch, NameList, bind, []ᴺ, Names, ImportedNames, bindings, namespaces}
use Rattle.source.specs.Tries.{names_find_exact, scope_of, included}
use Rattle.source.specs.Terms.{weight, depth}
use Rattle.source.specs.Table.{ModSymbol, Table, ns_inserts}
use Rattle.source.specs.Calls.{Call, name, include, opens, alias, module_path}

-- ---- Paths
module _ {A : Type 0} where
  -- The trie at a query, a namespace that is not there counting as empty.
  unfoldable pub host_of : Trie A → Query → Trie A
  host_of tr [] = tr
  host_of tr (s ∷ q) = host_of (scope_of (namespaces tr) s) q

module _ {A B : Type 0} (op : B → B → B) (step : Trie A → Str → Query → B) (end : Trie A → B) where
  -- Down the path of a query: what each step gives (the trie, its segment, the segments left), and at the host the end.
  unfoldable pub along : Trie A → Query → B
  along tr [] = end tr
  along tr (s ∷ q) = op (step tr s q) (along (scope_of (namespaces tr) s) q)

-- ---- Insertions
module _ {A : Type 0} where
  -- The branches that btree_insert_replace builds.
  unfoldable pub insert_branches : {ℓ : Level} → Tree A ℓ → Str → ℕ
  insert_branches StrEmpty k = 1
  insert_branches (StrBranch k' v lbt rbt) k =
      elim (string_compare k k') [
        | Ordering.lt ↦ suc (insert_branches lbt k)
        | Ordering.eq ↦ 1
        | Ordering.gt ↦ suc (insert_branches rbt k)
      ]

  -- The tree that names_insert inserts into.
  unfoldable pub first_tree : {ℓ : Level} → NameList A ℓ → Tree A ℓ
  first_tree []ᴺ = StrEmpty
  first_tree (Names bt tl) = bt
  first_tree (ImportedNames label inner tl) = StrEmpty

module _ {A : Type 0} {ℓ : Level} where
  -- The weight of a list after names_insert.
  unfoldable pub inserted_weight : NameList A ℓ → ℕ
  inserted_weight []ᴺ = 1
  inserted_weight (Names bt tl) = weight (Names bt tl)
  inserted_weight (ImportedNames label inner tl) = suc (weight (ImportedNames label inner tl))

  -- The records that names_insert builds.
  unfoldable pub inserted_records : NameList A ℓ → Str → ℕ
  inserted_records nl id = suc (insert_branches (first_tree nl) id)

-- Whether ins inserts, by the segments left.
unfoldable pub ins_inserts : Bool → NameList ModSymbol bind → Str → Query → Bool
ins_inserts loaded b id [] = true
ins_inserts loaded b id (s ∷ q) = ns_inserts (names_find_exact b id) loaded

-- ---- Steps and hosts
module _ {A : Type 0} where
  unfoldable pub step_records : Trie A → Str → Query → ℕ
  step_records tr s q = suc (inserted_records (namespaces tr) s)

  unfoldable pub name_records : Str → Trie A → ℕ
  name_records id at = suc (inserted_records (bindings at) id)

  -- Of an include and of an open.
  unfoldable pub import_records : Trie A → ℕ
  import_records at = 2

  unfoldable pub alias_records : Str → Trie A → ℕ
  alias_records key at = suc (inserted_records (namespaces at) key) + 2

  unfoldable pub step_weight : Trie A → Str → Query → ℕ
  step_weight tr s q = inserted_weight (namespaces tr)

  unfoldable pub name_weight : Trie A → ℕ
  name_weight at = inserted_weight (bindings at)

  unfoldable pub include_weight : (inc at : Trie A) → ℕ
  include_weight inc at = suc (weight (bindings inc) + weight (bindings at))

  unfoldable pub open_weight : (inc at : Trie A) → ℕ
  open_weight inc at = suc (weight (namespaces inc) + weight (namespaces at))

  unfoldable pub alias_weight : (inc at : Trie A) → ℕ
  alias_weight inc at = max (inserted_weight (namespaces at)) (suc (weight (bindings inc)))

unfoldable pub module_step_records : Bool → Trie ModSymbol → Str → Query → ℕ
module_step_records loaded tr s q =
    suc (inserted_records (namespaces tr) s)
    + cond (ins_inserts loaded (bindings tr) s q) (inserted_records (bindings tr) s) 0

unfoldable pub module_step_weight : Bool → Trie ModSymbol → Str → Query → ℕ
module_step_weight loaded tr s q =
    max (inserted_weight (namespaces tr))
    (cond (ins_inserts loaded (bindings tr) s q) (inserted_weight (bindings tr)) 0)

-- The host of a module's query is left as it is.
unfoldable pub module_host : Trie ModSymbol → ℕ
module_host at = 0

-- ---- Plans

-- Over 16 exactly where a root of the new table has depth over 16.
unfoldable pub plan_depth : Table → Call → ℕ
plan_depth tbl (name host id number) = length (segments host)
plan_depth tbl (include host inc) = length (segments host)
plan_depth tbl (opens true host inc) = length (segments host)
plan_depth tbl (opens false host inc) = length (segments host) + depth (included tbl.tbl_lids (segments inc))
plan_depth tbl (alias key host inc) = length (segments host) + 1
plan_depth tbl (module_path loaded query path) = length (segments query)

-- Over 96 exactly where a list of the new table weighs over 96.
unfoldable pub plan_weight : Table → Call → ℕ
plan_weight tbl (name host id number) = along max step_weight name_weight tbl.tbl_lids (segments host)
plan_weight tbl (include host inc) =
    along max step_weight (include_weight (included tbl.tbl_lids (segments inc))) tbl.tbl_lids (segments host)
plan_weight tbl (opens true host inc) =
    along max step_weight (include_weight (included tbl.tbl_lids (segments inc))) tbl.tbl_lids (segments host)
plan_weight tbl (opens false host inc) =
    along max step_weight (open_weight (included tbl.tbl_lids (segments inc))) tbl.tbl_lids (segments host)
plan_weight tbl (alias key host inc) =
    along max step_weight (alias_weight (included tbl.tbl_lids (segments inc))) tbl.tbl_lids (segments host)
plan_weight tbl (module_path loaded query path) =
    along max (module_step_weight loaded) module_host tbl.tbl_mods (segments query)

unfoldable pub plan_crowded : Table → Call → Bool
plan_crowded tbl c = ltb heaviest_list (plan_weight tbl c)

-- The records of the call.
unfoldable pub plan_records : Table → Call → ℕ
plan_records tbl (name host id number) = along ◌+◌ step_records (name_records id) tbl.tbl_lids (segments host)
plan_records tbl (include host inc) = along ◌+◌ step_records import_records tbl.tbl_lids (segments host)
plan_records tbl (opens is_module host inc) = along ◌+◌ step_records import_records tbl.tbl_lids (segments host)
plan_records tbl (alias key host inc) = along ◌+◌ step_records (alias_records key) tbl.tbl_lids (segments host)
plan_records tbl (module_path loaded query path) =
    along ◌+◌ (module_step_records loaded) module_host tbl.tbl_mods (segments query)
