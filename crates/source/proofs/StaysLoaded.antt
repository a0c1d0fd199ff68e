-- Where the registration of a module departs from the source (stays-loaded-departs), and what that leaves as it was.
use Prim.Native.Nat.{ℕ, suc, max, Ordering}
use mathlib.Core.Path.{◌≡◌, refl}
use mathlib.Core.Bool.{Bool, true, false, not, cond, ◌&&◌, ◌||◌}
use mathlib.Core.List.{[], ◌∷◌}
use Rattle.source.specs.Text.{Str, Query, string_compare}
use Rattle.source.specs.Types.{Level, Value, Trie, Tree, NameList, bind, item, trie, StrEmpty, StrBranch, []ᴺ, Names, ImportedNames, bindings}
use Rattle.source.specs.Types.{namespaces}
use Rattle.source.specs.Trees.{btree_insert_replace}
use Rattle.source.specs.Tries.{MutNode, names_find_exact, names_insert, scope_of, trie_find_exact, trie_mutate}
use Rattle.source.specs.Terms.{weight, heaviest, heaviest_tree, heaviest_names, depth, depth_tree, depth_names}
use Rattle.source.specs.Table.{ModSymbol, Module, Namespace, Table, ins_ns, ins_mod, name_of_revq, ins, register_module_path, loaded_module}
use Rattle.source.specs.Table.{ins_stays_loaded}
use Rattle.source.specs.Table.{register_module_stays_loaded, find_module_or_ns}
use Rattle.source.specs.StaysLoaded.{at_key, in_front, load, loaded_at, StaysLoaded}
use Rattle.source.proofs.Order.{compare_self}
use Rattle.source.proofs.ModuleRules.{find_in}

-- ---- What was put at a key is changed there
module _ {A : Type 0} {ℓ : Level} where
  at_key_inserted : (bt : Tree A ℓ) (k : Str) (v : Value A ℓ) (f : Value A ℓ → Value A ℓ)
      → at_key (btree_insert_replace bt k v) k f ≡ btree_insert_replace bt k (f v)
  unfolding at_key btree_insert_replace
  at_key_inserted StrEmpty k v f = rw (compare_self k, at_key)
  at_key_inserted (StrBranch k' u lbt rbt) k v f =
      go (string_compare k k') refl (at_key_inserted lbt k v f) (at_key_inserted rbt k v f)
    where
      by : Ordering → Value A ℓ → Tree A ℓ
      by o v = elim o [
        | Ordering.lt ↦ StrBranch k' u (btree_insert_replace lbt k v) rbt
        | Ordering.eq ↦ StrBranch k' v lbt rbt
        | Ordering.gt ↦ StrBranch k' u lbt (btree_insert_replace rbt k v)
      ]

      go : (o : Ordering) → string_compare k k' ≡ o
          → at_key (btree_insert_replace lbt k v) k f ≡ btree_insert_replace lbt k (f v)
          → at_key (btree_insert_replace rbt k v) k f ≡ btree_insert_replace rbt k (f v)
          → at_key (by o v) k f ≡ by o (f v)
      go Ordering.lt e i j = rw (e, at_key, i)
      go Ordering.eq e i j = rw (e, at_key)
      go Ordering.gt e i j = rw (e, at_key, j)

  in_front_inserted : (nl : NameList A ℓ) (k : Str) (v : Value A ℓ) (f : Value A ℓ → Value A ℓ)
      → in_front (names_insert nl k v) k f ≡ names_insert nl k (f v)
  unfolding in_front names_insert
  in_front_inserted []ᴺ k v f = rw (at_key_inserted StrEmpty k v f)
  in_front_inserted (Names bt tl) k v f = rw (at_key_inserted bt k v f)
  in_front_inserted (ImportedNames label inner tl) k v f = rw (at_key_inserted StrEmpty k v f)

-- ---- Where a registration departs
module _ (path : Str) (loaded : Bool) where
  -- mut_node of either function
  abbrev source_node : MutNode ModSymbol
  source_node = λ tr id q revq n. trie (ins path id q revq (bindings tr) loaded) n

  abbrev node : MutNode ModSymbol
  node = λ tr id q revq n. trie (ins_stays_loaded path id q revq (bindings tr) loaded) n

  abbrev either : Bool → Trie ModSymbol → Query → Trie ModSymbol
  either b tr q = cond b (loaded_at tr q) tr

  departs : (tr : Trie ModSymbol) (q rev : Query)
      → trie_mutate tr q rev node (λ tr _. tr)
      ≡ either (loaded_module (trie_find_exact tr q) && not loaded) (trie_mutate tr q rev source_node (λ tr _. tr)) q
  unfolding trie_mutate trie_find_exact loaded_module loaded_at ins ins_stays_loaded ins_mod bindings namespaces
  departs tr [] rev = refl
  departs tr (s ∷ []) rev = go (loaded_module (names_find_exact (bindings tr) s)) loaded
    where
      symbol : Bool → Value ModSymbol bind
      symbol test = item (Module (name_of_revq (s ∷ rev)) path test)

      put : Bool → Trie ModSymbol
      put test = trie (names_insert (bindings tr) s (symbol test)) (names_insert (namespaces tr) s (scope_of (namespaces tr) s))

      go : (m test : Bool) → put (m || test) ≡ either (m && not test) (put test) (s ∷ [])
      go true true = refl
      go true false = rw in_front_inserted
      go false test = refl
  departs tr (s ∷ (t ∷ q)) rev = rw (← find_in tr s (t ∷ q), departs (scope_of (namespaces tr) s) (t ∷ q) (s ∷ rev))
      (go (loaded_module (trie_find_exact (scope_of (namespaces tr) s) (t ∷ q)) && not loaded))
    where
      below : Trie ModSymbol
      below = trie_mutate (scope_of (namespaces tr) s) (t ∷ q) (s ∷ rev) source_node (λ tr _. tr)

      beside : Trie ModSymbol → Trie ModSymbol
      beside x = trie (ins_ns s (bindings tr) (name_of_revq (s ∷ rev)) loaded) (names_insert (namespaces tr) s x)

      go : (b : Bool) → beside (either b below (t ∷ q)) ≡ either b (beside below) (s ∷ (t ∷ q))
      go true = rw in_front_inserted
      go false = refl

-- For every table and call.
pub stays_loaded_departs : (tbl : Table) (loaded : Bool) (path : Str) (q : Query) → StaysLoaded tbl loaded path q
unfolding register_module_path register_module_stays_loaded find_module_or_ns
stays_loaded_departs tbl loaded path q = record { names_are = refl; modules_are = departs path loaded tbl.tbl_mods q [] }

-- ---- Weight and depth, so rows 5 and 6, are the source's

-- What is measured of a tree by its values, where these measure the same.
module _ {ℓ : Level} (f : Value ModSymbol ℓ → Value ModSymbol ℓ) (of_Tree : Tree ModSymbol ℓ → ℕ)
    (of_value : Value ModSymbol ℓ → ℕ)
    (by : (v lbt rbt : ℕ) → ℕ) where
  at_key_measure : ((k : Str) (v : Value ModSymbol ℓ) (lbt rbt : Tree ModSymbol ℓ)
      → of_Tree (StrBranch k v lbt rbt) ≡ by (of_value v) (of_Tree lbt) (of_Tree rbt))
      → ((v : Value ModSymbol ℓ) → of_value (f v) ≡ of_value v)
      → (bt : Tree ModSymbol ℓ) (k : Str) → of_Tree (at_key bt k f) ≡ of_Tree bt
  unfolding at_key
  at_key_measure step same StrEmpty k = refl
  at_key_measure step same (StrBranch k' v lbt rbt) k =
      go (string_compare k k') (at_key_measure step same lbt k) (at_key_measure step same rbt k)
    where
      go : (o : Ordering) → of_Tree (at_key lbt k f) ≡ of_Tree lbt → of_Tree (at_key rbt k f) ≡ of_Tree rbt
          → of_Tree (elim o [
            | Ordering.lt ↦ StrBranch k' v (at_key lbt k f) rbt
            | Ordering.eq ↦ StrBranch k' (f v) lbt rbt
            | Ordering.gt ↦ StrBranch k' v lbt (at_key rbt k f)
          ]) ≡ of_Tree (StrBranch k' v lbt rbt)
      go Ordering.lt i j = rw (step k' v (at_key lbt k f) rbt, i, step k' v lbt rbt)
      go Ordering.eq i j = rw (step k' (f v) lbt rbt, same v, step k' v lbt rbt)
      go Ordering.gt i j = rw (step k' v lbt (at_key rbt k f), j, step k' v lbt rbt)

module _ {ℓ : Level} (f : Value ModSymbol ℓ → Value ModSymbol ℓ) where
  in_front_heaviest : ((v : Value ModSymbol ℓ) → heaviest (f v) ≡ heaviest v) → (nl : NameList ModSymbol ℓ) (k : Str)
      → heaviest_names (in_front nl k f) ≡ heaviest_names nl
  unfolding in_front heaviest weight
  in_front_heaviest h []ᴺ k = refl
  in_front_heaviest h (Names bt tl) k =
      rw (at_key_measure f heaviest_tree heaviest (λ v l r. max v (max l r)) (λ k v l r. refl) h bt k)
  in_front_heaviest h (ImportedNames label inner tl) k = refl

  in_front_depth : ((v : Value ModSymbol ℓ) → depth (f v) ≡ depth v) → (nl : NameList ModSymbol ℓ) (k : Str)
      → depth_names (in_front nl k f) ≡ depth_names nl
  unfolding in_front depth
  in_front_depth h []ᴺ k = refl
  in_front_depth h (Names bt tl) k =
      rw (at_key_measure f depth_tree depth (λ v l r. max (suc v) (max l r)) (λ k v l r. refl) h bt k)
  in_front_depth h (ImportedNames label inner tl) k = refl

load_measures : (v : Value ModSymbol bind) → (heaviest (load v) ≡ heaviest v) × (depth (load v) ≡ depth v)
unfolding heaviest depth
load_measures (item (Module name path loaded)) = (refl, refl)
load_measures (item (Namespace name loaded)) = (refl, refl)

loaded_at_heaviest : (q : Query) (tr : Trie ModSymbol) → heaviest (loaded_at tr q) ≡ heaviest tr
unfolding loaded_at heaviest bindings namespaces
loaded_at_heaviest [] tr = refl
loaded_at_heaviest (s ∷ []) (trie b n) = rw (in_front_heaviest load (λ v. (load_measures v).0) b s)
loaded_at_heaviest (s ∷ (t ∷ q)) (trie b n) = rw (in_front_heaviest (λ scope. loaded_at scope (t ∷ q)) (loaded_at_heaviest (t ∷ q)) n s)

loaded_at_depth : (q : Query) (tr : Trie ModSymbol) → depth (loaded_at tr q) ≡ depth tr
unfolding loaded_at depth bindings namespaces
loaded_at_depth [] tr = refl
loaded_at_depth (s ∷ []) (trie b n) = refl
loaded_at_depth (s ∷ (t ∷ q)) (trie b n) = rw (in_front_depth (λ scope. loaded_at scope (t ∷ q)) (loaded_at_depth (t ∷ q)) n s)

module _ (tbl : Table) (loaded : Bool) (path : Str) (q : Query) where
  same_measure : (f : Trie ModSymbol → ℕ) → ((tr : Trie ModSymbol) → f (loaded_at tr q) ≡ f tr)
      → f (register_module_stays_loaded tbl loaded path q).tbl_mods
      ≡ f (register_module_path tbl loaded path q).tbl_mods
  same_measure f h = rw (stays_loaded_departs tbl loaded path q).modules_are (go (loaded_module (find_module_or_ns tbl q) && not loaded))
    where
      source_mods : Trie ModSymbol
      source_mods = (register_module_path tbl loaded path q).tbl_mods

      go : (b : Bool) → f (cond b (loaded_at source_mods q) source_mods) ≡ f source_mods
      go true = h source_mods
      go false = refl

  pub stays_loaded_heaviest : heaviest (register_module_stays_loaded tbl loaded path q).tbl_mods
      ≡ heaviest (register_module_path tbl loaded path q).tbl_mods
  stays_loaded_heaviest = same_measure heaviest (loaded_at_heaviest q)

  pub stays_loaded_depth : depth (register_module_stays_loaded tbl loaded path q).tbl_mods
      ≡ depth (register_module_path tbl loaded path q).tbl_mods
  stays_loaded_depth = same_measure depth (loaded_at_depth q)
