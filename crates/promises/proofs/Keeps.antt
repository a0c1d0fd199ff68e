-- Registrations keep tries formed and look-ups give formed values; accepted calls keep tables sound (accepted-sound, made-sound).
use Prim.Native.Nat.{max, Ordering}
use mathlib.Core.Path.{◌≡◌}
use mathlib.Core.Bool.{Bool, true, false, cond}
use mathlib.Core.List.{[], ◌∷◌, reverse_aux}
use mathlib.Core.Option.{Option, none, some}
use native.Mathlib.Omega.{arith}
use borrow.Author.Tests.{ltb-false}
use Rattle.source.specs.Text.{Str, Query, string_compare, query_to_string, segments}
use Rattle.source.specs.Types.{Level, Value, Trie, Tree, NameList, bind, ns, item, trie, StrEmpty, StrBranch, []ᴺ, Names, ImportedNames, bindings, namespaces}
use Rattle.source.specs.Types.{trie_empty}
use Rattle.source.specs.Trees.{btree_find_exact}
use Rattle.source.specs.Tries.{or_else, dflt, bind_option, MutNode, MutLeaf, names_find_exact, trie_descend_exact, names_insert, scope_of, trie_mutate}
use Rattle.source.specs.Tries.{trie_mutate_leaf, trie_insert, included, trie_import, trie_include, trie_open_namespace, trie_add_alias}
use Rattle.source.specs.Terms.{heaviest, heaviest_names, depth, depth_names}
use Rattle.source.specs.Table.{ModSymbol, Namespace, Table, empty, insert, register_alias, register_include, register_open, ns_inserts, ins_ns, ins_mod}
use Rattle.source.specs.Table.{name_of_revq, ins_stays_loaded, register_module_stays_loaded}
use Rattle.source.specs.Rules.{IsKey, IsLabel, IsFullName, IsPath, NameItem, ModItem, Formed, FormedTree, FormedNames, SoundTable}
use Rattle.source.specs.Calls.{State, fresh, Lent, Call, name, include, opens, alias, module_path, arguments, registered, crowded, deep, after, accepted}
use Rattle.source.specs.Calls.{register}
use Rattle.source.specs.Shared.{Allˡ}
use Rattle.source.specs.Queries.{IsQuery}
use Rattle.source.proofs.Queries.{query_to_string_label, name_of_revq_full_name}
use Rattle.source.proofs.Refusals.{accepted_is, accepted_acceptable}
use Rattle.source.specs.Queries.{Keeps}
use Rattle.source.proofs.Keeps.{btree_insert_replace_formed, admitted_keeps}

module _ {A : Type 0} (Key Label : Str → Type 0) (Item : A → Type 0) where
  -- Formed, FormedTree and FormedNames by these rules; of an option, of the value that it has.
  abbrev pub Ok : {ℓ : Level} → Value A ℓ → Type 0
  Ok v = Formed Key Label Item v

  abbrev pub OkTree : {ℓ : Level} → Tree A ℓ → Type 0
  OkTree bt = FormedTree Key Label Item bt

  abbrev pub OkNames : {ℓ : Level} → NameList A ℓ → Type 0
  OkNames nl = FormedNames Key Label Item nl

  abbrev pub OkOption : {ℓ : Level} → Option (Value A ℓ) → Type 0
  OkOption none = Unit {0}
  OkOption (some v) = Ok v

  pub bindings_formed : (tr : Trie A) → Ok tr → OkNames (bindings tr)
  unfolding bindings
  bindings_formed (trie b n) g = g.0

  pub namespaces_formed : (tr : Trie A) → Ok tr → OkNames (namespaces tr)
  unfolding namespaces
  namespaces_formed (trie b n) g = g.1

  -- ---- look-ups
  or_else_formed : {ℓ : Level} (x y : Option (Value A ℓ)) → OkOption x → OkOption y → OkOption (or_else x y)
  unfolding or_else
  or_else_formed none y a b = b
  or_else_formed (some x) y a b = a

  dflt_formed : (o : Option (Trie A)) → OkOption o → Ok (dflt trie_empty o)
  unfolding dflt trie_empty
  dflt_formed none g = (tt, tt)
  dflt_formed (some v) g = g

  bind_option_formed : (o : Option (Trie A)) (f : Trie A → Option (Trie A))
      → OkOption o → ((tr : Trie A) → Ok tr → OkOption (f tr)) → OkOption (bind_option o f)
  unfolding bind_option
  bind_option_formed none f g h = tt
  bind_option_formed (some tr) f g h = h tr g

  pub btree_find_exact_formed : {ℓ : Level} (bt : Tree A ℓ) (k : Str) → OkTree bt → OkOption (btree_find_exact bt k)
  unfolding btree_find_exact
  btree_find_exact_formed StrEmpty k g = tt
  btree_find_exact_formed {ℓ} (StrBranch k' v lbt rbt) k g =
      go (btree_find_exact_formed lbt k g.4) (btree_find_exact_formed rbt k g.5) (string_compare k k')
    where
      go : OkOption (btree_find_exact lbt k) → OkOption (btree_find_exact rbt k) → (o : Ordering)
          → OkOption {ℓ = ℓ} (elim o [ Ordering.lt ↦ btree_find_exact lbt k | Ordering.eq ↦ some v | Ordering.gt ↦ btree_find_exact rbt k ])
      go i j Ordering.lt = i
      go i j Ordering.eq = g.1
      go i j Ordering.gt = j

  pub names_find_exact_formed : {ℓ : Level} (nl : NameList A ℓ) (k : Str) → OkNames nl
      → OkOption (names_find_exact nl k)
  unfolding names_find_exact
  names_find_exact_formed []ᴺ k g = tt
  names_find_exact_formed (Names bt tl) k g = or_else_formed _ _ (btree_find_exact_formed bt k g.0) (names_find_exact_formed tl k g.1)
  names_find_exact_formed (ImportedNames label inner tl) k g =
      or_else_formed _ _ (names_find_exact_formed inner k g.1) (names_find_exact_formed tl k g.2)

  pub trie_descend_exact_formed : (tr : Trie A) (q : Query) → Ok tr → OkOption (trie_descend_exact tr q)
  unfolding trie_descend_exact
  trie_descend_exact_formed tr [] g = g
  trie_descend_exact_formed tr (s ∷ q) g =
      bind_option_formed _ _ (names_find_exact_formed (namespaces tr) s (namespaces_formed tr g)) (λ scope h. trie_descend_exact_formed scope q h)

  pub scope_of_formed : (nl : NameList A ns) (s : Str) → OkNames nl → Ok (scope_of nl s)
  unfolding scope_of
  scope_of_formed nl s g = dflt_formed _ (names_find_exact_formed nl s g)

  pub included_formed : (tr : Trie A) (q : Query) → Ok tr → Ok (included tr q)
  unfolding included
  included_formed tr q g = dflt_formed _ (trie_descend_exact_formed tr q g)

  -- ---- inserts
  pub names_insert_formed : {ℓ : Level} (nl : NameList A ℓ) (k : Str) (v : Value A ℓ) → Key k → Ok v → OkNames nl
      → OkNames (names_insert nl k v)
  unfolding names_insert
  names_insert_formed []ᴺ k v o g t = (btree_insert_replace_formed Key Label Item StrEmpty k v o g tt, tt)
  names_insert_formed (Names bt tl) k v o g t = (btree_insert_replace_formed Key Label Item bt k v o g t.0, t.1)
  names_insert_formed (ImportedNames label inner tl) k v o g t = (btree_insert_replace_formed Key Label Item StrEmpty k v o g tt, t)

  -- ---- changes

  -- The whole query, reverse_aux rev-acc q, is the same at each step: node may use what is known of it.
  pub trie_mutate_formed : (Whole : Query → Type 0) (tr : Trie A) (q rev_acc : Query) (node : MutNode A)
      (leaf : MutLeaf A)
      → ((tr : Trie A) (id : Str) (q r : Query) (nl : NameList A ns) → Whole (reverse_aux r (id ∷ q)) → Key id → Ok tr
      → OkNames nl → Ok (node tr id q r nl))
      → ((tr : Trie A) (r : Query) → Ok tr → Ok (leaf tr r))
      → Whole (reverse_aux rev_acc q) → Allˡ Key q → Ok tr → Ok (trie_mutate tr q rev_acc node leaf)
  unfolding trie_mutate
  trie_mutate_formed Whole tr [] r node leaf hn hl w a g = hl tr r g
  trie_mutate_formed Whole tr (id ∷ q) r node leaf hn hl w a g =
      let nl = namespaces_formed tr g in
      hn tr id q r _ w a.0 g
      (names_insert_formed (namespaces tr) id _ a.0
      (trie_mutate_formed Whole (scope_of (namespaces tr) id) q (id ∷ r) node leaf hn hl w a.1 (scope_of_formed (namespaces tr) id nl)) nl)

  pub trie_mutate_leaf_formed : (tr : Trie A) (q : Query) (leaf : MutLeaf A)
      → ((tr : Trie A) (r : Query) → Ok tr → Ok (leaf tr r)) → Allˡ Key q → Ok tr → Ok (trie_mutate_leaf tr q leaf)
  unfolding trie_mutate_leaf
  trie_mutate_leaf_formed tr q leaf hl a g =
      trie_mutate_formed (λ _. Unit {0}) tr q [] _ leaf (λ tr id q r n w o t h. (bindings_formed tr t, h)) hl tt a g

  pub trie_insert_formed : (tr : Trie A) (host : Query) (id : Str) (v : A) → Allˡ Key host → Key id → Item v → Ok tr
      → Ok (trie_insert tr host id v)
  unfolding trie_insert
  trie_insert_formed tr host id v a o i g =
      trie_mutate_leaf_formed tr host _
      (λ tr r t. (names_insert_formed (bindings tr) id (item v) o i (bindings_formed tr t), namespaces_formed tr t)) a g

  pub trie_include_formed : (tr : Trie A) (host q : Query) → Allˡ Key host → Label (query_to_string q) → Ok tr
      → Ok (trie_include tr host q)
  unfolding trie_include trie_import
  trie_include_formed tr host q a o g =
      trie_mutate_leaf_formed tr host _
      (λ at r t. ((o, bindings_formed (included tr q) (included_formed tr q g), bindings_formed at t), namespaces_formed at t)) a g

  pub trie_open_namespace_formed : (tr : Trie A) (host q : Query)
      → Allˡ Key host → Label (query_to_string q) → Ok tr → Ok (trie_open_namespace tr host q)
  unfolding trie_open_namespace trie_import
  trie_open_namespace_formed tr host q a o g =
      trie_mutate_leaf_formed tr host _
      (λ at r t. (bindings_formed at t, (o, namespaces_formed (included tr q) (included_formed tr q g), namespaces_formed at t))) a g

  pub trie_add_alias_formed : (tr : Trie A) (key : Str) (host q : Query)
      → Key key → Allˡ Key host → Label (query_to_string q) → Ok tr → Ok (trie_add_alias tr key host q)
  unfolding trie_add_alias trie_import
  trie_add_alias_formed tr key host q k a o g =
      trie_mutate_leaf_formed tr host _
      (λ at r t. trie_mutate_leaf_formed at (key ∷ []) _
      (λ _ _ _. ((o, bindings_formed (included tr q) (included_formed tr q g), tt), tt)) (k, tt) t) a g

-- ---- the module table
module _ (path : Str) (loaded : Bool) (p : IsPath path) where
  ins_formed : (id : Str) (q revq : Query) (b : NameList ModSymbol bind) → IsKey id
      → IsFullName (name_of_revq (id ∷ revq))
      → FormedNames IsKey IsLabel ModItem b
      → FormedNames IsKey IsLabel ModItem (ins_stays_loaded path id q revq b loaded)
  unfolding ins_stays_loaded ins_mod ins_ns
  ins_formed id [] revq b k n g = names_insert_formed IsKey IsLabel ModItem b id _ k (n, p) g
  ins_formed id (s ∷ q) revq b k n g = go (ns_inserts (names_find_exact b id) loaded)
    where
      go : (c : Bool) → FormedNames IsKey IsLabel ModItem
          (cond c (names_insert b id (item (Namespace (name_of_revq (id ∷ revq)) loaded))) b)
      go true = names_insert_formed IsKey IsLabel ModItem b id _ k n g
      go false = g

  pub register_module_stays_loaded_formed : (tbl : Table) (q : Query) → IsQuery q
      → Formed IsKey IsLabel ModItem tbl.tbl_mods
      → Formed IsKey IsLabel ModItem (register_module_stays_loaded tbl loaded path q).tbl_mods
  unfolding register_module_stays_loaded
  register_module_stays_loaded_formed tbl q i g =
      trie_mutate_formed IsKey IsLabel ModItem IsQuery tbl.tbl_mods q [] _ _
      (λ tr id q r n w k t h. (ins_formed id q r (bindings tr) k (name_of_revq_full_name id r q w) (bindings_formed IsKey IsLabel ModItem tr t), h))
      (λ tr r t. t) i i.keys g

-- ---- calls

-- Both roots are formed.
pub record FormedTable (tbl : Table) : Type 0 where
  pub lids : Formed IsKey IsLabel NameItem tbl.tbl_lids
  pub mods : Formed IsKey IsLabel ModItem tbl.tbl_mods

register_include_formed : (tbl : Table) (host q : Query) → IsQuery host → IsQuery q → FormedTable tbl
    → FormedTable (register_include tbl host q)
unfolding register_include
register_include_formed tbl host q h i f = record {
  lids = trie_include_formed IsKey IsLabel NameItem tbl.tbl_lids host q h.keys (query_to_string_label q i) f.lids;
  mods = f.mods;
}

pub registered_formed : (tbl : Table) (c : Call) → Allˡ Keeps (arguments c) → FormedTable tbl
    → FormedTable (registered tbl c)
unfolding registered arguments insert register_open register_alias register_module_stays_loaded
registered_formed tbl (name host id number) k f = record {
  lids = trie_insert_formed IsKey IsLabel NameItem tbl.tbl_lids (segments host) id number k.0.keys k.1.0 tt f.lids;
  mods = f.mods;
}
registered_formed tbl (include host included) k f = register_include_formed tbl (segments host) (segments included) k.0 k.1.0 f
registered_formed tbl (opens true host included) k f = register_include_formed tbl (segments host) (segments included) k.0 k.1.0 f
registered_formed tbl (opens false host included) k f = record {
  lids = trie_open_namespace_formed IsKey IsLabel NameItem tbl.tbl_lids (segments host) (segments included)
      k.0.keys (query_to_string_label (segments included) k.1.0) f.lids;
  mods = f.mods;
}
registered_formed tbl (alias key host included) k f = record {
  lids = trie_add_alias_formed IsKey IsLabel NameItem tbl.tbl_lids key (segments host) (segments included)
      k.0 k.1.0.keys (query_to_string_label (segments included) k.1.1.0) f.lids;
  mods = f.mods;
}
registered_formed tbl (module_path loaded query path) k f = record {
  lids = f.lids;
  mods = register_module_stays_loaded_formed path loaded k.1.0 tbl (segments query) k.0 f.mods;
}

-- Formed, and rows 5 and 6 passed.
formed_sound : (tbl : Table) → FormedTable tbl → crowded tbl ≡ false → deep tbl ≡ false → SoundTable tbl
unfolding crowded deep
formed_sound tbl f c d =
    let w = ltb-false 96 (max (heaviest tbl.tbl_lids) (heaviest tbl.tbl_mods)) c in
    let h = ltb-false 16 (max (depth tbl.tbl_lids) (depth tbl.tbl_mods)) d in
    record {
      lids = record { formed = f.lids; light = omega (arith, w); shallow = omega (arith, h) };
      mods = record { formed = f.mods; light = omega (arith, w); shallow = omega (arith, h) };
    }

pub accepted_sound : (sound : Bool) (lent : Lent) (σ σ' : State) (c : Call)
    → SoundTable σ.table → register sound lent σ c ≡ accepted σ' → SoundTable σ'.table
unfolding after
accepted_sound sound lent σ σ' c t e =
    let a = accepted_acceptable sound lent σ σ' c e in
    let f = registered_formed σ.table c (admitted_keeps sound (arguments c) a.admitted) (record { lids = t.lids.formed; mods = t.mods.formed }) in
    rw (accepted_is sound lent σ σ' c e) (formed_sound (registered σ.table c) f a.light a.shallow)

pub fresh_sound : SoundTable fresh.table
unfolding fresh empty trie_empty heaviest heaviest_names depth depth_names
fresh_sound =
    record {
      lids = record { formed = (tt, tt); light = omega arith; shallow = omega arith };
      mods = record { formed = (tt, tt); light = omega arith; shallow = omega arith };
    }

-- The states that accepted calls make from the fresh one.
pub data Made : State → Type 0 where
  made_fresh : Made fresh
  made_by : {σ σ' : State} (sound : Bool) (lent : Lent) (c : Call) → Made σ → register sound lent σ c ≡ accepted σ'
      → Made σ'

pub made_sound : {σ : State} → Made σ → SoundTable σ.table
made_sound made_fresh = fresh_sound
made_sound (made_by sound lent c m e) = accepted_sound sound lent _ _ c (made_sound m) e
