-- A change from the first segment on is the function for its call, with the records of the source's.
use Prim.Native.Nat.{ℕ, ◌-◌, ◌≤◌, max}
use mathlib.Core.Path.{◌≡◌, ap}
use mathlib.Core.Bool.{Bool, false}
use mathlib.Core.List.{List, []}
use native.Mathlib.Omega.{arith}
use borrow.Author.Tests.{ltb-false}
use Rattle.source.specs.Text.{Str, Query, query_to_string, segments}
use Rattle.source.specs.Types.{Trie, trie, bindings}
use Rattle.source.specs.Tries.{included}
use Rattle.source.specs.Terms.{heaviest, depth}
use Rattle.source.specs.Table.{Table, ModSymbol, insert, register_alias, register_include, register_open}
use Rattle.source.specs.Counted.{Counted, pure, one, ◌>>=◌, trie_mutateᶜ, trie_mutate_leafᶜ, trie_insertᶜ, trie_importᶜ, trie_includeᶜ, trie_open_namespaceᶜ}
use Rattle.source.specs.Counted.{trie_add_aliasᶜ, ins_stays_loadedᶜ, lids, insertᶜ, register_aliasᶜ, register_includeᶜ, register_openᶜ}
use Rattle.source.specs.Counted.{register_module_stays_loadedᶜ}
use Rattle.source.specs.Calls.{Call, name, include, opens, alias, module_path, registered, records, crowded, deep}
use Rattle.source.proofs.Counted.{trie_insert_value, trie_include_value, trie_open_namespace_value, trie_add_alias_value, register_module_stays_loaded_value}
use Rattle.source.proofs.Counted.{register_module_stays_loaded_count}
use Rattle.source.specs.declared.LidSymbol.{LidSymbol}
use Rattle.memory.specs.Layout.{span, Which, names, modules, Item, trieˢ, what}
use Rattle.memory.specs.Read.{text_of}
use Rattle.insert_record.specs.Made.{Room}
use Rattle.register_kind.specs.declared.CallKind.TheVariants.{Name, Include, Open, Alias, Module}
use Rattle.register_leaf.specs.declared.Change.{Change}
use Rattle.register_leaf.specs.Leaves.{with_kind, label_in, leaf_by, Fits}
use Rattle.register_change.specs.Changes.{between, passed, node_of, bindings_by, mutated}

module _ (ws txt : List ℕ) (at end : ℕ) where
  nothing_passed : passed txt at at ≡ []
  unfolding span segments
  nothing_passed = let z : at - at ≡ 0 = omega arith in rw z

  module _ (ch : Change) where
    pub name_change : (tr : Trie LidSymbol) (x : LidSymbol)
        → mutated ws txt (with_kind (Name x.kind x.number) ch) tr at at end
        ≡ trie_insertᶜ tr (between txt at end) (text_of txt ch.text) x
    unfolding trie_insertᶜ trie_mutate_leafᶜ node_of leaf_by bindings_by pure one ◌>>=◌
    name_change tr x = rw nothing_passed

    -- The label, and the included trie.
    module _ (tr : Trie LidSymbol) (q : Query) (e : text_of txt (label_in ch.text) ≡ query_to_string q)
        (f : what names ws txt ch.inc trieˢ ≡ included tr q) where
      pub include_change : mutated ws txt (with_kind Include ch) tr at at end ≡ trie_includeᶜ tr (between txt at end) q
      unfolding trie_includeᶜ trie_importᶜ trie_mutate_leafᶜ node_of leaf_by bindings_by pure one ◌>>=◌
      include_change = rw nothing_passed (simp (e, f))

      pub open_change : mutated ws txt (with_kind Open ch) tr at at end ≡ trie_open_namespaceᶜ tr (between txt at end) q
      unfolding trie_open_namespaceᶜ trie_importᶜ trie_mutate_leafᶜ node_of leaf_by bindings_by pure one ◌>>=◌
      open_change = rw nothing_passed (simp (e, f))

      pub alias_change : mutated ws txt (with_kind Alias ch) tr at at end
          ≡ trie_add_aliasᶜ tr (text_of txt ch.key) (between txt at end) q
      unfolding trie_add_aliasᶜ trie_importᶜ trie_mutate_leafᶜ trie_mutateᶜ node_of leaf_by bindings_by pure one ◌>>=◌
      alias_change = rw nothing_passed (simp (e, f))

    pub module_change : (tr : Trie ModSymbol) (loaded : Bool)
        → mutated ws txt (with_kind (Module loaded) ch) tr at at end
        ≡ trie_mutateᶜ tr (between txt at end) []
        (λ tr id q revq n. ins_stays_loadedᶜ (text_of txt ch.text) id q revq (bindings tr) loaded >>= λ b. one
        (trie b n)) (λ tr _. pure tr)
    unfolding node_of leaf_by bindings_by
    module_change tr loaded = rw nothing_passed

-- ---- Calls
abbrev pub root_of : (w : Which) → Table → Trie (Item w)
root_of names tbl = tbl.tbl_lids
root_of modules tbl = tbl.tbl_mods

-- The counted trie m is the root that a call leaves, with the call's records.
pub record Registers (tbl : Table) (c : Call) (w : Which) (m : Counted (Trie (Item w))) : Type 0 where
  pub root : m.value ≡ root_of w (registered tbl c)
  pub number : m.count ≡ records tbl c

module _ (ws txt : List ℕ) (at end : ℕ) (tbl : Table) (host : Str) (h : between txt at end ≡ segments host)
    (ch : Change) where
  pub name_registers : (id : Str) (x : LidSymbol) → text_of txt ch.text ≡ id
      → Registers tbl (name host id x) names
      (mutated ws txt (with_kind (Name x.kind x.number) ch) tbl.tbl_lids at at end)
  unfolding registered insert records insertᶜ lids pure ◌>>=◌
  name_registers id x e = rw (name_change ws txt at end, h, e) (record { root = trie_insert_value tbl.tbl_lids (segments host) id x; number = omega arith })

  module _ (q : Str) (e : text_of txt (label_in ch.text) ≡ query_to_string (segments q))
      (f : what names ws txt ch.inc trieˢ ≡ included tbl.tbl_lids (segments q)) where
    pub include_registers : Registers tbl (include host q) names
        (mutated ws txt (with_kind Include ch) tbl.tbl_lids at at end)
    unfolding registered register_include records register_includeᶜ lids pure ◌>>=◌
    include_registers =
        rw (include_change ws txt at end ch tbl.tbl_lids (segments q) e f, h)
        (record { root = trie_include_value tbl.tbl_lids (segments host) (segments q); number = omega arith })

    pub alias_registers : (key : Str) → text_of txt ch.key ≡ key
        → Registers tbl (alias key host q) names (mutated ws txt (with_kind Alias ch) tbl.tbl_lids at at end)
    unfolding registered register_alias records register_aliasᶜ lids pure ◌>>=◌
    alias_registers key g =
        rw (alias_change ws txt at end ch tbl.tbl_lids (segments q) e f, h, g)
        (record { root = trie_add_alias_value tbl.tbl_lids key (segments host) (segments q); number = omega arith })

    pub open_registers : Registers tbl (opens false host q) names
        (mutated ws txt (with_kind Open ch) tbl.tbl_lids at at end)
    unfolding registered register_open records register_openᶜ lids pure ◌>>=◌
    open_registers =
        rw (open_change ws txt at end ch tbl.tbl_lids (segments q) e f, h)
        (record { root = trie_open_namespace_value tbl.tbl_lids (segments host) (segments q); number = omega arith })

  pub module_registers : (loaded : Bool) (file : Str) → text_of txt ch.text ≡ file
      → Registers tbl (module_path loaded host file) modules
      (mutated ws txt (with_kind (Module loaded) ch) tbl.tbl_mods at at end)
  unfolding registered records register_module_stays_loadedᶜ pure ◌>>=◌
  module_registers loaded file e =
      rw (module_change ws txt at end, h, e)
      (record {
        root = ap (λ (tab : Table). tab.tbl_mods) (register_module_stays_loaded_value tbl loaded file (segments host));
        number = omega (arith, register_module_stays_loaded_count tbl loaded file (segments host));
      })

-- What the change asks, of a call that rows 5 to 7 let through.
pub registers_fits : {ws : List ℕ} {n : ℕ} {tbl : Table} {c : Call} (w : Which) {m : Counted (Trie (Item w))}
    → Registers tbl c w m
    → crowded (registered tbl c) ≡ false → deep (registered tbl c) ≡ false → Room ws n (records tbl c) → Fits ws n m
unfolding crowded deep
registers_fits {tbl = tbl} {c} w r light shallow room =
    let l = ltb-false 96 (max (heaviest (registered tbl c).tbl_lids) (heaviest (registered tbl c).tbl_mods)) light in
    let d = ltb-false 16 (max (depth (registered tbl c).tbl_lids) (depth (registered tbl c).tbl_mods)) shallow in
    record {
      room = rw r.number room;
      light = rw r.root (of_root w heaviest_of 96 (omega arith) (omega arith));
      shallow = rw r.root (of_root w depth_of 16 (omega arith) (omega arith));
    }
  where
    heaviest_of : (w : Which) → ℕ
    heaviest_of w = heaviest (root_of w (registered tbl c))

    depth_of : (w : Which) → ℕ
    depth_of w = depth (root_of w (registered tbl c))

    of_root : (w : Which) (f : Which → ℕ) (m : ℕ) → f names ≤ m → f modules ≤ m → f w ≤ m
    of_root names f m a b = a
    of_root modules f m a b = b
