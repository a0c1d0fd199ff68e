-- The module rules, by what look-up finds in the module table: a Module always replaces, and stays loaded in place of a loaded one;
-- a Namespace replaces only an unloaded Namespace, and only when loaded; nothing else changes.
use mathlib.Core.Path.{◌≡◌, refl, sym, ap, ◌∙◌}
use mathlib.Core.Logic.{◌⊎◌, inl, inr}
use mathlib.Core.Bool.{Bool, true, false, cond, ◌||◌}
use mathlib.Core.List.{[], ◌∷◌, ◌++◌, reverse, reverse_aux, reverse-cons, reverse-reverse}
use mathlib.Core.Option.{Option, none, some}
use Rattle.source.specs.Text.{Str, Query, query_to_string}
use Rattle.source.specs.Types.{Trie, NameList, bind, item, trie, bindings, namespaces, trie_empty}
use Rattle.source.specs.Tries.{dflt, bind_option, MutNode, MutLeaf, names_find_exact, names_insert, scope_of, trie_find_exact, trie_mutate}
use Rattle.source.specs.Table.{ModSymbol, Module, Namespace, Table, ns_inserts, ins_ns, ins_mod, name_of_revq, loaded_module, ins_stays_loaded}
use Rattle.source.specs.Table.{register_module_stays_loaded, mod_annotation, find_module_or_ns}
use Rattle.source.specs.Plans.{host_of}
use Rattle.source.proofs.Quoted.{bytes}
use Rattle.source.proofs.Imports.{names_find_inserted}
use Rattle.source.proofs.Elsewhere.{key_same_or_not, names_find_other}

-- ---- look-up below a namespace
module _ {A : Type 0} where
  find_step : (tr : Trie A) (h : Str) (p : Query) (s : Str)
      → trie_find_exact tr (h ∷ (p ++ (s ∷ [])))
      ≡ bind_option (names_find_exact (namespaces tr) h) (λ scope. trie_find_exact scope (p ++ (s ∷ [])))
  unfolding trie_find_exact
  find_step tr h [] s = refl
  find_step tr h (k ∷ p) s = refl

  pub find_in : (tr : Trie A) (h : Str) (q : Query)
      → trie_find_exact (scope_of (namespaces tr) h) q
      ≡ bind_option (names_find_exact (namespaces tr) h) (λ scope. trie_find_exact scope q)
  unfolding scope_of dflt bind_option trie_find_exact trie_empty bindings namespaces names_find_exact
  find_in tr h q = go (names_find_exact (namespaces tr) h) q
    where
      go : (o : Option (Trie A)) (q : Query)
          → trie_find_exact (dflt trie_empty o) q ≡ bind_option o (λ scope. trie_find_exact scope q)
      go none [] = refl
      go none (s ∷ []) = refl
      go none (s ∷ (t ∷ q)) = refl
      go (some scope) q = refl

  -- look-up of a full name is a find in the bindings of its host
  pub find_at_host : (tr : Trie A) (p : Query) (s : Str)
      → trie_find_exact tr (p ++ (s ∷ [])) ≡ names_find_exact (bindings (host_of tr p)) s
  unfolding trie_find_exact host_of
  find_at_host tr [] s = refl
  find_at_host tr (h ∷ p) s = find_step tr h p s ∙ sym (find_in tr h (p ++ (s ∷ []))) ∙ find_at_host (scope_of (namespaces tr) h) p s

-- ---- the change
module _ (path : Str) (loaded : Bool) where
  -- register_module_path's mut_node and mut_leaf
  abbrev node : MutNode ModSymbol
  node = λ tr id q revq n. trie (ins_stays_loaded path id q revq (bindings tr) loaded) n

  abbrev leaf : MutLeaf ModSymbol
  leaf = λ tr _. tr

  changed_at : (tr : Trie ModSymbol) (p : Query) (s : Str) (rest rev : Query)
      → trie_find_exact (trie_mutate tr (p ++ (s ∷ rest)) rev node leaf) (p ++ (s ∷ []))
      ≡ names_find_exact (ins_stays_loaded path s rest (reverse_aux p rev) (bindings (host_of tr p)) loaded) s
  unfolding trie_mutate trie_find_exact bindings namespaces host_of bind_option
  changed_at tr [] s rest rev = refl
  changed_at tr (h ∷ p) s rest rev =
      find_step (trie_mutate tr (h ∷ (p ++ (s ∷ rest))) rev node leaf) h p s
      ∙ rw (names_find_inserted, bind_option) (changed_at (scope_of (namespaces tr) h) p s rest (h ∷ rev))

  ins_other : (id : Str) (q revq : Query) (b : NameList ModSymbol bind) (k : Str) → (k ≡ id → ⊥)
      → names_find_exact (ins_stays_loaded path id q revq b loaded) k ≡ names_find_exact b k
  unfolding ins_stays_loaded ins_mod ins_ns
  ins_other id [] revq b k d = names_find_other b id k _ d
  ins_other id (s ∷ q) revq b k d = go (ns_inserts (names_find_exact b id) loaded)
    where
      go : (c : Bool) → names_find_exact
          (cond c (names_insert b id (item (Namespace (name_of_revq (id ∷ revq)) loaded))) b) k ≡ names_find_exact b k
      go true = names_find_other b id k _ d
      go false = refl

  -- a query that is no beginning of the module query
  changed_elsewhere : (tr : Trie ModSymbol) (q rev o : Query) → ((rest : Query) → q ≡ o ++ rest → ⊥)
      → trie_find_exact (trie_mutate tr q rev node leaf) o ≡ trie_find_exact tr o
  unfolding trie_mutate trie_find_exact bindings namespaces bind_option
  changed_elsewhere tr [] rev o d = refl
  changed_elsewhere tr (h ∷ q) rev [] d = refl
  changed_elsewhere tr (h ∷ q) rev (s ∷ []) d = ins_other h q rev (bindings tr) s (λ e. d q (cc))
  changed_elsewhere tr (h ∷ q) rev (s ∷ (t ∷ o)) d =
      go (key_same_or_not s h) (λ n. changed_elsewhere (scope_of (namespaces tr) h) q (h ∷ rev) (t ∷ o) n)
    where
      below : Trie ModSymbol
      below = trie_mutate (scope_of (namespaces tr) h) q (h ∷ rev) node leaf

      go : (s ≡ h) ⊎ (s ≡ h → ⊥)
          → (((rest : Query) → q ≡ (t ∷ o) ++ rest → ⊥)
          → trie_find_exact below (t ∷ o) ≡ trie_find_exact (scope_of (namespaces tr) h) (t ∷ o))
          → bind_option (names_find_exact (names_insert (namespaces tr) h below) s)
          (λ scope. trie_find_exact scope (t ∷ o))
          ≡ bind_option (names_find_exact (namespaces tr) s) (λ scope. trie_find_exact scope (t ∷ o))
      go (inl e) ih =
          ap (λ k. bind_option (names_find_exact (names_insert (namespaces tr) h below) k) (λ scope. trie_find_exact scope (t ∷ o))) e
          ∙ ap (λ x. bind_option x (λ scope. trie_find_exact scope (t ∷ o))) (names_find_inserted (namespaces tr) h below)
          ∙ ih (λ rest f. d rest (cc))
          ∙ find_in tr h (t ∷ o)
          ∙ ap (λ k. bind_option (names_find_exact (namespaces tr) k) (λ scope. trie_find_exact scope (t ∷ o))) (sym e)
      go (inr n) ih = ap (λ x. bind_option x (λ scope. trie_find_exact scope (t ∷ o))) (names_find_other (namespaces tr) h s below n)

-- ---- the rules

-- A Module or a loaded Namespace.
abbrev pub Final : ModSymbol → Type 0
Final (Module name path loaded) = Unit {0}
Final (Namespace name true) = Unit {0}
Final (Namespace name false) = ⊥

final_stays : (m : ModSymbol) (loaded : Bool) → Final m → ns_inserts (some (item m)) loaded ≡ false
unfolding ns_inserts
final_stays (Module name path l) loaded f = refl
final_stays (Namespace name true) loaded f = refl
final_stays (Namespace name false) loaded f = absurd f

unloaded_stays : (m : ModSymbol) → ns_inserts (some (item m)) false ≡ false
unfolding ns_inserts
unloaded_stays (Module name path l) = refl
unloaded_stays (Namespace name true) = refl
unloaded_stays (Namespace name false) = refl

full_name : (p : Query) (s : Str) → name_of_revq (s ∷ reverse p) ≡ query_to_string (p ++ (s ∷ []))
unfolding name_of_revq
full_name p s = ap query_to_string (reverse-cons s (reverse p) ∙ ap (λ l. l ++ (s ∷ [])) (reverse-reverse p))

-- A Namespace is no loaded Module.
pub namespace_unloaded : (name : Str) (loaded : Bool) → loaded_module (some (item (Namespace name loaded))) ≡ false
unfolding loaded_module
namespace_unloaded name loaded = refl

-- What is found before and after a registration of a module.
module _ (tbl : Table) (loaded : Bool) (path : Str) where
  before : (p : Query) (s : Str)
      → find_module_or_ns tbl (p ++ (s ∷ [])) ≡ names_find_exact (bindings (host_of tbl.tbl_mods p)) s
  unfolding find_module_or_ns
  before p s = find_at_host tbl.tbl_mods p s

  after : (p : Query) (s : Str) (rest : Query)
      → find_module_or_ns (register_module_stays_loaded tbl loaded path (p ++ (s ∷ rest))) (p ++ (s ∷ []))
      ≡ names_find_exact (ins_stays_loaded path s rest (reverse p) (bindings (host_of tbl.tbl_mods p)) loaded) s
  unfolding find_module_or_ns register_module_stays_loaded
  after p s rest = changed_at path loaded tbl.tbl_mods p s rest []

  -- A Module always replaces; it is loaded where the call says so, or where a loaded Module was there.
  pub module_replaces : (p : Query) (s : Str)
      → find_module_or_ns (register_module_stays_loaded tbl loaded path (p ++ (s ∷ []))) (p ++ (s ∷ []))
      ≡ some (item (Module (query_to_string (p ++ (s ∷ []))) path
      (loaded_module (find_module_or_ns tbl (p ++ (s ∷ []))) || loaded)))
  unfolding ins_stays_loaded ins_mod
  module_replaces p s = after p s [] ∙ names_find_inserted _ s _ ∙ rw (full_name, before p s)

  -- A Namespace is put where nothing was.
  pub namespace_first : (p : Query) (s t : Str) (q : Query) → find_module_or_ns tbl (p ++ (s ∷ [])) ≡ none
      → find_module_or_ns (register_module_stays_loaded tbl loaded path (p ++ (s ∷ (t ∷ q)))) (p ++ (s ∷ []))
      ≡ some (item (Namespace (query_to_string (p ++ (s ∷ []))) loaded))
  unfolding ins_stays_loaded ins_ns ns_inserts
  namespace_first p s t q e = after p s (t ∷ q) ∙ rw (sym (before p s) ∙ e) (names_find_inserted _ s _ ∙ rw full_name)

  stays : (p : Query) (s t : Str) (q : Query) (m : ModSymbol) → find_module_or_ns tbl (p ++ (s ∷ [])) ≡ some (item m)
      → ns_inserts (some (item m)) loaded ≡ false
      → find_module_or_ns (register_module_stays_loaded tbl loaded path (p ++ (s ∷ (t ∷ q)))) (p ++ (s ∷ []))
      ≡ some (item m)
  unfolding ins_stays_loaded ins_ns
  stays p s t q m e f = after p s (t ∷ q) ∙ rw (sym (before p s) ∙ e, f) (sym (before p s) ∙ e)

  -- It replaces neither a Module nor a loaded Namespace.
  pub namespace_keeps : (p : Query) (s t : Str) (q : Query) (m : ModSymbol)
      → find_module_or_ns tbl (p ++ (s ∷ [])) ≡ some (item m) → Final m
      → find_module_or_ns (register_module_stays_loaded tbl loaded path (p ++ (s ∷ (t ∷ q)))) (p ++ (s ∷ []))
      ≡ some (item m)
  namespace_keeps p s t q m e f = stays p s t q m e (final_stays m loaded f)

  -- Nothing else changes: what is found for a query that is no beginning of the module query.
  pub module_elsewhere : (q o : Query) → ((rest : Query) → q ≡ o ++ rest → ⊥)
      → find_module_or_ns (register_module_stays_loaded tbl loaded path q) o ≡ find_module_or_ns tbl o
  unfolding find_module_or_ns register_module_stays_loaded
  module_elsewhere q o d = changed_elsewhere path loaded tbl.tbl_mods q [] o d

module _ (tbl : Table) (path : Str) (p : Query) (s t : Str) (q : Query) where
  -- Unloaded it replaces nothing.
  pub unloaded_keeps : (m : ModSymbol) → find_module_or_ns tbl (p ++ (s ∷ [])) ≡ some (item m)
      → find_module_or_ns (register_module_stays_loaded tbl false path (p ++ (s ∷ (t ∷ q)))) (p ++ (s ∷ []))
      ≡ some (item m)
  unloaded_keeps m e = stays tbl false path p s t q m e (unloaded_stays m)

  -- Loaded it replaces an unloaded Namespace.
  pub namespace_replaces : (name : Str) → find_module_or_ns tbl (p ++ (s ∷ [])) ≡ some (item (Namespace name false))
      → find_module_or_ns (register_module_stays_loaded tbl true path (p ++ (s ∷ (t ∷ q)))) (p ++ (s ∷ []))
      ≡ some (item (Namespace (query_to_string (p ++ (s ∷ []))) true))
  unfolding ins_stays_loaded ins_ns ns_inserts
  namespace_replaces name e = after tbl true path p s (t ∷ q) ∙ rw (sym (before tbl true path p s) ∙ e) (names_find_inserted _ s _ ∙ rw full_name)

-- Annotations: with spaces when loaded, else in brackets.
pub mod_annotation_is : (name path : Str)
    → (mod_annotation (Module name path true) ≡ bytes " mod ")
    × (mod_annotation (Module name path false) ≡ bytes "(mod)")
    × (mod_annotation (Namespace name true) ≡ bytes " ns ")
    × (mod_annotation (Namespace name false) ≡ bytes "(ns)")
unfolding mod_annotation bytes
mod_annotation_is name path = (refl, refl, refl, refl)
