-- The high level interface, as in the source: the table, registrations, completion results.
use Rattle.std.specs.Prelude.{ℕ, ◌+◌, Bool, true, false, cond, ◌||◌, List, [], ◌∷◌, map, reverse, ℤ, pos, ◌+ℤ◌, ◌-ℤ◌}
use Rattle.std.proofs.Math.Option.{Option, none, some}
use Rattle.source.specs.Text.{Str, Query, query_to_string, string_length}
use Rattle.source.specs.Types.{Value, Trie, NameList, bind, item, trie, bindings, trie_empty}
use Rattle.source.specs.Trees.{PathElem}
use Rattle.source.specs.Tries.{names_find_exact, names_insert, trie_mutate, trie_insert, trie_include, trie_open_namespace, trie_add_alias}
use Rattle.source.specs.Tries.{trie_find_exact, dflt}
use Rattle.source.specs.Listing.{PathOf, fold_left, trie_find_prefix, trie_find_prefix_first}
use Rattle.source.specs.declared.LidSymbol.{LidSymbol}

-- mod_symbol. A lid_symbol is a kind and a 32-bit number, LidSymbol of src/lib.rt.
pub data ModSymbol : Type 0 where
  Module : (mod_name mod_path : Str) (mod_loaded : Bool) → ModSymbol
  Namespace : (ns_name : Str) (ns_loaded : Bool) → ModSymbol

pub record Table : Type 0 where
  pub tbl_lids : Trie LidSymbol
  pub tbl_mods : Trie ModSymbol

unfoldable pub empty : Table
empty = record { tbl_lids = trie_empty; tbl_mods = trie_empty }

unfoldable pub insert : Table → Query → Str → LidSymbol → Table
insert tbl host id c = record { tbl_lids = trie_insert tbl.tbl_lids host id c; tbl_mods = tbl.tbl_mods }

unfoldable pub register_alias : Table → Str → Query → Query → Table
register_alias tbl key host q =
    record { tbl_lids = trie_add_alias tbl.tbl_lids key host q; tbl_mods = tbl.tbl_mods }

unfoldable pub register_include : Table → Query → Query → Table
register_include tbl host q = record { tbl_lids = trie_include tbl.tbl_lids host q; tbl_mods = tbl.tbl_mods }

unfoldable pub register_open : Table → Bool → Query → Query → Table
register_open tbl true host q = register_include tbl host q
register_open tbl false host q =
    record { tbl_lids = trie_open_namespace tbl.tbl_lids host q; tbl_mods = tbl.tbl_mods }

-- When ins_ns inserts: never seen before, or seen, but not loaded yet.
unfoldable pub ns_inserts : Option (Value ModSymbol bind) → Bool → Bool
ns_inserts none loaded = true
ns_inserts (some (item (Module name path b))) loaded = false
ns_inserts (some (item (Namespace name true))) loaded = false
ns_inserts (some (item (Namespace name false))) loaded = loaded

unfoldable pub ins_ns : Str → NameList ModSymbol bind → Str → Bool → NameList ModSymbol bind
ins_ns id bindings full_name loaded =
    cond (ns_inserts (names_find_exact bindings id) loaded)
    (names_insert bindings id (item (Namespace full_name loaded))) bindings

unfoldable pub ins_mod : Str → Str → NameList ModSymbol bind → Str → Bool → NameList ModSymbol bind
ins_mod path id bindings full_name loaded = names_insert bindings id (item (Module full_name path loaded))

unfoldable pub name_of_revq : Query → Str
name_of_revq query = query_to_string (reverse query)

unfoldable pub ins : Str → Str → Query → Query → NameList ModSymbol bind → Bool → NameList ModSymbol bind
ins path id [] revq bindings loaded = ins_mod path id bindings (name_of_revq (id ∷ revq)) loaded
ins path id (s ∷ q) revq bindings loaded = ins_ns id bindings (name_of_revq (id ∷ revq)) loaded

unfoldable pub register_module_path : Table → Bool → Str → Query → Table
register_module_path tbl loaded path mod_query = record {
  tbl_lids = tbl.tbl_lids;
  tbl_mods = trie_mutate tbl.tbl_mods mod_query []
      (λ tr id q revq n. trie (ins path id q revq (bindings tr) loaded) n)
      (λ tr _. tr);
}

-- Whether what the first holder gives is a loaded Module.
unfoldable pub loaded_module : Option (Value ModSymbol bind) → Bool
loaded_module none = false
loaded_module (some (item (Module name path loaded))) = loaded
loaded_module (some (item (Namespace name loaded))) = false

-- Not the source's: ins and register_module_path, but a Module put in place of a loaded one stays loaded.
unfoldable pub ins_stays_loaded : Str → Str → Query → Query → NameList ModSymbol bind → Bool → NameList ModSymbol bind
ins_stays_loaded path id [] revq bindings loaded =
    ins_mod path id bindings (name_of_revq (id ∷ revq)) (loaded_module (names_find_exact bindings id) || loaded)
ins_stays_loaded path id (s ∷ q) revq bindings loaded = ins_ns id bindings (name_of_revq (id ∷ revq)) loaded

unfoldable pub register_module_stays_loaded : Table → Bool → Str → Query → Table
register_module_stays_loaded tbl loaded path mod_query = record {
  tbl_lids = tbl.tbl_lids;
  tbl_mods = trie_mutate tbl.tbl_mods mod_query []
      (λ tr id q revq n. trie (ins_stays_loaded path id q revq (bindings tr) loaded) n)
      (λ tr _. tr);
}

-- ---- Completion results

unfoldable pub string_of_path : PathOf → Str
string_of_path path = query_to_string (map (λ el. el.segment.completion) path)

-- The fold of match_length_of_path: length, last prefix, length of the last completion.
pub record Matched : Type 0 where
  pub so_far : ℕ
  pub last_prefix : Str
  pub last_completion : ℕ

unfoldable pub match_elem : Matched → PathElem → Matched
match_elem acc elem =
    elim elem.segment.prefix [
      | none ↦ acc
      | some prefix ↦ record {
        so_far = acc.so_far + 1 + string_length elem.segment.completion;
        last_prefix = prefix;
        last_completion = string_length elem.segment.completion;
      }
    ]

unfoldable pub match_length_of_path : PathOf → ℤ
match_length_of_path path =
    let m = fold_left match_elem (record { so_far = 0; last_prefix = []; last_completion = 0 }) path in
    pos m.so_far -ℤ pos 1 -ℤ pos m.last_completion +ℤ pos (string_length m.last_prefix)

-- List.last_opt
unfoldable pub last_opt : {A : Type 0} → List A → Option A
last_opt [] = none
last_opt (a ∷ []) = some a
last_opt (a ∷ (b ∷ xs)) = last_opt (b ∷ xs)

unfoldable pub first_import_of_path : PathOf → Option Str
first_import_of_path [] = none
first_import_of_path (el ∷ path) = last_opt el.imports

-- completion_result, and the item that trie_find_prefix gives with the path.
pub record Line (A : Type 0) : Type 0 where
  pub match_length : ℤ
  pub item_of : A
  pub candidate : Str
  pub annotation : Str

unfoldable pub completion_result_of_lid : PathOf × LidSymbol → Line LidSymbol
completion_result_of_lid x = record {
  match_length = match_length_of_path x.0;
  item_of = x.1;
  candidate = string_of_path x.0;
  annotation = dflt [] (first_import_of_path x.0);
}

-- " mod ", "(mod)", " ns " and "(ns)".
unfoldable pub mod_annotation : ModSymbol → Str
mod_annotation (Module name path true) = 32 ∷ 109 ∷ 111 ∷ 100 ∷ 32 ∷ []
mod_annotation (Module name path false) = 40 ∷ 109 ∷ 111 ∷ 100 ∷ 41 ∷ []
mod_annotation (Namespace name true) = 32 ∷ 110 ∷ 115 ∷ 32 ∷ []
mod_annotation (Namespace name false) = 40 ∷ 110 ∷ 115 ∷ 41 ∷ []

unfoldable pub completion_result_of_ns_or_mod : PathOf × ModSymbol → Line ModSymbol
completion_result_of_ns_or_mod x = record {
  match_length = match_length_of_path x.0;
  item_of = x.1;
  candidate = string_of_path x.0;
  annotation = mod_annotation x.1;
}

unfoldable pub find_module_or_ns : Table → Query → Option (Value ModSymbol bind)
find_module_or_ns tbl query = trie_find_exact tbl.tbl_mods query

unfoldable pub autocomplete_lid : Table → Query → List (Line LidSymbol)
autocomplete_lid tbl query = map completion_result_of_lid (trie_find_prefix tbl.tbl_lids query)

-- Departs from the source: over trie-find-prefix-first.
unfoldable pub autocomplete_lid_first : Table → Query → List (Line LidSymbol)
autocomplete_lid_first tbl query = map completion_result_of_lid (trie_find_prefix_first tbl.tbl_lids query)

-- List.filter_map
unfoldable pub filter_map : {A B : Type 0} → (A → Option B) → List A → List B
filter_map f [] = []
filter_map f (a ∷ xs) = elim (f a) [ none ↦ filter_map f xs | some b ↦ b ∷ filter_map f xs ]

unfoldable pub autocomplete_mod_or_ns : Table → Query → (PathOf × ModSymbol → Option (PathOf × ModSymbol))
    → List (Line ModSymbol)
autocomplete_mod_or_ns tbl query filter =
    map completion_result_of_ns_or_mod (filter_map filter (trie_find_prefix tbl.tbl_mods query))

-- Departs from the source in the same way.
unfoldable pub autocomplete_mod_or_ns_first : Table → Query → (PathOf × ModSymbol → Option (PathOf × ModSymbol))
    → List (Line ModSymbol)
autocomplete_mod_or_ns_first tbl query filter =
    map completion_result_of_ns_or_mod (filter_map filter (trie_find_prefix_first tbl.tbl_mods query))
