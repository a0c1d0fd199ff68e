-- The ten starred cases of the requirements, through what the calls hand back: `starred_cases`, by computation.
use Prim.Native.Nat.{ℕ, zero, suc}
use Prim.Native.String as S
use mathlib.Core.Path.{◌≡◌, refl}
use mathlib.Core.Bool.{true, false}
use mathlib.Core.List.{List, [], ◌∷◌, ◌++◌}
use mathlib.Core.Option.{Option, none, some}
use lib.IntN.{ℤ, pos, negsuc}
use Rattle.source.specs.Text.{Str, then, string_compare, starts_with, string_length, query_to_string, onto_first, segments, ends_in_dot, name_byte, query_byte}
use Rattle.source.specs.Text.{path_byte}
use Rattle.source.specs.Heap.{is_lt, heap_merge, heap_insert, heap_insert_all, heap_from_list, heap_merge_pairs, heap_pair_up}
use Rattle.source.specs.Lists.{first, priority, nonempty, add_priorities, total, push_nodup, run_cmp, put_back, merge_aux, merge_nonempty}
use Rattle.source.specs.Lists.{merge_increasing_lists_rev}
use Rattle.source.specs.Types.{the_item, bindings, namespaces, trie_empty}
use Rattle.source.specs.Trees.{btree_insert_replace, btree_find_exact, find_prefix_onto, btree_find_prefix, btree_fold, btree_find_all}
use Rattle.source.specs.Tries.{or_else, dflt, bind_option, names_find_exact, trie_descend_exact, trie_find_exact, names_insert, scope_of, trie_mutate}
use Rattle.source.specs.Tries.{trie_mutate_leaf, trie_insert, included, trie_import, trie_include, trie_open_namespace, trie_add_alias}
use Rattle.source.specs.Terms.{weight, heaviest, heaviest_tree, heaviest_names, depth, depth_tree, depth_names}
use Rattle.source.specs.Listing.{fold_left, rev_map_onto, ns_search_term, bindings_search_term, revmap_onto, names_revmap, matching_values, with_imports}
use Rattle.source.specs.Listing.{elem_key, names_find_rev_first, find_prefix_fuel, trie_find_prefix', trie_find_prefix_first}
use Rattle.source.specs.Table.{Line, ModSymbol, Module, Namespace, empty, insert, register_alias, register_include, register_open, ns_inserts, ins_ns, ins_mod}
use Rattle.source.specs.Table.{name_of_revq, loaded_module, ins_stays_loaded, register_module_stays_loaded, string_of_path, match_elem, match_length_of_path}
use Rattle.source.specs.Table.{last_opt, first_import_of_path, completion_result_of_lid, mod_annotation, completion_result_of_ns_or_mod, autocomplete_lid_first}
use Rattle.source.specs.Table.{filter_map, autocomplete_mod_or_ns_first}
use Rattle.source.specs.Counted.{pure, one, ◌>>=◌, btree_insert_replaceᶜ, names_insertᶜ, trie_mutateᶜ, trie_mutate_leafᶜ, trie_insertᶜ, trie_importᶜ}
use Rattle.source.specs.Counted.{trie_includeᶜ, trie_open_namespaceᶜ, trie_add_aliasᶜ, lids, insertᶜ, register_aliasᶜ, register_includeᶜ, register_openᶜ}
use Rattle.source.specs.Counted.{ins_nsᶜ, ins_modᶜ, insᶜ, register_module_pathᶜ, fold_leftᶜ, find_prefix_fuelᶜ, trie_find_prefix'ᶜ}
use Rattle.source.specs.Calls.{Lent, Output, State, Call, name, include, opens, alias, module_path, Registered, accepted, refused, Found, found, not_found}
use Rattle.source.specs.Calls.{Completed, listed, All, text_of, is_empty, any, bad_query, malformed, empty_name, long_query, too_long, first_row, argument_rows}
use Rattle.source.specs.Calls.{fresh, whole_records, free, arguments, registered, records, text_taken, crowded, deep, registration_rows, after, register}
use Rattle.source.specs.Calls.{found_of, look_up, output_text, completion_rows, completed, tries_entered, kept, keeps_kind, keeps, complete, complete_modules}
use Rattle.source.specs.Rules.{all}
use Rattle.source.specs.Items.{kind_number, same_kind}
use Rattle.source.specs.declared.ItemKind.TheVariants.{Timer, Port, Register}
use Rattle.source.specs.declared.LidSymbol.{LidSymbol}
use Rattle.source.specs.declared.KindFilter.{KindFilter}
use Rattle.source.specs.declared.KindFilter.TheVariants.{Every, Ports, Registers}
use Rattle.source.proofs.Quoted.{bytes}

-- What the program console lends.
unfoldable pub console : Lent
console = record { words = 16384; text = 32768 }

unfoldable pub pane : Output
pane = record { lines = 512; text = 32768 }

-- A call on the table that another has left.
unfoldable pub then_call : Registered → Call → Registered
then_call (accepted s) c = register true console s c
then_call (refused n) c = refused n

-- A question about the table that a call has left.
unfoldable pub ask : {B : Type 0} → Registered → (State → B) → Option B
ask (accepted s) f = some (f s)
ask (refused n) f = none

unfoldable pub records_of : Registered → Option ℕ
records_of r = ask r (λ s. s.records_used)

unfoldable pub find : Registered → S.String → Option (Found LidSymbol)
find r q = ask r (λ s. look_up true s.table.tbl_lids (bytes q))

unfoldable pub names : Registered → S.String → Option (Completed LidSymbol)
names r q = ask r (λ s. complete true s.table Every 4096 pane (bytes q))

unfoldable pub modules : Registered → S.String → Option (Completed ModSymbol)
modules r q = ask r (λ s. complete_modules true s.table All 4096 pane (bytes q))

unfoldable pub line : {A : Type 0} → ℤ → A → S.String → S.String → Line A
line n a c ann = record { match_length = n; item_of = a; candidate = bytes c; annotation = bytes ann }

-- The Register of a number.
unfoldable pub r : ℕ → LidSymbol
r n = record { kind = Register; number = n }

-- The same three lines, by their length.
unfoldable pub three : ℤ → List (Line LidSymbol)
three n = line n (r 3) "Live.offset" "" ∷ line n (r 2) "Saved.late" "" ∷ line n (r 1) "Saved.offset" "" ∷ []

-- Table T.
unfoldable pub T : Registered
T = then_call (then_call (then_call (then_call (accepted fresh)
    (name (bytes "Saved.") (bytes "offset") (r 1)))
    (include (bytes "Live.") (bytes "Saved.")))
    (name (bytes "Saved.") (bytes "late") (r 2)))
    (name (bytes "Live.") (bytes "offset") (r 3))

unfoldable pub aliased : Registered
aliased = then_call T (alias (bytes "K") (bytes "Live.") (bytes "Saved."))

unfoldable pub included_here : Registered
included_here = then_call T (include (bytes "") (bytes "Saved."))

unfoldable pub bus : Registered
bus = then_call (accepted fresh) (module_path false (bytes "IO.Bus.") (bytes "io/bus"))

-- A text repeated.
unfoldable pub repeated : ℕ → S.String → Str
repeated zero t = []
repeated (suc n) t = bytes t ++ repeated n t

-- A Timer and a Port of one number.
unfoldable pub tick : LidSymbol
tick = record { kind = Timer; number = 5 }

unfoldable pub tock : LidSymbol
tock = record { kind = Port; number = 5 }

unfoldable pub two_kinds : Registered
two_kinds = then_call (then_call (accepted fresh) (name (bytes "") (bytes "tick") tick)) (name (bytes "") (bytes "tock") tock)

-- Its completion of `t`, with so many line records.
unfoldable pub of_kind : Registered → KindFilter → ℕ → Option (Completed LidSymbol)
of_kind r f n = ask r (λ s. complete true s.table f 1 (record { lines = n; text = 32768 }) (bytes "t."))

-- After an open of a namespace at the root that holds a namespace `Live` of its own.
unfoldable pub shadow : Registered
shadow = then_call (then_call T (name (bytes "Lib.Live.") (bytes "late") (r 7))) (opens false (bytes "") (bytes "Lib."))

pub record StarredCases : Type 0 where
  pub case_1 : records_of (then_call (accepted fresh) (name (bytes "") (bytes "tick") (r 5))) ≡ some 3
  pub case_2 : (records_of T ≡ some 26) × (ask T (λ s. s.text_used) ≡ some 44)
  pub case_3 : (find T "Live.late." ≡ some not_found) × (find T "Saved.late." ≡ some (found (r 2)))
  pub case_4 : find T "Live.offset." ≡ some (found (r 3))
  pub case_5 : names T "Live.off." ≡ some (listed (line (pos 8) (r 3) "Live.offset" "" ∷ []) 2)
  pub case_6 : names T "" ≡ some (listed (three (negsuc 0)) 3)
  pub case_7 : names T "." ≡ some (listed (three (pos 0)) 3)
  pub case_8 : (records_of aliased ≡ some 35) × (find aliased "Live.K.late." ≡ some (found (r 2)))
  pub case_9 : names included_here "off." ≡ some (listed (line (pos 3) (r 1) "offset" "Saved" ∷ []) 1)
  pub case_10 : (records_of bus ≡ some 10)
      × (modules bus "I." ≡ some (listed
      (line (pos 1) (Namespace (bytes "IO") false) "IO" "(ns)"
      ∷ line (pos 1) (Module (bytes "IO.Bus") (bytes "io/bus") false) "IO.Bus" "(mod)"
      ∷ []) 3))

-- Unfolding this unfolds all that the cases compute with.
unfoldable compute : Unit {0}
unfolding bytes console pane then_call ask records_of find names modules line r three T aliased included_here bus tick tock two_kinds of_kind shadow repeated
    then string_compare starts_with string_length query_to_string onto_first segments ends_in_dot name_byte query_byte path_byte
    is_lt heap_merge heap_insert heap_insert_all heap_from_list heap_merge_pairs heap_pair_up
    first priority nonempty add_priorities total push_nodup run_cmp put_back merge_aux merge_nonempty merge_increasing_lists_rev
    the_item bindings namespaces trie_empty
    btree_insert_replace btree_find_exact find_prefix_onto btree_find_prefix btree_fold btree_find_all
    or_else dflt bind_option names_find_exact trie_descend_exact trie_find_exact names_insert scope_of trie_mutate trie_mutate_leaf trie_insert included
    trie_import trie_include trie_open_namespace trie_add_alias
    weight heaviest heaviest_tree heaviest_names depth depth_tree depth_names
    fold_left rev_map_onto ns_search_term bindings_search_term revmap_onto names_revmap matching_values with_imports elem_key names_find_rev_first
    find_prefix_fuel trie_find_prefix' trie_find_prefix_first
    empty insert register_alias register_include register_open ns_inserts ins_ns ins_mod name_of_revq loaded_module ins_stays_loaded
    register_module_stays_loaded string_of_path match_elem match_length_of_path last_opt first_import_of_path completion_result_of_lid mod_annotation
    completion_result_of_ns_or_mod autocomplete_lid_first filter_map autocomplete_mod_or_ns_first
    pure one ◌>>=◌ btree_insert_replaceᶜ names_insertᶜ trie_mutateᶜ trie_mutate_leafᶜ trie_insertᶜ trie_importᶜ trie_includeᶜ trie_open_namespaceᶜ
    trie_add_aliasᶜ lids insertᶜ register_aliasᶜ register_includeᶜ register_openᶜ ins_nsᶜ ins_modᶜ insᶜ register_module_pathᶜ fold_leftᶜ find_prefix_fuelᶜ
    trie_find_prefix'ᶜ
    kind_number same_kind
    text_of is_empty any bad_query malformed empty_name long_query too_long first_row argument_rows fresh whole_records free arguments registered records
    text_taken crowded deep registration_rows after register found_of look_up output_text completion_rows completed tries_entered kept keeps_kind keeps complete
    complete_modules
    all
compute = tt

pub starred_cases : StarredCases
unfolding compute
starred_cases = record {
  case_1 = refl;
  case_2 = (refl, refl);
  case_3 = (refl, refl);
  case_4 = refl;
  case_5 = refl;
  case_6 = refl;
  case_7 = refl;
  case_8 = (refl, refl);
  case_9 = refl;
  case_10 = (refl, refl);
}

-- The other cases of the requirements.
pub record OtherCases : Type 0 where
  pub case_11 : (records_of (then_call (accepted fresh) (name (bytes "") (repeated 31 "x") (r 5))) ≡ some 3)
      × (then_call (accepted fresh) (name (bytes "") (repeated 32 "x") (r 5)) ≡ refused 4)
      × (records_of (then_call (accepted fresh) (name (repeated 16 "x.") (bytes "x") (r 5))) ≡ some 51)
      × (then_call (accepted fresh) (name (repeated 17 "x.") (bytes "x") (r 5)) ≡ refused 6)
      × (then_call (accepted fresh) (name (repeated 18 "x.") (bytes "x") (r 5)) ≡ refused 4)
  pub case_12 :
      (register true (record { words = 35; text = 4 }) fresh (name (bytes "") (bytes "tick") (r 5)) ≡ refused 7)
      × (records_of (register true (record { words = 36; text = 4 }) fresh (name (bytes "") (bytes "tick") (r 5))) ≡ some 3)
      × (register true (record { words = 36; text = 3 }) fresh (name (bytes "") (bytes "tick") (r 5)) ≡ refused 8)
  pub case_13 : (ask T (λ s. complete true s.table Every 1 pane (bytes "Live.off.")) ≡ some (refused 9))
      × (ask T (λ s. complete true s.table Every 2 pane (bytes "Live.off."))
      ≡ some (listed (line (pos 8) (r 3) "Live.offset" "" ∷ []) 2))
      × (ask T (λ s. complete true s.table Every 2 (record { lines = 0; text = 32768 }) (bytes "Live.off.")) ≡ some (refused 10))
  -- A file path may be empty, and has at most 120 bytes.
  pub paths : (records_of (then_call (accepted fresh) (module_path true (bytes "M.") (bytes ""))) ≡ some 5)
      × (records_of (then_call (accepted fresh) (module_path true (bytes "M.") (repeated 120 "x"))) ≡ some 5)
      × (then_call (accepted fresh) (module_path true (bytes "M.") (repeated 121 "x")) ≡ refused 4)
  -- A Timer and a Port of one number: asked for one kind, a completion enters what it enters of all, and a dropped line takes no output.
  pub kinds :
      (of_kind two_kinds Every 2 ≡ some (listed (line (pos 1) tick "tick" "" ∷ line (pos 1) tock "tock" "" ∷ []) 1))
      × (of_kind two_kinds Ports 1 ≡ some (listed (line (pos 1) tock "tock" "" ∷ []) 1))
      × (of_kind two_kinds Registers 0 ≡ some (listed [] 1))
  -- Two holders of a key: the first one's item and label, of a binding; of a namespace its trie and label. The source lists r1 with Saved, and Live.offset.
  pub holders : (names (then_call included_here (name (bytes "") (bytes "offset") (r 4))) "off."
      ≡ some (listed (line (pos 3) (r 4) "offset" "" ∷ []) 1))
      × (names shadow "Live." ≡ some (listed (line (pos 4) (r 7) "Live.late" "Lib" ∷ []) 2))

pub other_cases : OtherCases
unfolding compute
other_cases = record {
  case_11 = (refl, refl, refl, refl, refl);
  case_12 = (refl, refl, refl);
  case_13 = (refl, refl, refl);
  paths = (refl, refl, refl);
  kinds = (refl, refl, refl);
  holders = (refl, refl);
}

-- An open of a namespace above an including host changes what its name leads to (Apart, in Unchanged).
pub shadowed : (find T "Live.late." ≡ some not_found) × (find shadow "Live.late." ≡ some (found (r 7)))
unfolding compute
shadowed = (refl, refl)
