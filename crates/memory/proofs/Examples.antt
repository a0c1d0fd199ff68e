-- Cases 1 and 10 of the requirements, as records: the last link reads as the table that the source makes.
use mathlib.Core.Path.{◌≡◌, refl}
use mathlib.Core.Bool.{false}
use mathlib.Core.List.{List, [], ◌∷◌, ◌++◌}
use Prim.Native.Nat.{ℕ}
use Rattle.source.specs.Text.{Str, then, string_compare, query_to_string, onto_first, segments}
use Rattle.source.specs.Types.{bindings, namespaces, trie_empty}
use Rattle.source.specs.Trees.{btree_insert_replace, btree_find_exact}
use Rattle.source.specs.Tries.{or_else, dflt, names_find_exact, names_insert, scope_of, trie_mutate, trie_mutate_leaf, trie_insert}
use Rattle.source.specs.Table.{empty, insert, ns_inserts, name_of_revq, ins_ns, ins_mod, ins, register_module_path}
use Rattle.source.specs.Items.{kind_for, read_kind}
use Rattle.source.specs.declared.ItemKind.TheVariants.{Register}
use Rattle.memory.specs.Layout.{record_at, span, names, modules, trieˢ, among, what}

-- tick
tick : Str
tick = 116 ∷ 105 ∷ 99 ∷ 107 ∷ []

-- name [] tick r5
tick_words : List ℕ
tick_words =
    (1 ∷ 0 ∷ 4 ∷ 0 ∷ 0 ∷ 5 ∷ 3 ∷ 0 ∷ 0 ∷ 0 ∷ 0 ∷ 0 ∷ [])
    ++ (3 ∷ 0 ∷ 0 ∷ 1 ∷ 0 ∷ 0 ∷ 0 ∷ 0 ∷ 0 ∷ 0 ∷ 1 ∷ 0 ∷ [])
    ++ (5 ∷ 0 ∷ 0 ∷ 2 ∷ 0 ∷ 0 ∷ 0 ∷ 0 ∷ 0 ∷ 0 ∷ 0 ∷ 0 ∷ [])

case_1 : what names tick_words tick 3 trieˢ ≡ (insert empty [] tick (record { kind = Register; number = 5 })).tbl_lids
unfolding kind_for read_kind tick tick_words what among record_at span then string_compare bindings namespaces trie_empty btree_insert_replace btree_find_exact
    or_else dflt names_find_exact names_insert trie_mutate trie_mutate_leaf trie_insert empty insert
case_1 = refl

-- IO.Bus.
query : Str
query = 73 ∷ 79 ∷ 46 ∷ 66 ∷ 117 ∷ 115 ∷ 46 ∷ []

-- io/bus
path : Str
path = 105 ∷ 111 ∷ 47 ∷ 98 ∷ 117 ∷ 115 ∷ []

-- module u [IO.Bus.] io/bus
bus_words : List ℕ
bus_words =
    (7 ∷ 3 ∷ 3 ∷ 0 ∷ 0 ∷ 0 ∷ 0 ∷ 0 ∷ 0 ∷ 0 ∷ 0 ∷ 1 ∷ [])
    ++ (9 ∷ 0 ∷ 0 ∷ 1 ∷ 0 ∷ 0 ∷ 0 ∷ 0 ∷ 0 ∷ 0 ∷ 1 ∷ 1 ∷ [])
    ++ (6 ∷ 3 ∷ 3 ∷ 0 ∷ 0 ∷ 0 ∷ 0 ∷ 6 ∷ 7 ∷ 6 ∷ 0 ∷ 0 ∷ [])
    ++ (8 ∷ 0 ∷ 0 ∷ 3 ∷ 0 ∷ 0 ∷ 0 ∷ 0 ∷ 0 ∷ 0 ∷ 1 ∷ 0 ∷ [])
    ++ (10 ∷ 0 ∷ 0 ∷ 4 ∷ 2 ∷ 0 ∷ 0 ∷ 0 ∷ 0 ∷ 0 ∷ 0 ∷ 1 ∷ [])
    ++ (7 ∷ 0 ∷ 2 ∷ 0 ∷ 0 ∷ 5 ∷ 0 ∷ 0 ∷ 0 ∷ 0 ∷ 0 ∷ 2 ∷ [])
    ++ (9 ∷ 0 ∷ 0 ∷ 6 ∷ 0 ∷ 0 ∷ 0 ∷ 0 ∷ 0 ∷ 0 ∷ 1 ∷ 2 ∷ [])
    ++ (6 ∷ 0 ∷ 2 ∷ 0 ∷ 0 ∷ 1 ∷ 0 ∷ 2 ∷ 0 ∷ 0 ∷ 0 ∷ 0 ∷ [])
    ++ (8 ∷ 0 ∷ 0 ∷ 8 ∷ 0 ∷ 0 ∷ 0 ∷ 0 ∷ 0 ∷ 0 ∷ 1 ∷ 0 ∷ [])
    ++ (10 ∷ 0 ∷ 0 ∷ 9 ∷ 7 ∷ 0 ∷ 0 ∷ 0 ∷ 0 ∷ 0 ∷ 0 ∷ 2 ∷ [])

case_10 : what modules bus_words (query ++ path) 10 trieˢ
    ≡ (register_module_path empty false path (segments query)).tbl_mods
unfolding query path bus_words what among record_at span then string_compare query_to_string onto_first segments bindings namespaces trie_empty
    btree_insert_replace btree_find_exact or_else dflt names_find_exact names_insert scope_of trie_mutate empty ns_inserts name_of_revq ins_ns ins_mod ins
    register_module_path
case_10 = refl
