-- The module table holds no imported list: the source never adds aliases to tbl_mods, nor includes or opens.
use mathlib.Core.Bool.{Bool, true, false, cond}
use mathlib.Core.List.{[], ◌∷◌}
use Rattle.source.specs.Text.{Str, Query, segments}
use Rattle.source.specs.Types.{Level, Value, Trie, Tree, NameList, bind, item, trie, StrEmpty, StrBranch, []ᴺ, Names, ImportedNames, bindings, trie_empty}
use Rattle.source.specs.Tries.{names_find_exact, names_insert}
use Rattle.source.specs.Table.{ModSymbol, Namespace, Table, empty, insert, register_alias, register_include, register_open, ns_inserts, ins_ns, ins_mod}
use Rattle.source.specs.Table.{name_of_revq, ins_stays_loaded, register_module_stays_loaded}
use Rattle.source.specs.Shared.{Allˡ}
use Rattle.source.specs.Rules.{Formed, FormedTree, FormedNames}
use Rattle.source.specs.Calls.{State, Call, name, include, opens, alias, module_path, fresh, registered, after}
use Rattle.source.proofs.Refusals.{accepted_is}
use Rattle.promises.proofs.Keeps.{Made, made_fresh, made_by, bindings_formed, names_insert_formed, trie_mutate_formed}

-- Any key and item, and no label.
abbrev Any : {B : Type 0} → B → Type 0
Any b = Unit {0}

abbrev No : Str → Type 0
No label = ⊥

-- No list in it, at any depth, has an imported list.
module _ {A : Type 0} where
  abbrev mutual
    pub NoImports : {ℓ : Level} → Value A ℓ → Type 0
    NoImports (item a) = Unit {0}
    NoImports (trie b n) = NoImportsNames b × NoImportsNames n

    pub NoImportsTree : {ℓ : Level} → Tree A ℓ → Type 0
    NoImportsTree StrEmpty = Unit {0}
    NoImportsTree (StrBranch k v lbt rbt) = NoImports v × NoImportsTree lbt × NoImportsTree rbt

    pub NoImportsNames : {ℓ : Level} → NameList A ℓ → Type 0
    NoImportsNames []ᴺ = Unit {0}
    NoImportsNames (Names bt tl) = NoImportsTree bt × NoImportsNames tl
    NoImportsNames (ImportedNames label inner tl) = ⊥

  -- Formed with any key and item and no label.
  mutual
    no_imports : {ℓ : Level} (v : Value A ℓ) → Formed Any No Any v → NoImports v
    no_imports (item a) g = tt
    no_imports (trie b n) g = (no_imports_names b g.0, no_imports_names n g.1)

    no_imports_tree : {ℓ : Level} (bt : Tree A ℓ) → FormedTree Any No Any bt → NoImportsTree bt
    no_imports_tree StrEmpty g = tt
    no_imports_tree (StrBranch k v lbt rbt) g = (no_imports v g.1, no_imports_tree lbt g.4, no_imports_tree rbt g.5)

    no_imports_names : {ℓ : Level} (nl : NameList A ℓ) → FormedNames Any No Any nl → NoImportsNames nl
    no_imports_names []ᴺ g = tt
    no_imports_names (Names bt tl) g = (no_imports_tree bt g.0, no_imports_names tl g.1)
    no_imports_names (ImportedNames label inner tl) g = absurd g.0

-- Formed in that way.
abbrev Plain : Trie ModSymbol → Type 0
Plain tr = Formed Any No Any tr

any_keys : (q : Query) → Allˡ Any q
any_keys [] = tt
any_keys (s ∷ q) = (tt, any_keys q)

module_plain : (tbl : Table) (loaded : Bool) (path : Str) (q : Query) → Plain tbl.tbl_mods
    → Plain (register_module_stays_loaded tbl loaded path q).tbl_mods
unfolding register_module_stays_loaded ins_stays_loaded ins_mod ins_ns
module_plain tbl loaded path q g =
    trie_mutate_formed Any No Any Any tbl.tbl_mods q [] _ _
    (λ tr id q r n w k t h. (ins_plain id q r (bindings tr) (bindings_formed Any No Any tr t), h)) (λ tr r t. t) tt (any_keys q) g
  where
    ins_plain : (id : Str) (q revq : Query) (b : NameList ModSymbol bind) → FormedNames Any No Any b
        → FormedNames Any No Any (ins_stays_loaded path id q revq b loaded)
    ins_plain id [] revq b g = names_insert_formed Any No Any b id _ tt tt g
    ins_plain id (s ∷ q) revq b g = go (ns_inserts (names_find_exact b id) loaded)
      where
        go : (c : Bool)
            → FormedNames Any No Any (cond c (names_insert b id (item (Namespace (name_of_revq (id ∷ revq)) loaded))) b)
        go true = names_insert_formed Any No Any b id _ tt tt g
        go false = g

registered_plain : (tbl : Table) (c : Call) → Plain tbl.tbl_mods → Plain (registered tbl c).tbl_mods
unfolding registered insert register_include register_open register_alias
registered_plain tbl (name host id number) g = g
registered_plain tbl (include host q) g = g
registered_plain tbl (opens true host q) g = g
registered_plain tbl (opens false host q) g = g
registered_plain tbl (alias key host q) g = g
registered_plain tbl (module_path loaded query path) g = module_plain tbl loaded path (segments query) g

made_plain : {σ : State} → Made σ → Plain σ.table.tbl_mods
unfolding fresh empty trie_empty after
made_plain made_fresh = (tt, tt)
made_plain (made_by sound lent c m e) = rw (accepted_is sound lent _ _ c e) (registered_plain _ c (made_plain m))

-- The module table of every state that accepted calls make from the fresh one holds no imported list.
pub made_modules_own : {σ : State} → Made σ → NoImports σ.table.tbl_mods
made_modules_own {σ} m = no_imports σ.table.tbl_mods (made_plain m)
