-- Where the table of a module's registration is not the source's: at the end of its query, a loaded Module stays loaded.
use Prim.Native.Nat.{Ordering}
use Rattle.std.specs.Prelude.{◌≡◌, Bool, true, cond, not, ◌&&◌, [], ◌∷◌}
use Rattle.source.specs.Text.{Str, Query, string_compare}
use Rattle.source.specs.Types.{Level, Value, Trie, Tree, NameList, bind, item, trie, StrEmpty, StrBranch, []ᴺ, Names, ImportedNames, bindings}
use Rattle.source.specs.Types.{namespaces}
use Rattle.source.specs.Table.{ModSymbol, Module, Namespace, Table, loaded_module, register_module_path, register_module_stays_loaded}
use Rattle.source.specs.Table.{find_module_or_ns}

module _ {A : Type 0} {ℓ : Level} where
  -- The tree with the value at a key changed.
  unfoldable pub at_key : Tree A ℓ → Str → (Value A ℓ → Value A ℓ) → Tree A ℓ
  at_key StrEmpty k f = StrEmpty
  at_key (StrBranch k' v lbt rbt) k f =
      elim (string_compare k k') [
        | Ordering.lt ↦ StrBranch k' v (at_key lbt k f) rbt
        | Ordering.eq ↦ StrBranch k' (f v) lbt rbt
        | Ordering.gt ↦ StrBranch k' v lbt (at_key rbt k f)
      ]

  -- The list with that done in the tree in front, where names_insert puts.
  unfoldable pub in_front : NameList A ℓ → Str → (Value A ℓ → Value A ℓ) → NameList A ℓ
  in_front []ᴺ k f = []ᴺ
  in_front (Names bt tl) k f = Names (at_key bt k f) tl
  in_front (ImportedNames label inner tl) k f = ImportedNames label inner tl

-- A Module loaded; a Namespace is as it was.
abbrev pub load : Value ModSymbol bind → Value ModSymbol bind
load (item (Module name path loaded)) = item (Module name path true)
load (item (Namespace name loaded)) = item (Namespace name loaded)

-- The trie with the Module at the end of a query loaded, and nothing else changed.
unfoldable pub loaded_at : Trie ModSymbol → Query → Trie ModSymbol
loaded_at tr [] = tr
loaded_at tr (s ∷ []) = trie (in_front (bindings tr) s load) (namespaces tr)
loaded_at tr (s ∷ (t ∷ q)) = trie (bindings tr) (in_front (namespaces tr) s (λ scope. loaded_at scope (t ∷ q)))

-- Where look-up of the query gives a loaded Module and the call is unloaded, the table is the source's with the Module there loaded;
-- everywhere else it is the source's.
pub record StaysLoaded (tbl : Table) (loaded : Bool) (path : Str) (q : Query) : Type 0 where
  pub names_are : (register_module_stays_loaded tbl loaded path q).tbl_lids
      ≡ (register_module_path tbl loaded path q).tbl_lids
  pub modules_are : (register_module_stays_loaded tbl loaded path q).tbl_mods
      ≡ cond (loaded_module (find_module_or_ns tbl q) && not loaded)
      (loaded_at (register_module_path tbl loaded path q).tbl_mods q)
      (register_module_path tbl loaded path q).tbl_mods
