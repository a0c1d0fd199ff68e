-- What the answers stand for: the requirements' numbers and values.
use Rattle.std.specs.Prelude.{ℕ, ◌+◌, ◌*◌, ◌≤◌, ◌<◌, ◌≡◌, true, List, length, Option, Some, None, Result, Ok, Err}
use Rattle.source.specs.Limits.{record_words}
use Rattle.source.specs.Text.{Str}
use Rattle.source.specs.Types.{bind}
use Rattle.source.specs.Table.{ModSymbol}
use Rattle.source.specs.Calls as C
use Rattle.source.specs.Calls.{look_up}
use Rattle.memory.specs.Layout.{record_at, Which, modules, Item, item_of, tree, trieˢ, kind, what}
use Rattle.memory.specs.Sound.{LinkOk, At}
use Rattle.source.specs.declared.LidSymbol.{LidSymbol}
use Rattle.memory.specs.declared.ModSymbol.{ModSymbol as StoredSymbol}
use Rattle.memory.specs.Read.{symbol_of}
use Rattle.memory_table.specs.Table.{used_text}
use Rattle.memory_table.specs.declared.Header.{Header}
use Rattle.refusals.specs.Refusals.{number}
use Rattle.refusals.specs.declared.Refusal.{Refusal}
use Rattle.listing_row.specs.Rows.{SymbolInside}

-- The answer of a look-up of a name.
abbrev pub name_found : Result (Option LidSymbol) Refusal → C.Found LidSymbol
name_found (Ok (Some n)) = C.found n
name_found (Ok None) = C.not_found
name_found (Err r) = C.refused (number r)

-- The answer of a look-up of a module or namespace, with its texts.
abbrev pub module_found : List ℕ → Result (Option StoredSymbol) Refusal → C.Found ModSymbol
module_found txt (Ok (Some symbol)) = C.found (symbol_of txt symbol)
module_found txt (Ok None) = C.not_found
module_found txt (Err r) = C.refused (number r)

-- The texts of an answer lie in a text of so many bytes.
abbrev pub FoundInside : ℕ → Result (Option StoredSymbol) Refusal → Type 0
FoundInside size (Ok (Some symbol)) = SymbolInside size symbol
FoundInside size (Ok None) = Unit {0}
FoundInside size (Err r) = Unit {0}

-- The answer of a look-up that ends at a branch of bindings.
abbrev pub item_found : (w : Which) (ws txt : List ℕ) → Result (Option ℕ) Refusal → C.Found (Item w)
item_found w ws txt (Ok (Some l)) = C.found (item_of w txt (record_at ws l))
item_found w ws txt (Ok None) = C.not_found
item_found w ws txt (Err r) = C.refused (number r)

-- The branch is a record.
abbrev pub BranchFits : List ℕ → Result (Option ℕ) Refusal → Type 0
BranchFits ws (Ok (Some l)) = (0 < l) × (l * record_words ≤ length ws)
BranchFits ws (Ok None) = Unit {0}
BranchFits ws (Err r) = Unit {0}

-- The branch is one of bindings, no later than the root.
abbrev pub BranchOf : Which → (ws : List ℕ) (root : ℕ) → Result (Option ℕ) Refusal → Type 0
BranchOf w ws root (Ok (Some l)) = LinkOk ws (root + 1) l (kind w (tree bind))
BranchOf w ws root (Ok None) = Unit {0}
BranchOf w ws root (Err r) = Unit {0}

-- A look-up, for any table that the trie is of.
pub record LookedUp (ws txt : List ℕ) (root : ℕ) (query : Str) (r : Result (Option ℕ) Refusal) : Type 0 where
  pub fits : BranchFits ws r
  pub link : (w : Which) → At ws txt w trieˢ root → BranchOf w ws root r
  pub says : (w : Which) → At ws txt w trieˢ root
      → item_found w ws txt r ≡ look_up true (what w ws txt root trieˢ) query

-- A look-up of a module or namespace, whose texts lie in the used text.
pub record FindsModuleOn (ws txt : List ℕ) (h : Header) (query : Str)
    (r : Result (Option StoredSymbol) Refusal) : Type 0 where
  pub says : module_found txt r ≡ look_up true (what modules ws txt h.modules trieˢ) query
  pub inside : FoundInside (length (used_text txt h)) r
