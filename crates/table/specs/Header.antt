-- The header of a table: what it reads as, with the lent words and text.
use Rattle.std.specs.Prelude.{ℕ, ◌≡◌, List}
use Rattle.source.specs.Types.{Trie}
use Rattle.source.specs.Table as S
use Rattle.source.specs.Table.{ModSymbol}
use Rattle.source.specs.Calls.{State, Lent, fresh}
use Rattle.source.specs.declared.LidSymbol.{LidSymbol}
use Rattle.memory.specs.Layout.{names, modules, trieˢ, what}
use Rattle.memory_table.specs.Table.{table_of, state_of, Sound}
use Rattle.register.specs.Checks as R
use Rattle.table.specs.declared.Table.{Table}

-- The lent memory is a sound table.
abbrev pub IsSound : (ws txt : List ℕ) → Table → Type 0
IsSound ws txt tab = Sound ws txt tab.header

-- The source's table.
abbrev pub table_in : (ws txt : List ℕ) → Table → S.Table
table_in ws txt tab = table_of ws txt tab.header

-- The table by value.
abbrev pub state : (ws txt : List ℕ) → Table → State
state ws txt tab = state_of ws txt tab.header

-- Its root of names.
abbrev pub names_in : (ws txt : List ℕ) → Table → Trie LidSymbol
names_in ws txt tab = what names ws txt tab.header.names trieˢ

-- Its root of modules.
abbrev pub modules_in : (ws txt : List ℕ) → Table → Trie ModSymbol
modules_in ws txt tab = what modules ws txt tab.header.modules trieˢ

-- The fresh table, whatever is lent.
pub record Fresh (tab : Table) : Type 0 where
  pub sound : (ws txt : List ℕ) → IsSound ws txt tab
  pub reads : (ws txt : List ℕ) → state ws txt tab ≡ fresh

-- What is lent with it.
abbrev pub lent : (ws txt : List ℕ) → Lent
lent ws txt = R.lent ws txt
