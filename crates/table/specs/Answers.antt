-- What a look-up hands back.
use Rattle.std.specs.Prelude.{ℕ, ◌≡◌, Bool, List, length, Option}
use Rattle.source.specs.Text.{Str}
use Rattle.source.specs.Calls.{look_up}
use Rattle.memory.specs.Sound.{Says}
use Rattle.memory_table.specs.Table.{used_text}
use Rattle.table_roots.specs.Answers.{name_found, module_found, FoundInside}
use Rattle.table.specs.Header.{IsSound, names_in, modules_in}
use Rattle.table.specs.declared.Table.{Table}
use Rattle.table.specs.declared.Answer.{Answer}
use Rattle.source.specs.declared.LidSymbol.{LidSymbol}
use Rattle.memory.specs.declared.ModSymbol.{ModSymbol}

-- What a look-up of a name hands back, in any memory: the table as it was, and the answer of the definition; b says whether the memory is sound.
pub record Finds (ws txt : List ℕ) (tab : Table) (query : Str) (r : Answer (Option LidSymbol)) : Type 0 where
  pub table : r.table ≡ tab
  pub says : (b : Bool) → Says b (IsSound ws txt tab) → name_found r.answer ≡ look_up b (names_in ws txt tab) query

-- The same of a module or namespace, whose texts lie in the used text.
pub record FindsModule (ws txt : List ℕ) (tab : Table) (query : Str) (r : Answer (Option ModSymbol)) : Type 0 where
  pub table : r.table ≡ tab
  pub says : (b : Bool) → Says b (IsSound ws txt tab)
      → module_found txt r.answer ≡ look_up b (modules_in ws txt tab) query
  pub inside : FoundInside (length (used_text txt tab.header)) r.answer
