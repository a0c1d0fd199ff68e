-- A look-up on a table.
use Prim.Native.Nat.{ℕ}
use mathlib.Core.Path.{◌≡◌, refl}
use mathlib.Core.Bool.{true, false}
use mathlib.Core.List.{List}
use Rattle.source.specs.Text.{Str}
use Rattle.source.specs.Calls.{first_row, argument_rows, look_up}
use Rattle.refusals.specs.declared.Refusal.TheVariants.{Unsound}
use Rattle.table.specs.Header.{IsSound, names_in}
use Rattle.table_roots.specs.Answers.{name_found, FindsModuleOn}
use Rattle.table.specs.Answers.{Finds, FindsModule}
use Rattle.table.specs.declared.Table.{Table}
use Rattle.refusals.specs.declared.Refusal.{Refusal}
use Rattle.source.specs.declared.LidSymbol.{LidSymbol}
use Rattle.memory.specs.declared.ModSymbol.{ModSymbol}
use Rattle.std.specs.Prelude.{Option, Result, Err}
use Rattle.table.proofs.Says.{says_same}

module _ {ws txt : List ℕ} {tab : Table} {query : Str} where
  pub finds_sound : {f : Result (Option LidSymbol) Refusal} → IsSound ws txt tab
      → name_found f ≡ look_up true (names_in ws txt tab) query
      → Finds ws txt tab query (record { table = tab; answer = f })
  finds_sound o e = record { table = refl; says = λ b h. rw (says_same _ b true h o) e }

  pub finds_unsound : (IsSound ws txt tab → ⊥)
      → Finds ws txt tab query (record { table = tab; answer = Err Unsound })
  unfolding first_row argument_rows look_up
  finds_unsound o = record { table = refl; says = λ b h. rw (says_same _ b false h o) refl }

  pub finds_module_sound : {f : Result (Option ModSymbol) Refusal} → IsSound ws txt tab
      → FindsModuleOn ws txt tab.header query f
      → FindsModule ws txt tab query (record { table = tab; answer = f })
  finds_module_sound o m = record { table = refl; says = λ b h. rw (says_same _ b true h o) m.says; inside = m.inside }

  pub finds_module_unsound : (IsSound ws txt tab → ⊥)
      → FindsModule ws txt tab query (record { table = tab; answer = Err Unsound })
  unfolding first_row argument_rows look_up
  finds_module_unsound o = record { table = refl; says = λ b h. rw (says_same _ b false h o) refl; inside = tt }
