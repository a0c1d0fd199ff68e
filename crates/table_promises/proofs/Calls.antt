-- Of the calls: an accepted registration gives the definition's table, and an accepted name changes no look-up but that of its own full name.
use Prim.Native.Nat.{ℕ}
use mathlib.Core.Path.{◌≡◌, sym, ap, ◌∙◌}
use mathlib.Core.Bool.{Bool, true}
use mathlib.Core.List.{List, [], ◌∷◌, ◌++◌}
use mathlib.Core.Option.{none, none-ne-some}
use Rattle.source.specs.Text.{Str, segments}
use Rattle.source.specs.Table.{register_open}
use Rattle.source.specs.Calls as C
use Rattle.source.specs.Calls.{State, Call, name, opens, registered, after, register, look_up}
use Rattle.source.proofs.Refusals.{accepted_is}
use Rattle.promises.proofs.Unchanged.{name_unchanged}
use Rattle.source.specs.declared.LidSymbol.{LidSymbol}
use Rattle.table.specs.declared.Table.{Table}
use Rattle.table.specs.Header.{table_in, state, lent, names_in}
use Rattle.table.specs.Registrations.{refusal_of, AnswersAs, Answers}
use Rattle.table.specs.declared.Answer.{Answer}

module _ {ws txt ws' txt' : List ℕ} {tab : Table} {c : Call} {r : Answer Unit}
    (a : Answers true ws txt ws' txt' tab c r)
    (e : refusal_of r.answer ≡ none) where
  -- The definition accepts, with the state that the new header reads as.
  accepts : register true (lent ws txt) (state ws txt tab) c ≡ C.accepted (state ws' txt' r.table)
  accepts = go (register true (lent ws txt) (state ws txt tab) c) a.says
    where
      go : (o : C.Registered) → AnswersAs o ws txt ws' txt' tab c r → o ≡ C.accepted (state ws' txt' r.table)
      go (C.accepted s) h = ap C.accepted (sym h.1.reads)
      go (C.refused n) h = absurd (none-ne-some n (sym e ∙ h.0))

  -- The new table is what the definition's function makes of the old one: the source's, but of a module path.
  pub accepted_table : table_in ws' txt' r.table ≡ registered (table_in ws txt tab) c
  unfolding after
  accepted_table = ap (λ (x : State). x.table) (accepted_is true (lent ws txt) (state ws txt tab) _ c accepts)

-- The two calls that open, by the source's register_open at the flag of each.
pub opened_table : {ws txt ws' txt' : List ℕ} {tab : Table} {r : Answer Unit} (is_module : Bool) (host query : Str)
    → Answers true ws txt ws' txt' tab (opens is_module host query) r → refusal_of r.answer ≡ none
    → table_in ws' txt' r.table ≡ register_open (table_in ws txt tab) is_module (segments host) (segments query)
unfolding registered
opened_table is_module host query a e = accepted_table a e

pub insert_unchanged : (ws txt ws' txt' : List ℕ) (tab : Table) (host id : Str) (item : LidSymbol) (r : Answer Unit)
    (query : Str)
    → Answers true ws txt ws' txt' tab (name host id item) r → refusal_of r.answer ≡ none
    → (segments query ≡ segments host ++ (id ∷ []) → ⊥)
    → look_up true (names_in ws' txt' r.table) query ≡ look_up true (names_in ws txt tab) query
insert_unchanged ws txt ws' txt' tab host id item r query a e d = name_unchanged true (lent ws txt) (state ws txt tab) _ host id item query (accepts a e) d
