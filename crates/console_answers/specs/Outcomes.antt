-- What the program `console` replies to a line and what table it leaves, from the source's functions and the requirements' replies.
use Rattle.std.specs.Prelude.{◌≡◌, true, false, List, [], ◌∷◌}
use Rattle.std.proofs.Math.Option.{Option, some, none as no_call}
use Rattle.source.specs.Calls as C
use Rattle.source.specs.Calls.{State, Lent, Output, Call, register}
use Rattle.script_decimal.specs.Bytes.{Str, ◌·◌}
use Rattle.script.specs.Script.{Command, name, import, alias, module_path, ask, Reads}
use Rattle.script.specs.declared.Import.{Import}
use Rattle.script.specs.declared.Import.TheVariants.{Include, OpenModule, OpenNamespace}
use Rattle.script.specs.declared.Question.TheVariants.{Complete, Modules}
use Rattle.script_replies.specs.Replies.{bad_reply}
use Rattle.console_registrations.specs.Registers.{Outcome, registration}
use Rattle.console_questions.specs.Questions.{asked_text}

-- An open of a module, of a namespace, or an include.
abbrev pub import_call : Import → (host q : Str) → Call
import_call Include host q = C.include host q
import_call OpenModule host q = C.opens true host q
import_call OpenNamespace host q = C.opens false host q

-- What a line that says a command does, where so much memory and so much output is lent.
abbrev pub outcome : Lent → Output → State → Command → Outcome
outcome lent out σ (name host id item) = registration σ (register true lent σ (C.name host id item))
outcome lent out σ (import how host q) = registration σ (register true lent σ (import_call how host q))
outcome lent out σ (alias word host q) = registration σ (register true lent σ (C.alias word host q))
outcome lent out σ (module_path loaded q path) = registration σ (register true lent σ (C.module_path loaded q path))
outcome lent out σ (ask what q) = record { text = asked_text out σ.table what q; after = σ }

-- The registration that a command asks for, none of a question.
abbrev pub command_call : Command → Option Call
command_call (name host id item) = some (C.name host id item)
command_call (import how host q) = some (import_call how host q)
command_call (alias word host q) = some (C.alias word host q)
command_call (module_path loaded q path) = some (C.module_path loaded q path)
command_call (ask what q) = no_call

-- The command registers: its call is accepted.
pub record Accepted (lent : Lent) (σ : State) (c : Command) : Type 0 where
  pub call : Call
  pub is : command_call c ≡ some call
  pub after : State
  pub accepted : register true lent σ call ≡ C.accepted after

-- The line registers nothing in this table.
abbrev pub NoneAccepted : Lent → State → Str → Type 0
NoneAccepted lent σ line = (c : Command) → Reads line c → Accepted lent σ c → ⊥

-- The line asks for no completion.
abbrev pub NoCompletion : Str → Type 0
NoCompletion line = (q : Str) → (Reads line (ask Complete q) → ⊥) × (Reads line (ask Modules q) → ⊥)

-- What a line that says none does.
abbrev pub bad_outcome : State → Outcome
bad_outcome σ = record { text = bad_reply; after = σ }

-- The outcome of a line: that of the command that it says, or of none.
pub record Replied (lent : Lent) (out : Output) (σ : State) (line : Str) (o : Outcome) : Type 0 where
  pub says : (c : Command) → Reads line c → o ≡ outcome lent out σ c
  pub bad : ((c : Command) → Reads line c → ⊥) → o ≡ bad_outcome σ

-- Lines one after another: their replies together, and the table after the last.
pub data Session (lent : Lent) (out : Output) : State → List Str → Str → State → Type 0 where
  none : {σ : State} → Session lent out σ [] [] σ
  then : {σ σ' : State} {line : Str} {lines : List Str} {text : Str} (o : Outcome) → Replied lent out σ line o
      → Session lent out o.after lines text σ'
      → Session lent out σ (line ∷ lines) (o.text · text) σ'

-- The bytes of lines, each with its line feed.
unfoldable pub unlines : List Str → Str
unlines [] = []
unlines (s ∷ ss) = s · (10 ∷ unlines ss)
