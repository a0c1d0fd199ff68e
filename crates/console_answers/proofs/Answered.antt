-- The answer to a line is that of its command (`Answered`).
use Prim.Native.Nat.{ℕ}
use native.Mathlib.Omega.{arith}
use mathlib.Core.Path.{◌≡◌, refl, sym, ap, ◌∙◌, subst}
use mathlib.Core.Bool.{true}
use mathlib.Core.List.{List}
use mathlib.Core.Option.{some}
use Rattle.source.specs.Calls as C
use Rattle.source.specs.Calls.{State, Lent, Output, Call, register}
use Rattle.text.specs.Laid.{Laid}
use Rattle.script_decimal.specs.Bytes.{Str}
use Rattle.script.specs.Script.{Command, name, import, alias, module_path, ask, Reads, import_kind, OfKind, RegistrationLine}
use Rattle.script.specs.declared.Import.{Import}
use Rattle.script.specs.declared.Import.TheVariants.{Include, OpenModule, OpenNamespace}
use Rattle.register_kind.specs.declared.CallKind.{CallKind}
use Rattle.register_kind.specs.Shapes.{call_of}
use Rattle.register_kind.proofs.Shapes.{open_module_is_include}
use Rattle.script.specs.declared.Question.{Question}
use Rattle.script.specs.declared.Question.TheVariants.{Find, Complete, Modules}
use Rattle.script.proofs.ReadsOnce.{reads_once}
use Rattle.script_replies.specs.Replies.{bad_reply}
use Rattle.listing.specs.Completes.{output}
use Rattle.table.specs.Header.{IsSound, state, lent, table_in}
use Rattle.table.specs.Registrations.{Unchanged}
use Rattle.table.specs.declared.Table.{Table}
use Rattle.console_registrations.specs.Registers.{Outcome, registration, Leaves, Registers}
use Rattle.console_registrations.specs.declared.Done.{Done}
use Rattle.source.proofs.Outside.{outside_none}
use Rattle.console_questions.specs.Questions.{asked_text}
use Rattle.console_questions.specs.Left.{OutputKept, AskedLine}
use Rattle.console_answers.specs.Outcomes.{import_call, outcome, command_call, Accepted, NoCompletion}
use Rattle.console_answers.specs.Answers.{AsksLeave, Answered}

-- The call that a command asks for is registered as that of the kind and the texts.
record IsCall (c : Command) (k : CallKind) (h o y : Str) : Type 0 where
  call : Call
  is : command_call c ≡ some call
  outcome_is : (loan : Lent) (out : Output) (σ : State)
      → outcome loan out σ c ≡ registration σ (register true loan σ call)
  same : (loan : Lent) (σ : State) → register true loan σ (call_of k h o y) ≡ register true loan σ call

import_same : (how : Import) (loan : Lent) (σ : State) (host q key : Str)
    → register true loan σ (call_of (import_kind how) host q key) ≡ register true loan σ (import_call how host q)
import_same Include loan σ host q key = refl
import_same OpenModule loan σ host q key = sym (open_module_is_include true loan σ host q)
import_same OpenNamespace loan σ host q key = refl

is_call : (c : Command) {k : CallKind} {h o y : Str} → OfKind c k h o y → IsCall c k h o y
is_call (name host id n) e = record { call = C.name host id n; is = refl; outcome_is = λ l out s. refl; same = λ l s. rw (e.0, e.1, e.2) refl }
is_call (import how host q) {y = y} e =
    record {
      call = import_call how host q;
      is = refl;
      outcome_is = λ l out s. refl;
      same = λ l s. rw (e.0, e.1, e.2) (import_same how l s host q y);
    }
is_call (alias word host q) e = record { call = C.alias word host q; is = refl; outcome_is = λ l out s. refl; same = λ l s. rw (e.0, e.1, e.2, e.3) refl }
is_call (module_path loaded q path) e =
    record {
      call = C.module_path loaded q path;
      is = refl;
      outcome_is = λ l out s. refl;
      same = λ l s. rw (e.0, e.1, e.2) refl;
    }
is_call (ask what q) e = absurd e

-- What an outcome is, by its parts.
same_outcome : {text : Str} {after : State} (o : Outcome) → text ≡ o.text → after ≡ o.after
    → record { text = text; after = after } ≡ o
same_outcome o p q = rw (p, q) refl

-- What a registration and a line that says nothing leave of the lent output.
kept : {flat pane : List ℕ} → OutputKept flat flat pane pane
kept = record { flat_is = refl; pane_is = refl }

module _ {ws txt ws' txt' flat flat' pane pane' reply reply' : List ℕ} {tab : Table} {line : Str} {at : ℕ}
    {r : Done} where
  answered_by : {c : Command} → Reads line c
      → Leaves ws txt ws' txt' tab reply reply' at (outcome (lent ws txt) (output flat pane) (state ws txt tab) c) r
      → ((Accepted (lent ws txt) (state ws txt tab) c → ⊥) → Unchanged ws txt ws' txt' tab r.table)
      → AsksLeave ws txt tab flat flat' pane pane' line → (NoCompletion line → OutputKept flat flat' pane pane')
      → Answered ws txt ws' txt' tab line flat flat' pane pane' reply reply' at r
  answered_by {c} h l k a q =
      let o : Outcome = outcome (lent ws txt) (output flat pane) (state ws txt tab) c in
      record {
        text = o.text;
        replied = record {
          says = λ d i. same_outcome o refl l.reads
              ∙ ap (outcome (lent ws txt) (output flat pane) (state ws txt tab)) (reads_once line c d h i);
          bad = λ n. absurd (n c h);
        };
        laid = l.laid;
        sound = l.sound;
        words = l.words;
        texts = l.texts;
        grows = l.grows;
        still = λ n. k (n c h);
        asks = a;
        quiet = q;
      }

-- A line that says a registration.
module _ {ws txt ws' txt' reply reply' : List ℕ} {tab : Table} {line : Str} {at : ℕ} {r : Done}
    (flat pane : List ℕ) where
  pub answered_call : {k : CallKind} {host other key : Str} → RegistrationLine line k host other key
      → Registers ws txt ws' txt' tab (call_of k host other key) reply reply' at r
      → Answered ws txt ws' txt' tab line flat flat pane pane reply reply' at r
  answered_call {k} {host} {other} {key} l x =
      answered_by l.reads leaves (go (register true (lent ws txt) (state ws txt tab) i.call) refl)
      (λ what u e. absurd (no_question what u e)) (λ _. kept)
    where
      no_question : (what : Question) (u : Str) → Reads line (ask what u) → ⊥
      no_question what u e =
          subst (λ (d : Command). OfKind d k host other key)
          (reads_once line l.command (ask what u) l.reads e) l.of_kind

      i : IsCall l.command k host other key
      i = is_call l.command l.of_kind

      leaves : Leaves ws txt ws' txt' tab reply reply' at
          (outcome (lent ws txt) (output flat pane) (state ws txt tab) l.command) r
      leaves = rw (i.outcome_is (lent ws txt) (output flat pane) (state ws txt tab), sym (i.same (lent ws txt) (state ws txt tab))) x.leaves

      go : (v : C.Registered) → register true (lent ws txt) (state ws txt tab) i.call ≡ v
          → (Accepted (lent ws txt) (state ws txt tab) l.command → ⊥) → Unchanged ws txt ws' txt' tab r.table
      go (C.accepted s) e n = absurd (n (record { call = i.call; is = i.is; after = s; accepted = e }))
      go (C.refused m) e n = x.still m (i.same (lent ws txt) (state ws txt tab) ∙ e)

-- Nothing has changed but the reply.
leaves_same : {ws txt reply reply' : List ℕ} {tab : Table} {at e : ℕ} (s : Str) → IsSound ws txt tab
    → Laid reply reply' at e s
    → Leaves ws txt ws txt tab reply reply' at (record { text = s; after = state ws txt tab }) (record { table = tab; end = e })
leaves_same {ws} {txt} {tab = tab} s sound l =
    record {
      sound = sound;
      reads = refl;
      words = outside_none ws;
      texts = outside_none txt;
      grows = (omega arith, omega arith);
      laid = l;
    }

same : {ws txt : List ℕ} {tab : Table} → Unchanged ws txt ws txt tab tab
same = record { table = refl; words = refl; text = refl }

-- A line that says a question.
module _ {ws txt flat flat' pane pane' reply reply' : List ℕ} {tab : Table} {line : Str} {at e : ℕ} where
  asks_as : {what : Question} {q : Str} → Reads line (ask what q)
      → AskedLine ws txt tab what q flat flat' pane pane' reply reply' at e
      → AsksLeave ws txt tab flat flat' pane pane' line
  asks_as {what} {q} h x what' q' i =
      let same_line : ask what q ≡ ask what' q' = reads_once line (ask what q) (ask what' q') h i in
      let w : what ≡ what' = cc in let u : q ≡ q' = cc in rw (sym w, sym u) x.leaves

  asks_quiet : (what : Question) {q : Str} → Reads line (ask what q)
      → AskedLine ws txt tab what q flat flat' pane pane' reply reply' at e
      → NoCompletion line → OutputKept flat flat' pane pane'
  asks_quiet Find h x n = x.leaves
  asks_quiet Complete {q} h x n = absurd ((n q).0 h)
  asks_quiet Modules {q} h x n = absurd ((n q).1 h)

  pub answered_ask : {what : Question} {q : Str} → IsSound ws txt tab → Reads line (ask what q)
      → AskedLine ws txt tab what q flat flat' pane pane' reply reply' at e
      → Answered ws txt ws txt tab line flat flat' pane pane' reply reply' at (record { table = tab; end = e })
  answered_ask {what} {q} sound h x =
      answered_by h (leaves_same (asked_text (output flat pane) (table_in ws txt tab) what q) sound x.laid) (λ _. same)
      (asks_as h x) (asks_quiet what h x)

-- A line that says nothing.
pub answered_bad : {ws txt reply reply' : List ℕ} {tab : Table} {line : Str} {at e : ℕ} (flat pane : List ℕ)
    → IsSound ws txt tab → ((c : Command) → Reads line c → ⊥) → Laid reply reply' at e bad_reply
    → Answered ws txt ws txt tab line flat flat pane pane reply reply' at (record { table = tab; end = e })
answered_bad {ws} {txt} flat pane sound n l =
    record {
      text = bad_reply;
      replied = record { says = λ c h. absurd (n c h); bad = λ _. refl };
      laid = l;
      sound = sound;
      words = outside_none ws;
      texts = outside_none txt;
      grows = (omega arith, omega arith);
      still = λ _. same;
      asks = λ what q h. absurd (n (ask what q) h);
      quiet = λ _. kept;
    }
