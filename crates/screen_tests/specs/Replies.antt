-- What the calls for tests reply: what crate table hands back, as numbers.
use Rattle.std.specs.Prelude.{ℕ, ◌-◌, ◌≡◌, List, ltb, Err, Ok, Option, Result}
use Rattle.source.specs.Text.{Str}
use Rattle.source.specs.Tries.{dflt}
use Rattle.source.specs.Items.{read_kind}
use Rattle.source.specs.Calls.{Call}
use Rattle.source.specs.declared.LidSymbol.{LidSymbol}
use Rattle.memory.specs.Layout.{pick}
use Rattle.refusals.specs.Refusals.{number}
use Rattle.listing_ask.specs.declared.Ask.{Ask}
use Rattle.listing_ask.specs.declared.Ask.TheVariants.{Modules}
use Rattle.listing_ask.specs.declared.Filter.TheVariants.{NamespacesOnly}
use Rattle.table.specs.declared.Table.{Table}
use Rattle.table_roots.specs.Answers.{name_found}
use Rattle.table.specs.Answers.{Finds}
use Rattle.table.specs.Completions.{Completes}
use Rattle.table.specs.Registrations.{Total}
use Rattle.screen_replies.specs.Filters.{names_for, modules_for}
use Rattle.screen_replies.specs.Replies.{name_reply, lines_reply, shared_reply}
use Rattle.screen_replies.specs.declared.NameReply.{NameReply}
use Rattle.screen_replies.specs.declared.CompleteReply.{CompleteReply}
use Rattle.screen_replies.specs.declared.SharedReply.{SharedReply}
use Rattle.table_shared.specs.Sharing.{CompletesShared}
use Rattle.table_shared.specs.declared.Sharing.{Sharing}
use Rattle.screen_tests.specs.declared.Reply.{Reply}
use Rattle.listing.specs.declared.Listed.{Listed}
use Rattle.refusals.specs.declared.Refusal.{Refusal}
use Rattle.table.specs.declared.Answer.{Answer}

-- The table of four numbers.
abbrev pub table_of : (names modules records used : ℕ) → Table
table_of names modules records used =
    record { header = record { names = names; modules = modules; records = records; text = used } }

-- What a number asks: below four names, by the number of a filter; below eight modules; else NamespacesOnly.
abbrev pub ask_of : ℕ → Ask
ask_of n = dflt (Modules NamespacesOnly) (pick (ltb n 4) (names_for n) (modules_for (n - 4)))

-- The item of two numbers.
abbrev pub item_of : (kind number : ℕ) → LidSymbol
item_of kind number = record { kind = read_kind kind; number = number }

-- ---- Registrations

-- 0, or the number of the refusal.
abbrev pub refusal_of : Result Unit Refusal → ℕ
refusal_of (Ok _) = 0
refusal_of (Err x) = number x

abbrev pub reply_of : Answer Unit → Reply
reply_of x = record {
  refusal = refusal_of x.answer;
  names = x.table.header.names;
  modules = x.table.header.modules;
  records = x.table.header.records;
  text = x.table.header.text;
}

-- The reply to a registration: that of what table's contract says.
pub record RegisterReplies (ws txt ws' txt' : List ℕ) (tab : Table) (c : Call) (r : Reply) : Type 0 where
  pub answer : Answer Unit
  pub total : Total ws txt ws' txt' tab c answer
  pub reply : r ≡ reply_of answer

-- ---- Look-ups

-- The reply to a look-up of a name: that of what table's contract says.
pub record FindReplies (ws txt : List ℕ) (tab : Table) (query : Str) (r : NameReply) : Type 0 where
  pub answer : Answer (Option LidSymbol)
  pub finds : Finds ws txt tab query answer
  pub reply : r ≡ name_reply (name_found answer.answer)

-- ---- Completions

-- The reply to a completion: that of what table's contract says.
pub record ListReplies (ws txt : List ℕ) (tab : Table) (ask : ℕ) (query : Str) (budget : ℕ)
    (flat flat' out out' : List ℕ)
    (r : CompleteReply) : Type 0 where
  pub answer : Answer Listed
  pub completes : Completes ws txt tab (record { ask = ask_of ask; budget = budget }) query flat flat' out out' answer
  pub reply : r ≡ lines_reply answer.answer

abbrev pub shared_of : Sharing → SharedReply
shared_of x = shared_reply (lines_reply x.listing.answer) x.shared

-- The reply to a completion with its shared length: that of what sharing's contract says.
pub record SharedReplies (ws txt : List ℕ) (tab : Table) (ask : ℕ) (query : Str) (budget : ℕ)
    (flat flat' out out' : List ℕ) (r : SharedReply) : Type 0 where
  pub answer : Sharing
  pub completes : CompletesShared ws txt tab
      (record { ask = ask_of ask; budget = budget }) query flat flat' out out' answer
  pub reply : r ≡ shared_of answer
