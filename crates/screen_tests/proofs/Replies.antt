-- A reply, from what crate table's call and the helpers ensure.
use Prim.Native.Nat.{ℕ}
use mathlib.Core.Path.{◌≡◌, subst}
use mathlib.Core.Bool.{true}
use mathlib.Core.List.{List}
use Rattle.source.specs.Text.{Str}
use Rattle.source.specs.Calls.{Call}
use Rattle.listing_ask.specs.declared.Ask.{Ask}
use Rattle.table.specs.Header.{IsSound}
use Rattle.table_roots.specs.Answers.{name_found}
use Rattle.table.specs.Answers.{Finds}
use Rattle.table.specs.Completions.{Completes}
use Rattle.table.specs.Registrations.{Answers, Total}
use Rattle.table.specs.declared.Table.{Table}
use Rattle.table.proofs.Says.{says_same}
use Rattle.screen_replies.specs.Replies.{name_reply, lines_reply}
use Rattle.screen_replies.specs.declared.NameReply.{NameReply}
use Rattle.screen_replies.specs.declared.CompleteReply.{CompleteReply}
use Rattle.screen_replies.specs.declared.SharedReply.{SharedReply}
use Rattle.table_shared.specs.Sharing.{CompletesShared}
use Rattle.table_shared.specs.declared.Sharing.{Sharing}
use Rattle.screen_tests.specs.Replies.{ask_of, reply_of, shared_of, RegisterReplies, FindReplies, ListReplies, SharedReplies}
use Rattle.screen_tests.specs.declared.Reply.{Reply}
use Rattle.listing.specs.declared.Listed.{Listed}
use Rattle.source.specs.declared.LidSymbol.{LidSymbol}
use Rattle.table.specs.declared.Answer.{Answer}
use Rattle.std.specs.Prelude.{Option}

module _ {ws txt ws' txt' : List ℕ} {tab tab' : Table} {c : Call} {x : Answer Unit} {r : Reply} where
  pub register_replies : tab ≡ tab' → Total ws txt ws' txt' tab c x → r ≡ reply_of x
      → RegisterReplies ws txt ws' txt' tab' c r
  register_replies e a f = record { answer = x; total = subst (λ u. Total ws txt ws' txt' u c x) e a; reply = f }

  -- In a sound memory.
  pub replies_sound : tab ≡ tab' → IsSound ws txt tab' → Answers true ws txt ws' txt' tab c x → r ≡ reply_of x
      → RegisterReplies ws txt ws' txt' tab' c r
  replies_sound e o a f = record { answer = x; total = λ b h. rw (says_same _ b true h o) (subst (λ u. Answers true ws txt ws' txt' u c x) e a); reply = f }

pub finds_replies : {ws txt : List ℕ} {tab tab' : Table} {query : Str} {x : Answer (Option LidSymbol)} {r : NameReply}
    → tab ≡ tab'
    → Finds ws txt tab query x → r ≡ name_reply (name_found x.answer) → FindReplies ws txt tab' query r
finds_replies {ws} {txt} {query = query} {x} e a f = record { answer = x; finds = subst (λ u. Finds ws txt u query x) e a; reply = f }

-- What is said of a table and of what is asked is said of equal ones.
same_asked : (P : Table → Ask → Type 0) {tab tab' : Table} {ask ask' : Ask} → tab ≡ tab' → ask ≡ ask' → P tab ask
    → P tab' ask'
same_asked P {tab' = tab'} {ask} e g x = subst (P tab') g (subst (λ (u : Table). P u ask) e x)

module _ {ws txt : List ℕ} {tab tab' : Table} {ask : Ask} {n : ℕ} {query : Str} {budget : ℕ}
    {flat flat' out out' : List ℕ}
    (e : tab ≡ tab') (g : ask ≡ ask_of n) where
  pub lists_replies : {x : Answer Listed} {r : CompleteReply}
      → Completes ws txt tab (record { ask = ask; budget = budget }) query flat flat' out out' x → r ≡ lines_reply x.answer
      → ListReplies ws txt tab' n query budget flat flat' out out' r
  lists_replies {x} a f = record {
    answer = x;
    completes = same_asked (λ u k. Completes ws txt u (record { ask = k; budget = budget }) query flat flat' out out' x) e g a;
    reply = f;
  }

  pub shares_replies : {x : Sharing} {r : SharedReply}
      → CompletesShared ws txt tab (record { ask = ask; budget = budget }) query flat flat' out out' x → r ≡ shared_of x
      → SharedReplies ws txt tab' n query budget flat flat' out out' r
  shares_replies {x} a f = record {
    answer = x;
    completes = same_asked (λ u k. CompletesShared ws txt u (record { ask = k; budget = budget }) query flat flat' out out' x) e g a;
    reply = f;
  }
