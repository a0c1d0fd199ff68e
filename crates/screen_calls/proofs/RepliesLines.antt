-- What a completion replies, by what crate table answers.
use Prim.Native.Nat.{ℕ}
use mathlib.Core.Path.{◌≡◌, refl, ap, ◌∙◌}
use mathlib.Core.Bool.{Bool, true, false}
use mathlib.Core.List.{List}
use mathlib.Core.Option.{Option, none, some, none-ne-some}
use Rattle.source.specs.Text.{Str}
use Rattle.source.specs.Table as S
use Rattle.source.specs.Calls as C
use Rattle.source.specs.Calls.{first_row, argument_rows, Output, completion_rows, completed, complete, complete_modules}
use Rattle.memory.specs.Layout.{Item}
use Rattle.memory_table.specs.Table.{used_words, used_text}
use Rattle.listing_ask.specs.Ask.{asked}
use Rattle.listing_ask.specs.declared.Ask.{Ask}
use Rattle.listing_ask.specs.declared.Ask.TheVariants.{Names, Modules}
use Rattle.listing_ask.specs.declared.Request.{Request}
use Rattle.listing.specs.Completes.{output, CompletesAs}
use Rattle.table.specs.Header.{table_in}
use Rattle.table.specs.Completions.{completion, Completes}
use Rattle.table.specs.declared.Table.{Table}
use Rattle.screen_replies.specs.Filters.{is_asked}
use Rattle.screen_replies.proofs.Filters.{asked_none}
use Rattle.screen_replies.specs.Replies.{no_lines, lines_reply}
use Rattle.screen_replies.specs.declared.CompleteReply.{CompleteReply}
use Rattle.screen_calls.specs.Memory.{SoundBytes}
use Rattle.screen_calls.specs.Replies.{RepliesAs, unchosen, Replies}
use Rattle.screen_calls.specs.Completions.{ListsAs, unasked, Refuses, RepliesLines}
use Rattle.screen_calls.proofs.Held.{Held, says_memory, says_unsound}
use Rattle.listing.specs.declared.Listed.{Listed}
use Rattle.refusals.specs.declared.Refusal.{Refusal}
use Rattle.table.specs.declared.Answer.{Answer}
use Rattle.std.specs.Prelude.{Err, Ok, Result}

-- ---- By crate table's answer

module _ (ask : Ask) (m txt ls ls' out out' : List ℕ) where
  refused_as : (r : Result Listed Refusal) (n : ℕ) → CompletesAs ask m txt ls ls' out out' r (C.refused n)
      → ListsAs ask m txt ls ls' out out' (lines_reply r) (C.refused n)
  refused_as (Ok listed) n a = absurd (none-ne-some n a.0)
  refused_as (Err x) n a = record { reply = let e = a.0 in cc; lines = a.1; text = a.2 }

  replied_as : (r : Result Listed Refusal) (x : C.Completed (Item (asked ask)))
      → CompletesAs ask m txt ls ls' out out' r x
      → ListsAs ask m txt ls ls' out out' (lines_reply r) x
  replied_as r (C.listed lines entered) a = record { reply = ap lines_reply a.0; written = a.1 }
  replied_as r (C.refused n) a = refused_as r n a

-- ---- By the bytes

completion_unsound : (tbl : S.Table) (ask : Ask) (budget : ℕ) (o : Output) (q : Str)
    → completion false tbl ask budget o q ≡ C.refused 1
unfolding complete complete_modules completed completion_rows first_row argument_rows
completion_unsound tbl (Names f) budget o q = refl
completion_unsound tbl (Modules f) budget o q = refl

unasked_as : (b : Bool) (st bs txt ls out : List ℕ) {k : ℕ} {r : CompleteReply}
    → RepliesAs (unchosen b) st bs txt st bs txt none k → r ≡ no_lines k → Refuses (unasked b) ls ls out out r
unasked_as true st bs txt ls out a p = record { reply = p ∙ ap no_lines a.0; lines = refl; text = refl }
unasked_as false st bs txt ls out a p = record { reply = p ∙ ap no_lines a.0; lines = refl; text = refl }

module _ {st bs txt : List ℕ} {query : Str} {ls out : List ℕ} where
  pub lines_unsound : {request : Request} {r : CompleteReply} → (SoundBytes st bs txt → ⊥) → r ≡ no_lines 1
      → RepliesLines st bs txt (some request.ask) query request.budget ls ls out out r
  lines_unsound {request} e p = record {
    says = λ b h. rw (says_unsound b e h, completion_unsound _ request.ask _ _ _) (record { reply = p; lines = refl; text = refl });
  }

  pub lines_replied : {m ls' out' : List ℕ} {tab : Table} {request : Request} (r : Answer Listed) {c : CompleteReply}
      → Held st bs m tab
      → Completes m txt tab request query ls ls' out out' r → c ≡ lines_reply r.answer
      → RepliesLines st bs txt (some request.ask) query request.budget ls ls' out out' c
  lines_replied {m} {ls'} {out'} {tab} {request} r h g p = record {
    says = λ b i. rw (← h.lent, h.spelt.header, p)
        (replied_as request.ask (used_words m tab.header) (used_text txt tab.header) ls ls' out out' r.answer
        (completion b (table_in m txt tab) request.ask request.budget (output ls out) query)
        (g.says b (says_memory txt h b i)));
  }

  pub lines_asked : {budget : ℕ} {ls' out' : List ℕ} {ask : Ask} {o : Option Ask} {r : CompleteReply} → o ≡ some ask
      → RepliesLines st bs txt (some ask) query budget ls ls' out out' r
      → RepliesLines st bs txt o query budget ls ls' out out' r
  lines_asked e p = rw e p

  pub lines_unasked : {budget : ℕ} (o : Option Ask) {k : ℕ} {r : CompleteReply} → is_asked o ≡ false
      → Replies st bs txt st bs txt none k → r ≡ no_lines k → RepliesLines st bs txt o query budget ls ls out out r
  lines_unasked o h p q = rw (asked_none o h) (record { says = λ b i. unasked_as b st bs txt ls out (p.says b i) q })
