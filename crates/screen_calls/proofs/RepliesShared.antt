-- What a completion replies and writes is enough to read its lines and say what they share: RepliesShared, from RepliesLines.
use Prim.Native.Nat.{ℕ}
use mathlib.Core.Path.{◌≡◌, refl, ap, ◌∙◌}
use mathlib.Core.Bool.{Bool}
use mathlib.Core.List.{List}
use mathlib.Core.Option.{Option, none, some}
use Rattle.source.specs.Text.{Str}
use Rattle.source.specs.Calls as C
use Rattle.memory.specs.Layout.{Which, names, Item}
use Rattle.memory.specs.Sound.{Says}
use Rattle.memory_table.specs.Table.{used_words, used_text}
use Rattle.listing_ask.specs.Ask.{asked}
use Rattle.listing_ask.specs.declared.Ask.{Ask}
use Rattle.listing_shared.specs.Shared.{CandidatesIn, shared_seen}
use Rattle.listing_shared.proofs.Shared.{Leaves, leaves_shared, left_candidates}
use Rattle.listing.specs.Completes.{output}
use Rattle.table.specs.Header.{table_in}
use Rattle.table.specs.Completions.{completion}
use Rattle.screen_replies.specs.Replies.{shared_reply}
use Rattle.screen_replies.specs.declared.CompleteReply.{CompleteReply}
use Rattle.screen_replies.specs.declared.SharedReply.{SharedReply}
use Rattle.screen_memory.specs.Memory.{header_in, words_in}
use Rattle.screen_calls.specs.Memory.{table_at, SoundBytes}
use Rattle.screen_calls.specs.Completions.{ListsAs, unasked, RepliesLines, shared_for, RepliesShared}

module _ (ask : Ask) (ws txt ls ls' out out' : List ℕ) (r : CompleteReply) where
  leaves : (v : C.Completed (Item (asked ask))) → ListsAs ask ws txt ls ls' out out' r v
      → Leaves (asked ask) ws txt ls ls' out out' r.lines v
  leaves (C.listed lines entered) a = (ap (λ (c : CompleteReply). c.lines) a.reply, a.written)
  leaves (C.refused n) a = ap (λ (c : CompleteReply). c.lines) a.reply

-- The table that is asked; names where nothing is.
abbrev which : Option Ask → Which
which (some ask) = asked ask
which none = names

module _ (st bs txt : List ℕ) (query : Str) (budget : ℕ) (ls out : List ℕ) where
  abbrev answer : (ask : Option Ask) → Bool → C.Completed (Item (which ask))
  answer (some ask) b = completion b (table_in (words_in bs) txt (table_at st)) ask budget (output ls out) query
  answer none b = C.refused (unasked b)

  answer_shared : (ask : Option Ask) (b : Bool)
      → C.shared_length (answer ask b)
      ≡ shared_for b (table_in (words_in bs) txt (table_at st)) ask budget (output ls out) query
  unfolding C.shared_length
  answer_shared (some ask) b = refl
  answer_shared none b = refl

  -- The memory that the lines are from.
  abbrev ws' : List ℕ
  ws' = used_words (words_in bs) (header_in st)

  abbrev txt' : List ℕ
  txt' = used_text txt (header_in st)

  left : (ls' out' : List ℕ) (r : CompleteReply) (ask : Option Ask)
      → RepliesLines st bs txt ask query budget ls ls' out out' r → (b : Bool) → Says b (SoundBytes st bs txt)
      → Leaves (which ask) ws' txt' ls ls' out out' r.lines (answer ask b)
  left ls' out' r (some ask) x b h = leaves ask ws' txt' ls ls' out out' r (answer (some ask) b) (x.says b h)
  left ls' out' r none x b h = ap (λ (c : CompleteReply). c.lines) (x.says b h).reply

module _ {st bs txt : List ℕ} {ask : Option Ask} {query : Str} {budget : ℕ} {ls ls' out out' : List ℕ}
    {r : CompleteReply} (x : RepliesLines st bs txt ask query budget ls ls' out out' r) where
  pub replies_candidates : CandidatesIn ls' out' r.lines
  replies_candidates = left_candidates (which ask) _ _ ls ls' out out' r.lines (answer st bs txt query budget ls out ask)
      (left st bs txt query budget ls out ls' out' r ask x)

  pub replies_shared : {reply : SharedReply} → reply ≡ shared_reply r (shared_seen ls' out' r.lines)
      → RepliesShared st bs txt ask query budget ls ls' out out' reply
  replies_shared e = rw e (record {
    lines = x;
    shared = λ b h. leaves_shared (which ask) _ _ ls ls' out out' r.lines (answer st bs txt query budget ls out ask b)
        (left st bs txt query budget ls out ls' out' r ask x b h)
        ∙ answer_shared st bs txt query budget ls out ask b;
  })
