-- What the exported completions reply, and what they write.
use Rattle.std.specs.Prelude.{ℕ, ◌≡◌, Bool, true, false, List, length}
use Rattle.std.proofs.Math.Option.{Option, none, some}
use Rattle.source.specs.Text.{Str}
use Rattle.source.specs.Table as S
use Rattle.source.specs.Table.{Line}
use Rattle.source.specs.Calls as C
use Rattle.memory.specs.Layout.{Item}
use Rattle.memory.specs.Sound.{Says}
use Rattle.memory_table.specs.Table.{used_words, used_text}
use Rattle.listing_ask.specs.Ask.{asked}
use Rattle.listing_output.specs.Output.{Written}
use Rattle.listing_ask.specs.declared.Ask.{Ask}
use Rattle.table.specs.Header.{table_in}
use Rattle.listing.specs.Completes.{output}
use Rattle.table.specs.Completions.{completion}
use Rattle.screen_replies.specs.Replies.{no_lines, lines_part}
use Rattle.screen_replies.specs.declared.CompleteReply.{CompleteReply}
use Rattle.screen_replies.specs.declared.SharedReply.{SharedReply}
use Rattle.screen_memory.specs.Memory.{header_in, words_in}
use Rattle.screen_calls.specs.Memory.{table_at, SoundBytes}

-- Listed: the lines are written from the start of the lent bytes, their texts from the start of the output text, and every other byte is as it was.
pub record Lists (ask : Ask) (ws txt ls ls' out out' : List ℕ) (lines : List (Line (Item (asked ask)))) (entered : ℕ)
    (r : CompleteReply) : Type 0 where
  pub reply : r ≡ record { answer = 0; lines = length lines; entered = entered }
  pub written : Written (asked ask) ws txt ls ls' out out' 0 0 lines

-- Refused with n: no byte has changed.
pub record Refuses (n : ℕ) (ls ls' out out' : List ℕ) (r : CompleteReply) : Type 0 where
  pub reply : r ≡ no_lines n
  pub lines : ls' ≡ ls
  pub text : out' ≡ out

-- The reply r, by what the definition hands back.
abbrev pub ListsAs : (ask : Ask) (ws txt ls ls' out out' : List ℕ) (r : CompleteReply) → C.Completed (Item (asked ask))
    → Type 0
ListsAs ask ws txt ls ls' out out' r (C.listed lines entered) = Lists ask ws txt ls ls' out out' lines entered r
ListsAs ask ws txt ls ls' out out' r (C.refused n) = Refuses n ls ls' out out' r

-- Where nothing is asked the call is malformed, and Unsound is lower.
abbrev pub unasked : (sound : Bool) → ℕ
unasked true = 2
unasked false = 1

module _ (ws txt : List ℕ) (query : Str) (budget : ℕ) (ls ls' out out' : List ℕ) (r : CompleteReply) where
  -- The reply r to what is asked of the table.
  abbrev pub ListsFor : (sound : Bool) → S.Table → Option Ask → Type 0
  ListsFor sound tbl (some ask) =
      ListsAs ask ws txt ls ls' out out' r (completion sound tbl ask budget (output ls out) query)
  ListsFor sound tbl none = Refuses (unasked sound) ls ls' out out' r

-- The reply r to a completion, its lines' items from used records, their texts in the used text; b says whether the bytes are a sound table.
pub record RepliesLines (st bs txt : List ℕ) (ask : Option Ask) (query : Str) (budget : ℕ) (ls ls' out out' : List ℕ)
    (r : CompleteReply) : Type 0 where
  pub says : (b : Bool) → Says b (SoundBytes st bs txt)
      → ListsFor (used_words (words_in bs) (header_in st)) (used_text txt (header_in st))
      query budget ls ls' out out' r b (table_in (words_in bs) txt (table_at st)) ask

-- The shared length of what is asked of the table; 0 where nothing is asked.
abbrev pub shared_for : (sound : Bool) → S.Table → Option Ask → (budget : ℕ) → C.Output → Str → ℕ
shared_for sound tbl (some ask) budget out query = C.shared_length (completion sound tbl ask budget out query)
shared_for sound tbl none budget out query = 0

-- The reply r to a completion with its shared length: all that a completion replies and writes, and that length; b says whether the bytes are a sound table.
pub record RepliesShared (st bs txt : List ℕ) (ask : Option Ask) (query : Str) (budget : ℕ) (ls ls' out out' : List ℕ)
    (r : SharedReply) : Type 0 where
  pub lines : RepliesLines st bs txt ask query budget ls ls' out out' (lines_part r)
  pub shared : (b : Bool) → Says b (SoundBytes st bs txt)
      → r.shared ≡ shared_for b (table_in (words_in bs) txt (table_at st)) ask budget (output ls out) query
