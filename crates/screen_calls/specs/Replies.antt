-- What the exported calls reply, and what they leave of the bytes lent.
use Rattle.std.specs.Prelude.{ℕ, zero, suc, ◌*◌, ◌≡◌, Bool, true, false, List, length, Option as Maybe, Result}
use Rattle.std.proofs.Math.Option.{Option, none, some}
use Rattle.source.specs.Text.{Str}
use Rattle.source.specs.Table as S
use Rattle.source.specs.Calls as C
use Rattle.source.specs.Calls.{State, Lent, Call, register, look_up}
use Rattle.memory.specs.Sound.{Says}
use Rattle.memory_table.specs.Table.{used_text}
use Rattle.memory_table.specs.declared.Header.{Header}
use Rattle.table.specs.Header.{state, lent, names_in, modules_in}
use Rattle.table_roots.specs.Answers.{module_found, FoundInside}
use Rattle.source.specs.Lent.{Outside}
use Rattle.table.specs.Registrations.{Accepts}
use Rattle.screen_replies.specs.Replies.{name_reply, module_reply}
use Rattle.screen_replies.specs.declared.NameReply.{NameReply}
use Rattle.screen_replies.specs.declared.ModuleReply.{ModuleReply}
use Rattle.screen_memory.specs.Memory.{state_bytes, record_bytes, header_in, words_in}
use Rattle.screen_calls.specs.Memory.{table_at, SoundBytes}
use Rattle.memory.specs.declared.ModSymbol.{ModSymbol}
use Rattle.refusals.specs.declared.Refusal.{Refusal}

-- ---- Registrations

-- A yes or no given as a number: 0 is no, 1 is yes.
unfoldable pub flag_for : ℕ → Option Bool
flag_for zero = some false
flag_for (suc zero) = some true
flag_for (suc (suc n)) = none

-- The call of a choice; a number that stands for none gives no call.
abbrev pub chosen : {A : Type 0} → (A → Call) → Option A → Option Call
chosen f (some a) = some (f a)
chosen f none = none

-- What no call hands back: it is malformed, and Unsound is lower.
abbrev pub unchosen : (sound : Bool) → C.Registered
unchosen true = C.refused 2
unchosen false = C.refused 1

-- What a registration hands back.
abbrev pub answer_to : (sound : Bool) → Lent → State → Option Call → C.Registered
answer_to sound loan σ (some c) = register sound loan σ c
answer_to sound loan σ none = unchosen sound

-- By the call c the bytes stand for the state σ. Only the free records and text that were taken have changed, and the text taken is
-- the call's texts.
pub record AcceptsBytes (st bs txt st' bs' txt' : List ℕ) (c : Call) (σ : State) : Type 0 where
  pub size : length st' ≡ state_bytes
  pub table : Accepts (words_in bs) txt (words_in bs') txt' (table_at st) (table_at st') c σ
  pub bytes : Outside ((header_in st).records * record_bytes) ((header_in st').records * record_bytes) bs bs'

-- No byte has changed.
pub record SameBytes (st bs txt st' bs' txt' : List ℕ) : Type 0 where
  pub state : st' ≡ st
  pub words : bs' ≡ bs
  pub text : txt' ≡ txt

-- The reply r, by what the definition hands back: 0, for a call, or the number of the refusal.
abbrev pub RepliesAs : C.Registered → (st bs txt st' bs' txt' : List ℕ) → Option Call → ℕ → Type 0
RepliesAs (C.accepted σ) st bs txt st' bs' txt' (some c) r = (r ≡ 0) × AcceptsBytes st bs txt st' bs' txt' c σ
RepliesAs (C.accepted σ) st bs txt st' bs' txt' none r = ⊥
RepliesAs (C.refused n) st bs txt st' bs' txt' c r = (r ≡ n) × SameBytes st bs txt st' bs' txt'

-- The reply r to a registration; b says whether the bytes are a sound table.
pub record Replies (st bs txt st' bs' txt' : List ℕ) (c : Option Call) (r : ℕ) : Type 0 where
  pub says : (b : Bool) → Says b (SoundBytes st bs txt)
      → RepliesAs
      (answer_to b (lent (words_in bs) txt) (state (words_in bs) txt (table_at st)) c) st bs txt st' bs' txt' c r

-- ---- Look-ups

-- The reply r to a look-up of a name; b says whether the bytes are a sound table.
pub record RepliesName (st bs txt : List ℕ) (query : Str) (r : NameReply) : Type 0 where
  pub says : (b : Bool) → Says b (SoundBytes st bs txt)
      → r ≡ name_reply (look_up b (names_in (words_in bs) txt (table_at st)) query)

-- The reply r says the answer a, its texts being spans of the lent text that lie in the used text.
pub record SaysModule (txt : List ℕ) (h : Header) (a : C.Found S.ModSymbol) (r : ModuleReply) : Type 0 where
  pub found : Result (Maybe ModSymbol) Refusal
  pub reply : r ≡ module_reply found
  pub says : module_found txt found ≡ a
  pub inside : FoundInside (length (used_text txt h)) found

-- The reply r to a look-up of a module or namespace; b says whether the bytes are a sound table.
pub record RepliesModule (st bs txt : List ℕ) (query : Str) (r : ModuleReply) : Type 0 where
  pub says : (b : Bool) → Says b (SoundBytes st bs txt)
      → SaysModule txt (header_in st) (look_up b (modules_in (words_in bs) txt (table_at st)) query) r
