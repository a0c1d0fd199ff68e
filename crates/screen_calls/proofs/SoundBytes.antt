-- The bytes that a caller keeps are a sound table: at the start, and after each accepted call.
use Prim.Native.Nat.{ℕ}
use mathlib.Core.Path.{◌≡◌, refl}
use mathlib.Core.List.{List}
use lib.ListN.{replicate}
use Rattle.source.specs.Calls.{State, Call, fresh}
use Rattle.memory_table.proofs.Table.{fresh_memory_sound}
use Rattle.memory_table.proofs.Table.{fresh_state}
use Rattle.table.specs.Header.{state}
use Rattle.memory_bytes.specs.Bytes.{word_at}
use Rattle.screen_memory.specs.Memory.{state_bytes, header_in, words_in}
use Rattle.screen_calls.specs.Memory.{table_at, SoundBytes}
use Rattle.screen_calls.specs.Replies.{AcceptsBytes}

-- Sixteen zero bytes are the fresh table, whatever words and text are lent.
module _ (bs txt : List ℕ) where
  pub zero_sound : SoundBytes (replicate state_bytes 0) bs txt
  unfolding header_in word_at
  zero_sound = record { size = refl; sound = fresh_memory_sound (words_in bs) txt }

  pub zero_fresh : state (words_in bs) txt (table_at (replicate state_bytes 0)) ≡ fresh
  unfolding header_in word_at
  zero_fresh = fresh_state (words_in bs) txt

pub bytes_accepted_sound : {st bs txt st' bs' txt' : List ℕ} {c : Call} {σ : State}
    → AcceptsBytes st bs txt st' bs' txt' c σ
    → SoundBytes st' bs' txt'
bytes_accepted_sound a = record { size = a.size; sound = a.table.sound }
