-- The lent words in the layer's own memory, and what the answers of crate table say of the bytes.
use Prim.Native.Nat.{ℕ}
use mathlib.Core.Path.{◌≡◌, sym, ap}
use mathlib.Core.Bool.{Bool, false}
use mathlib.Core.List.{List}
use lib.ListN.{length}
use Rattle.memory.specs.Sound.{Says}
use Rattle.memory.proofs.Says.{says_iff}
use Rattle.table.specs.Header.{IsSound}
use Rattle.table.specs.declared.Table.{Table}
use Rattle.table.proofs.Says.{says_same}
use Rattle.screen_memory.specs.Memory.{state_bytes, Spells, words_in}
use Rattle.screen_calls.specs.Memory.{table_at, SoundBytes}

-- The state spells the table tab, and m has the lent words.
pub record Held (st bs m : List ℕ) (tab : Table) : Type 0 where
  pub spelt : Spells st tab.header
  pub lent : m ≡ words_in bs

pub held_is : {st bs m : List ℕ} {tab : Table} → length st ≡ state_bytes → tab ≡ table_at st → m ≡ words_in bs
    → Held st bs m tab
held_is e p q = record { spelt = record { size = e; header = ap (λ (x : Table). x.header) (sym p) }; lent = q }

module _ {st bs m : List ℕ} {tab : Table} (txt : List ℕ) (h : Held st bs m tab) where
  sound_there : SoundBytes st bs txt → IsSound m txt tab
  sound_there s = rw (h.lent, ← h.spelt.header) s.sound

  sound_here : IsSound m txt tab → SoundBytes st bs txt
  sound_here s = record { size = h.spelt.size; sound = rw (← h.lent, h.spelt.header) s }

  -- The memory of crate table decides.
  pub says_memory : (b : Bool) → Says b (SoundBytes st bs txt) → Says b (IsSound m txt tab)
  says_memory b i = says_iff b i sound_there sound_here

  pub unsound_memory : (IsSound m txt tab → ⊥) → SoundBytes st bs txt → ⊥
  unsound_memory o s = o (sound_there s)

-- With a state of another length the bytes are no sound table.
pub unsound_short : {st bs txt : List ℕ} → (length st ≡ state_bytes → ⊥) → SoundBytes st bs txt → ⊥
unsound_short e s = e s.size

pub says_unsound : {st bs txt : List ℕ} (b : Bool) → (SoundBytes st bs txt → ⊥) → Says b (SoundBytes st bs txt)
    → b ≡ false
says_unsound b e h = says_same _ b false h e
