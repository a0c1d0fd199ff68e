-- A table in memory: its roots are tries, it gives source's SoundTable, it stays where the memory grows, and the fresh one.
use Prim.Native.Nat.{ℕ, ◌+◌, ◌≤◌}
use mathlib.Core.Path.{◌≡◌, refl}
use mathlib.Core.List.{List}
use native.Mathlib.Omega.{arith}
use Rattle.source.specs.Types.{trie_empty}
use Rattle.source.specs.Table.{empty}
use Rattle.source.specs.Calls.{fresh}
use Rattle.source.specs.Rules.{SoundTrie, SoundTable}
use Rattle.memory.specs.Layout.{Which, names, modules, trieˢ, kind, what}
use Rattle.memory.specs.Sound.{LinkOk, Used, At}
use Rattle.memory.specs.Grown.{Stays, Keeps}
use Rattle.memory.proofs.What.{what_none}
use Rattle.memory.proofs.Stays.{what_stays}
use Rattle.memory.proofs.Keeps.{what_keeps}
use Rattle.memory.proofs.Fine.{IsItem, link_fine, link_shallow}
use Rattle.memory_table.specs.Table.{root_at, Sound, table_of, state_of}
use Rattle.memory_table.specs.declared.Header.{Header}

-- ---- The roots

module _ {ws txt : List ℕ} {h : Header} (o : Sound ws txt h) where
  pub names_trie : At ws txt names trieˢ h.names
  names_trie = record { records = h.records; used = h.text; sound = o.right; link = o.names_link }

  pub modules_trie : At ws txt modules trieˢ h.modules
  modules_trie = record { records = h.records; used = h.text; sound = o.right; link = o.modules_link }

  pub either_trie : (w : Which) → At ws txt w trieˢ (root_at w h)
  either_trie names = names_trie
  either_trie modules = modules_trie

trie_sound : {ws txt : List ℕ} {n used : ℕ} → Used ws txt n used → (w : Which) {x : ℕ}
    → LinkOk ws (n + 1) x (kind w trieˢ) → SoundTrie (IsItem w) (what w ws txt x trieˢ)
trie_sound o w i = let f = link_fine o w trieˢ (omega arith) i in record { formed = f.0; light = f.1; shallow = link_shallow o w (omega arith) i }

-- The table of the two roots.
pub sound_table : {ws txt : List ℕ} {h : Header} → Sound ws txt h → SoundTable (table_of ws txt h)
sound_table o = record { lids = trie_sound o.right names o.names_link; mods = trie_sound o.right modules o.modules_link }

-- ---- What stays

-- A table of which only free text changes.
module _ {ws txt txt' : List ℕ} {h : Header} (o : Sound ws txt h) (y : Keeps h.text txt txt') where
  pub table_keeps : table_of ws txt' h ≡ table_of ws txt h
  table_keeps = rw (what_keeps o.right y names trieˢ (omega arith) o.names_link, what_keeps o.right y modules trieˢ (omega arith) o.modules_link)

-- A table of which only later records change.
pub table_stays : {n : ℕ} {ws ws' : List ℕ} → Stays n ws ws' → (txt : List ℕ) (h : Header) → h.names ≤ n
    → h.modules ≤ n → table_of ws' txt h ≡ table_of ws txt h
table_stays y txt h k m = rw (what_stays y names txt h.names k, what_stays y modules txt h.modules m)

-- ---- The fresh table

-- Its header.
abbrev fresh_header : Header
fresh_header = record { names = 0; modules = 0; records = 0; text = 0 }

pub fresh_memory_sound : (ws txt : List ℕ) → Sound ws txt fresh_header
fresh_memory_sound ws txt = record {
  right = record { few = omega arith; short = omega arith; records_fit = omega arith; text_fits = omega arith; rows = λ l p h. absurd (omega arith) };
  names_link = record { earlier = omega arith; of_kind = λ z. absurd (z refl) };
  modules_link = record { earlier = omega arith; of_kind = λ z. absurd (z refl) };
}

pub fresh_state : (ws txt : List ℕ) → state_of ws txt fresh_header ≡ fresh
unfolding fresh empty trie_empty
fresh_state ws txt = rw (what_none names ws txt, what_none modules ws txt)
