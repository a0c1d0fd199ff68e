-- A link of a memory whose used records are right.
use Prim.Native.Nat.{ℕ, ◌+◌, ◌*◌, ◌≤◌, ◌<◌}
use mathlib.Core.Path.{refl}
use mathlib.Core.List.{List}
use native.Mathlib.Omega.{arith}
use lib.ListN.{length}
use Rattle.source.specs.Types.{Trie}
use Rattle.memory.specs.Layout.{Which, Item, Sort, trieˢ, kind}
use Rattle.memory.specs.Sound.{LinkOk, RecordOk, Used, At, Reads}
use Rattle.memory.proofs.Seen.{link_fits, link_later}

-- Link 0 names none, of any kind.
pub no_link : {ws : List ℕ} (l k : ℕ) → LinkOk ws (l + 1) 0 k
no_link l k = record { earlier = omega arith; of_kind = λ z. absurd (z refl) }

pub at_in : {ws txt : List ℕ} {n used : ℕ} → Used ws txt n used → (w : Which) (so : Sort) {x : ℕ}
    → LinkOk ws (n + 1) x (kind w so) → At ws txt w so x
at_in {n = n} {used} o w so i = record { records = n; used = used; sound = o; link = i }

pub rows_before : {ws txt : List ℕ} {n used : ℕ} → Used ws txt n used → (j : ℕ) → 0 < j → j < n + 1
    → RecordOk ws txt used j
rows_before o j p h = o.rows j p (omega arith)

module _ {ws txt : List ℕ} {w : Which} {so : Sort} {x : ℕ} (t : At ws txt w so x) where
  pub at_fits : x * 12 ≤ length ws
  at_fits = link_fits t.sound t.link

  -- A link of the same table that comes no later.
  pub at_of : (so' : Sort) {l y : ℕ} → l ≤ x + 1 → LinkOk ws l y (kind w so') → At ws txt w so' y
  at_of so' h i = record { records = t.records; used = t.used; sound = t.sound; link = link_later (omega (arith, t.link.earlier)) i }

-- A link that reads as a trie, from one.
pub reads_at : {ws txt : List ℕ} {w : Which} {x r : ℕ} {tr : Trie (Item w)} → At ws txt w trieˢ x
    → Reads ws txt w x r tr → At ws txt w trieˢ r
reads_at t i = at_of t trieˢ (omega arith) i.link
