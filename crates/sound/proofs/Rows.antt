-- The records before a link, as a pass goes over them.
use Prim.Native.Nat.{ℕ, ◌+◌, ◌-◌, ◌*◌, ◌≤◌, ◌<◌}
use mathlib.Core.Path.{◌≡◌}
use mathlib.Core.List.{List}
use mathlib.Core.Logic.{⊎_elim}
use native.Mathlib.Omega.{arith}
use native.Mathlib.Nat.{eq-or-lt_of_le}
use lib.ListN.{take, drop}
use Rattle.memory.specs.Layout.{record_at}
use Rattle.memory.specs.Sound.{RecordOk}

-- The words of a record, as a part of the words.
pub part_record : (ws : List ℕ) (l : ℕ)
    → take ((l - 1) * 12 + 12 - (l - 1) * 12) (drop ((l - 1) * 12) ws) ≡ record_at ws l
unfolding record_at
part_record ws l = let e : (l - 1) * 12 + 12 - (l - 1) * 12 ≡ 12 = omega arith in rw e

-- The records before l are right.
pub record Rows (ws txt : List ℕ) (used l : ℕ) : Type 0 where
  pub right : (j : ℕ) → 0 < j → j < l → RecordOk ws txt used j

pub rows_more : {ws txt : List ℕ} {used l : ℕ} → Rows ws txt used l → RecordOk ws txt used l → Rows ws txt used (l + 1)
rows_more {l = l} u o = record { right = λ j p h. ⊎_elim (λ e. rw e o) (λ k. u.right j p k) (eq-or-lt_of_le (let g : j ≤ l = omega arith in g)) }
