-- A cell that is given a head: each beginning is still that of its cell's key.
use Prim.Native.Nat.{ℕ, ◌<◌}
use mathlib.Core.Path.{◌≡◌, refl}
use mathlib.Core.List.{List}
use native.Mathlib.Decide.{ℕ_discrete}
use lib.ListN.{length, set}
use lib.Seq.{get_or-set_same, get_or-set_other}
use Rattle.text.specs.Text.{beginning}
use Rattle.memory.specs.Layout.{key_at}
use Rattle.merge_heads.specs.Compare.{Begun, with_beginning}
use Rattle.merge_heads.specs.declared.Cell.{Cell}

-- A cell without a list.
abbrev pub empty : Cell
empty = record { root = 0; label = 0; head = 0; beginning = 0 }

pub head_begun : (ws txt heads beginnings : List ℕ) (c x : ℕ) → c < length heads → c < length beginnings → (j : ℕ)
    → ((j ≡ c → ⊥) → Begun ws txt heads beginnings j)
    → Begun ws txt (set heads c x) (with_beginning ws txt beginnings c x) j
head_begun ws txt heads beginnings c x h k j f =
    let b = beginning (key_at ws txt x) in
    elim (ℕ_discrete j c) [
      | yes q ↦ rw (q, get_or-set_same heads c x 0 h, get_or-set_same beginnings c b 0 k) refl
      | no n ↦ rw (get_or-set_other heads c j x 0 n, get_or-set_other beginnings c j b 0 n) (f n)
    ]
