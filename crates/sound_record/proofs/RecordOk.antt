-- A record that is tested by its sort is right.
use Prim.Native.Nat.{ℕ, ◌+◌}
use mathlib.Core.Path.{◌≡◌, sym, ap, ◌∙◌, subst}
use mathlib.Core.Bool.{Bool}
use mathlib.Core.List.{List}
use mathlib.Core.Logic.{◌⊎◌, inl, inr, ⊎_elim}
use native.Mathlib.Omega.{arith}
use lib.ListN.{length}
use Rattle.source.specs.Types.{bind, ns}
use Rattle.memory.specs.Layout.{record_at, Which, names, modules, Item, Sort, tree, list, trieˢ, Of, kind, kind_in, row, what, kind_word}
use Rattle.memory.specs.Sound.{Says, RecordAs, RecordOk}
use Rattle.memory.proofs.Says.{says_iff}
use Rattle.memory.proofs.What.{what_row}
use Rattle.memory.proofs.RecordOk.{as_earlier, record_as}
use Rattle.memory.proofs.RecordAt.{record_length}
use Rattle.sound_field.specs.Fields.{Before}

-- The table of a kind that is a sort's, and the kinds kind-beside it.
pub known_as : (so : Sort) {k : ℕ} → (k ≡ kind names so) ⊎ (k ≡ kind modules so) → (w : Which) × (k ≡ kind w so)
known_as so e = ⊎_elim (λ x. (names, x)) (λ x. (modules, x)) e

pub kind_beside : (w : Which) (so so₂ : Sort) {k m : ℕ} → k ≡ kind w so → k + kind_in so₂ ≡ m + kind_in so
    → m ≡ kind w so₂
kind_beside names so so₂ e f = omega arith
kind_beside modules so so₂ e f = omega arith

-- A number that is no kind.
pub kind_none : {k : ℕ} (w : Which) (so : Sort) → k ≡ kind w so → (k ≡ 1 → ⊥) → (k ≡ 6 → ⊥)
    → ((k ≡ 2) ⊎ (k ≡ 7) → ⊥) → ((k ≡ 3) ⊎ (k ≡ 8) → ⊥) → ((k ≡ 4) ⊎ (k ≡ 9) → ⊥) → ((k ≡ 5) ⊎ (k ≡ 10) → ⊥) → ⊥
kind_none names (tree bind) e a b c d f g = a e
kind_none names (tree ns) e a b c d f g = c (inl e)
kind_none names (list bind) e a b c d f g = d (inl e)
kind_none names (list ns) e a b c d f g = f (inl e)
kind_none names trieˢ e a b c d f g = g (inl e)
kind_none modules (tree bind) e a b c d f g = b e
kind_none modules (tree ns) e a b c d f g = c (inr e)
kind_none modules (list bind) e a b c d f g = d (inr e)
kind_none modules (list ns) e a b c d f g = f (inr e)
kind_none modules trieˢ e a b c d f g = g (inr e)

-- The record r of link l, tested as what its words say, is tested as what the link reads as.
module _ {ws txt : List ℕ} {used l : ℕ} (before : Before ws txt used l) {r : List ℕ} (at : r ≡ record_at ws l)
    (w : Which) (so : Sort) (known : kind_word r ≡ kind w so) where
  abbrev Right : Of (Item w) so → Type 0
  Right v = RecordAs ws txt used l w so (record_at ws l) v

  same : (v : Of (Item w) so) → Right v → what w ws txt l so ≡ row w txt (record_at ws l) (what w ws txt) so
  same v a = what_row w ws txt so l before.some (as_earlier ws txt used l w so (record_at ws l) v a)

  pub right_as : RecordOk ws txt used l → RecordAs ws txt used l w so r (row w txt r (what w ws txt) so)
  right_as o =
      let a : Right (what w ws txt l so) = record_as o w so (rw at at known) in
      rw at (subst Right (same (what w ws txt l so) a) a)

  pub says_record : (b : Bool) → Says b (RecordAs ws txt used l w so r (row w txt r (what w ws txt) so))
      → Says b (RecordOk ws txt used l)
  says_record b h =
      says_iff b h
      (λ a. let c : Right (row w txt (record_at ws l) (what w ws txt) so) = rw at at a in
      record { which = w; sort = so; known = rw at at known; right = subst Right (sym (same (row w txt (record_at ws l) (what w ws txt) so) c)) c })
      right_as

pub before_length : {ws txt : List ℕ} {used l : ℕ} {r : List ℕ} → Before ws txt used l → r ≡ record_at ws l
    → length r ≡ 12
before_length {ws} {l = l} b e = ap length e ∙ record_length ws l b.some b.fits
