-- What a link reads as, one record at a time.
use Prim.Native.Nat.{ℕ, zero, suc, ◌≤◌, ◌<◌}
use mathlib.Core.Path.{◌≡◌, refl}
use mathlib.Core.List.{List}
use mathlib.Core.Logic.{⊎_elim}
use native.Mathlib.Omega.{arith}
use native.Mathlib.Nat.{eq-or-lt_of_le}
use borrow.Author.Tests.{eq-eqb, ne_eqb}
use Rattle.source.specs.Types.{bind, ns}
use Rattle.memory.specs.Layout.{record_at, word, Which, Sort, tree, list, trieˢ, nothing, row, among, what}

-- A link that a reading as s follows is earlier than l.
abbrev pub HeldEarlier : Sort → ℕ → ℕ → Type 0
HeldEarlier (tree bind) x l = Unit {0}
HeldEarlier (tree ns) x l = x < l
HeldEarlier (list ℓ) x l = Unit {0}
HeldEarlier trieˢ x l = Unit {0}

pub record Earlier (so : Sort) (r : List ℕ) (l : ℕ) : Type 0 where
  pub first : word r 3 < l
  pub second : word r 4 < l
  pub held : HeldEarlier so (word r 5) l

module _ (w : Which) (ws txt : List ℕ) where
  pub among_own : (n l : ℕ) → l ≤ n → among w ws txt n l ≡ what w ws txt l
  unfolding what among
  among_own zero zero h = refl
  among_own zero (suc l) h = absurd (omega arith)
  among_own (suc n) l h = ⊎_elim (λ e. rw e) (λ k. rw (ne_eqb l (suc n) (λ e. omega arith)) (among_own n l (omega arith))) (eq-or-lt_of_le h)

  pub what_none : what w ws txt 0 ≡ nothing w
  unfolding what among
  what_none = refl

  what_among : (n : ℕ) → what w ws txt (suc n) ≡ row w txt (record_at ws (suc n)) (among w ws txt n)
  unfolding what among
  what_among n = rw (eq-eqb (suc n) (suc n) refl)

  row_own : (n : ℕ) (r : List ℕ) (so : Sort) → Earlier so r (suc n)
      → row w txt r (among w ws txt n) so ≡ row w txt r (what w ws txt) so
  row_own n r (tree bind) e = rw (among_own n (word r 3) (omega arith), among_own n (word r 4) (omega arith))
  row_own n r (tree ns) e = rw (among_own n (word r 3) (omega arith), among_own n (word r 4) (omega arith), among_own n (word r 5) (omega (arith, e.held)))
  row_own n r (list ℓ) e = rw (among_own n (word r 3) (omega arith), among_own n (word r 4) (omega arith))
  row_own n r trieˢ e = rw (among_own n (word r 3) (omega arith), among_own n (word r 4) (omega arith))

  -- The record of a link, where its own links are earlier.
  pub what_row : (so : Sort) (l : ℕ) → 0 < l → Earlier so (record_at ws l) l
      → what w ws txt l so ≡ row w txt (record_at ws l) (what w ws txt) so
  what_row so zero p e = absurd (omega arith)
  what_row so (suc n) p e = rw (what_among n) (row_own n (record_at ws (suc n)) so e)
