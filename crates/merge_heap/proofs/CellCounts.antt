-- Heaps in cells: how often a cell is in a heap, and what a change of other cells leaves.
use Prim.Native.Nat.{ℕ, ◌≤◌, ◌<◌}
use mathlib.Core.Path.{◌≡◌, refl, sym, ap, ◌∙◌, subst}
use mathlib.Core.List.{List}
use native.Mathlib.Decide.{ℕ_discrete}
use native.Mathlib.Omega.{arith}
use lib.ListN.{get_or}
use borrow.Author.Tests.{eq-eqb, ne_eqb}
use Rattle.source.specs.Heap.{Heap, Forest, EmptyHeap, HeapOf, []ᶠ, ◌∷ᶠ◌}
use Rattle.source.specs.Forward.{sumᶠ}
use Rattle.source.proofs.Heap.{All, Allᶠ, sum_counted}
use Rattle.merge_heap.specs.Cells.{Holds, Holdsᶠ, is, count, Sized, Rep, Repᶠ, Apart, Same, Makes}

pub is_self : (v : ℕ) → is v v ≡ 1
unfolding is
is_self v = rw (eq-eqb v v refl)

pub is_other : (j v : ℕ) → (j ≡ v → ⊥) → is j v ≡ 0
unfolding is
is_other j v n = rw (ne_eqb j v n)

pub is_none : (j v : ℕ) → is j v ≡ 0 → j ≡ v → ⊥
is_none j v z e = omega (arith, is_self v, ap (λ (k : ℕ). is k v) e)

-- Two cells in heaps that have no cell in common are not the same.
pub not_both : (v w : ℕ) (hh gg : Forest ℕ) → Apart (HeapOf v hh) (HeapOf w gg) → v ≡ w → ⊥
not_both v w hh gg a e = omega (arith, a v, is_self v, is_self w, ap (λ (x : ℕ). is x w) e)

pub same_trans : {child next child₁ next₁ child₂ next₂ : List ℕ} {j : ℕ}
    → Same child next child₁ next₁ j → Same child₁ next₁ child₂ next₂ j → Same child next child₂ next₂ j
same_trans p q = record { first_child = q.first_child ∙ p.first_child; next_sibling = q.next_sibling ∙ p.next_sibling }

module _ (n : ℕ) (child next : List ℕ) (few : n ≤ 96) where
  pub root_in : {i : ℕ} {h : Heap ℕ} → Rep n child next i h → (i ≡ 96 → ⊥) → i < n
  root_in {i} {h} p ne = go h p.holds
    where
      go : (h : Heap ℕ) → Holds n child next i h → i < n
      go EmptyHeap s = absurd (ne s)
      go (HeapOf v hh) s = omega arith

  pub root_small : (i : ℕ) (hh : Forest ℕ) → Holdsᶠ n child next i hh → i ≤ 96
  root_small i []ᶠ s = omega arith
  root_small i (h ∷ᶠ hh) s = omega arith

  -- A root is in its heap.
  pub root_counted : (i : ℕ) (h : Heap ℕ) → i < n → Holds n child next i h → 0 < count i h
  root_counted i EmptyHeap l s = omega arith
  root_counted i (HeapOf v hh) l s = omega (arith, is_self v, ap (λ (k : ℕ). is k v) s.0)

  -- What holds of every heap whose root is the cell i.
  pub by_root : (P : Heap ℕ → Type 0) (i : ℕ) → i < n
      → ((hh : Forest ℕ) → Rep n child next i (HeapOf i hh) → P (HeapOf i hh)) → (h : Heap ℕ) → Rep n child next i h
      → P h
  by_root P i l f EmptyHeap r = absurd (omega (arith, r.holds))
  by_root P i l f (HeapOf v hh) r = subst (λ (x : ℕ). Rep n child next i (HeapOf x hh) → P (HeapOf x hh)) r.holds.0 (f hh) r

  module _ (child' next' : List ℕ) where
    mutual
      -- Where the heap's cells are as they were, so is the heap.
      pub holds_kept : (h : Heap ℕ) (i : ℕ) → ((j : ℕ) → 0 < count j h → Same child next child' next' j)
          → Holds n child next i h → Holds n child' next' i h
      holds_kept EmptyHeap i f s = s
      holds_kept (HeapOf v hh) i f s = (
        s.0,
        s.1,
        subst (λ (k : ℕ). Holdsᶠ n child' next' k hh) (sym (f v (omega (arith, is_self v))).first_child)
            (holds_keptᶠ hh (get_or child v 0) (λ j l. f j (omega arith)) s.2),
      )

      pub holds_keptᶠ : (hh : Forest ℕ) (i : ℕ) → ((j : ℕ) → 0 < sumᶠ (is j) hh → Same child next child' next' j)
          → Holdsᶠ n child next i hh → Holdsᶠ n child' next' i hh
      holds_keptᶠ []ᶠ i f s = s
      holds_keptᶠ (h ∷ᶠ hh) i f s = (
        s.0,
        holds_kept h i (λ j l. f j (omega arith)) s.1,
        subst (λ (k : ℕ). Holdsᶠ n child' next' k hh) (sym (f i (omega (arith, root_counted i h s.0 s.1))).next_sibling)
            (holds_keptᶠ hh (get_or next i 0) (λ j l. f j (omega arith)) s.2),
      )

    pub rep_kept : {i : ℕ} {h : Heap ℕ} → Sized child' next'
        → ((j : ℕ) → 0 < count j h → Same child next child' next' j)
        → Rep n child next i h → Rep n child' next' i h
    rep_kept {i} {h} z f r = record { sized = z; holds = holds_kept h i f r.holds; once = r.once }

    pub rep_keptᶠ : {i : ℕ} {hh : Forest ℕ} → Sized child' next'
        → ((j : ℕ) → 0 < sumᶠ (is j) hh → Same child next child' next' j)
        → Repᶠ n child next i hh → Repᶠ n child' next' i hh
    rep_keptᶠ {i} {hh} z f r = record { sized = z; holds = holds_keptᶠ hh i f r.holds; once = r.once }

  -- Nothing was changed.
  pub makes_unchanged : {i : ℕ} {h : Heap ℕ} → Rep n child next i h → Makes n child next child next i h
  makes_unchanged r = record { rep = r; kept = λ j e. record { first_child = refl; next_sibling = refl } }

  mutual
    -- A heap's cells are below n.
    holds_below : (h : Heap ℕ) (i : ℕ) → Holds n child next i h → All (λ v. v < n) h
    holds_below EmptyHeap i s = tt
    holds_below (HeapOf v hh) i s = (s.1, holds_belowᶠ hh (get_or child v 0) s.2)

    holds_belowᶠ : (hh : Forest ℕ) (i : ℕ) → Holdsᶠ n child next i hh → Allᶠ (λ v. v < n) hh
    holds_belowᶠ []ᶠ i s = tt
    holds_belowᶠ (h ∷ᶠ hh) i s = (holds_below h i s.1, holds_belowᶠ hh (get_or next i 0) s.2)

  pub rep_below : {i : ℕ} {h : Heap ℕ} → Rep n child next i h → All (λ v. v < n) h
  rep_below {i} {h} r = holds_below h i r.holds

mutual
  -- What holds of the cells that are sum-counted holds of all.
  pub all_counted : (P : ℕ → Type 0) (h : Heap ℕ) → ((j : ℕ) → 0 < count j h → P j) → All P h
  all_counted P EmptyHeap f = tt
  all_counted P (HeapOf v hh) f = (f v (omega (arith, is_self v)), all_countedᶠ P hh (λ j l. f j (omega arith)))

  pub all_countedᶠ : (P : ℕ → Type 0) (hh : Forest ℕ) → ((j : ℕ) → 0 < sumᶠ (is j) hh → P j) → Allᶠ P hh
  all_countedᶠ P []ᶠ f = tt
  all_countedᶠ P (h ∷ᶠ hh) f = (all_counted P h (λ j l. f j (omega arith)), all_countedᶠ P hh (λ j l. f j (omega arith)))

is_cell : (j v : ℕ) → 0 < is j v → j ≡ v
is_cell j v l = elim (ℕ_discrete j v) [ yes e ↦ e | no n ↦ absurd (omega (arith, is_other j v n)) ]

-- What holds of all holds of a cell that is sum-counted.
pub counted_all : (P : ℕ → Type 0) (j : ℕ) (h : Heap ℕ) → All P h → 0 < count j h → P j
counted_all P j h p l = let k = sum_counted P (is j) h l p in subst P (sym (is_cell j k.0 k.1)) k.2
