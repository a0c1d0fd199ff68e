-- heap_merge and heap_insert in cells.
use Prim.Native.Nat.{ℕ, ◌+◌, ◌≤◌, ◌<◌, Ordering}
use mathlib.Core.Path.{◌≡◌, refl, sym, ap}
use mathlib.Core.Bool.{true, false}
use mathlib.Core.List.{List}
use native.Mathlib.Omega.{arith}
use native.Mathlib.Decide.{ℕ_discrete}
use lib.ListN.{get_or, set, length-set}
use lib.Seq.{get_or-set_same, get_or-set_other}
use Rattle.source.specs.Heap.{Heap, Forest, EmptyHeap, HeapOf, []ᶠ, ◌∷ᶠ◌, is_lt, heap_merge, heap_insert}
use Rattle.source.proofs.Heap.{sum_merge}
use Rattle.merge_heap.specs.Cells.{Holdsᶠ, is, count, Sized, Rep, Apart, Same, Makes, Merges, Inserts}
use Rattle.merge_heap.proofs.CellCounts.{is_self, is_other, is_none, not_both, same_trans, root_in, by_root, holds_keptᶠ, rep_kept, makes_unchanged}

module _ (n : ℕ) (child next : List ℕ) (few : n ≤ 96) where
  -- What link does to the cells v and w.
  module _ (v w : ℕ) where
    abbrev child' : List ℕ
    child' = set child v w

    abbrev next' : List ℕ
    next' = set next w (get_or child v 0)

    others : (j : ℕ) → (j ≡ v → ⊥) → (j ≡ w → ⊥) → Same child next child' next' j
    others j p q = record { first_child = get_or-set_other child v j w 0 p; next_sibling = get_or-set_other next w j (get_or child v 0) 0 q }

    link_makes : (hh gg : Forest ℕ) → Rep n child next v (HeapOf v hh) → Rep n child next w (HeapOf w gg)
        → Apart (HeapOf v hh) (HeapOf w gg)
        → Makes n child next child' next' v (HeapOf v (HeapOf w gg ∷ᶠ hh))
    link_makes hh gg p q a = record {
      rep = record {
        sized = record { children = simp length-set p.sized.children; siblings = simp length-set p.sized.siblings };
        holds = (
          refl,
          p.holds.1,
          rw (get_or-set_same child v w 0 (omega (arith, p.sized.children))) (
            q.holds.1,
            (refl, q.holds.1, rw (get_or-set_other child v w w 0 (λ e. not_both v w hh gg a (sym e))) gg_held),
            rw (get_or-set_same next w (get_or child v 0) 0 (omega (arith, p.sized.siblings))) hh_held,
          ),
        );
        once = λ j. omega (arith, a j);
      };
      kept = λ j e. others j (is_none j v (omega arith)) (is_none j w (omega arith));
    }
      where
        hh_held : Holdsᶠ n child' next' (get_or child v 0) hh
        hh_held =
            holds_keptᶠ n child next few child' next' hh (get_or child v 0)
            (λ j l. others j (is_none j v (omega (arith, a j))) (is_none j w (omega (arith, a j)))) p.holds.2

        gg_held : Holdsᶠ n child' next' (get_or child w 0) gg
        gg_held =
            holds_keptᶠ n child next few child' next' gg (get_or child w 0)
            (λ j l. others j (is_none j v (omega (arith, a j))) (is_none j w (omega (arith, a j)))) q.holds.2

  module _ (cmp : ℕ → ℕ → Ordering) (a b : ℕ) (child' next' : List ℕ) (r : ℕ) where
    by_roots : (a ≡ 96 → ⊥) → (b ≡ 96 → ⊥)
        → ((hh gg : Forest ℕ) → Rep n child next a (HeapOf a hh) → Rep n child next b (HeapOf b gg)
        → Apart (HeapOf a hh) (HeapOf b gg)
        → Makes n child next child' next' r (heap_merge cmp (HeapOf a hh) (HeapOf b gg)))
        → Merges cmp n child next child' next' r a b
    by_roots na nb f h g p q =
        let la = root_in n child next few p na in
        let lb = root_in n child next few q nb in
        by_root n child next few (λ (h : Heap ℕ). Apart h g → Makes n child next child' next' r (heap_merge cmp h g)) a la
        (λ hh p. by_root n child next few (λ (g : Heap ℕ). Apart (HeapOf a hh) g → Makes n child next child' next' r (heap_merge cmp (HeapOf a hh) g)) b lb
        (λ gg q. f hh gg p q) g q) h p

    pub merge_first : (a ≡ 96 → ⊥) → (b ≡ 96 → ⊥) → is_lt (cmp a b) ≡ true
        → (r ≡ a) × (child' ≡ set child a b) × (next' ≡ set next b (get_or child a 0))
        → Merges cmp n child next child' next' r a b
    unfolding heap_merge
    merge_first na nb t e = by_roots na nb λ hh gg p q s. rw (t, e.0, e.1, e.2) (link_makes a b hh gg p q s)

    pub merge_second : (a ≡ 96 → ⊥) → (b ≡ 96 → ⊥) → is_lt (cmp a b) ≡ false
        → (r ≡ b) × (child' ≡ set child b a) × (next' ≡ set next a (get_or child b 0))
        → Merges cmp n child next child' next' r a b
    unfolding heap_merge
    merge_second na nb t e = by_roots na nb λ hh gg p q s. rw (t, e.0, e.1, e.2) (link_makes b a gg hh q p (λ j. omega (arith, s j)))

  -- One of the two is empty.
  pub merge_none : (cmp : ℕ → ℕ → Ordering) (a b : ℕ) → a ≡ 96 → Merges cmp n child next child next b a b
  unfolding heap_merge
  merge_none cmp a b e EmptyHeap g p q s = makes_unchanged n child next few q
  merge_none cmp a b e (HeapOf v hh) g p q s = absurd (omega (arith, p.holds.0, p.holds.1))

  pub merge_only : (cmp : ℕ → ℕ → Ordering) (a b : ℕ) → b ≡ 96 → Merges cmp n child next child next a a b
  unfolding heap_merge
  merge_only cmp a b e EmptyHeap EmptyHeap p q s = makes_unchanged n child next few p
  merge_only cmp a b e (HeapOf v hh) EmptyHeap p q s = makes_unchanged n child next few p
  merge_only cmp a b e h (HeapOf w gg) p q s = absurd (omega (arith, q.holds.0, q.holds.1))

  -- heap_merge after the children of v were cut off.
  pub insert_makes : (cmp : ℕ → ℕ → Ordering) (v i : ℕ) (child' next' : List ℕ) (r : ℕ) → v < n
      → Merges cmp n (set child v 96) next child' next' r v i → Inserts cmp n child next child' next' r i v
  unfolding heap_insert
  insert_makes cmp v i child' next' r l merged h p z = record {
    rep = made.rep;
    kept = λ j e. let k : is j v ≡ 0 = omega (arith, sum_merge cmp (is j) (HeapOf v []ᶠ) h) in same_trans (cut j (is_none j v k)) (made.kept j e);
  }
    where
      cut_sized : Sized (set child v 96) next
      cut_sized = record { children = simp length-set p.sized.children; siblings = p.sized.siblings }

      cut : (j : ℕ) → (j ≡ v → ⊥) → Same child next (set child v 96) next j
      cut j m = record { first_child = get_or-set_other child v j 96 0 m; next_sibling = refl }

      apart : (j : ℕ) → is j v + 0 + count j h ≤ 1
      apart j = elim (ℕ_discrete j v) [ yes e ↦ rw e (omega (arith, is_self v)) | no m ↦ omega (arith, is_other j v m, p.once j) ]

      made : Makes n (set child v 96) next child' next' r (heap_merge cmp (HeapOf v []ᶠ) h)
      made =
          merged (HeapOf v []ᶠ) h
          (record { sized = cut_sized; holds = (refl, l, get_or-set_same child v 96 0 (omega (arith, p.sized.children))); once = λ j. omega (arith, apart j) })
          (rep_kept n child next few (set child v 96) next cut_sized (λ j k. cut j (λ e. omega (arith, z, ap (λ (x : ℕ). count x h) e))) p)
          apart
