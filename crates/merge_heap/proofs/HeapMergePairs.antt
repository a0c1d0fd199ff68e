-- heap_merge_pairs in cells. Its loops end: the siblings of a root are different cells, so that there are at most 96.
use Prim.Native.Nat.{ℕ, zero, suc, ◌+◌, ◌≤◌, ◌<◌, Ordering}
use mathlib.Core.Path.{◌≡◌, refl, ap, ◌∙◌}
use mathlib.Core.Bool.{cond}
use mathlib.Core.List.{List}
use native.Mathlib.Omega.{arith}
use native.Mathlib.Decide.{ℕ_discrete}
use lib.Dec.{eqb}
use lib.ListN.{get_or, set, length-set}
use lib.Seq.{get_or-set_same, get_or-set_other}
use borrow.Author.Tests.{eq-eqb, ne_eqb}
use Rattle.source.specs.Heap.{Heap, Forest, EmptyHeap, HeapOf, []ᶠ, ◌∷ᶠ◌, heap_merge, heap_merge_pairs}
use Rattle.source.specs.Forward.{sum, sumᶠ}
use Rattle.source.proofs.Heap.{sum_merge, sum_pairs}
use Rattle.merge_heap.specs.Cells.{Holds, Holdsᶠ, is, count, Sized, Rep, Repᶠ, Same, Makes, Merges}
use Rattle.merge_heap.proofs.CellCounts.{is_none, root_small, root_counted, holds_keptᶠ, rep_keptᶠ, same_trans}

-- ---- How many siblings there are

-- The cells from i on by siblings, at most f.
unfoldable pub siblings : ℕ → List ℕ → ℕ → ℕ
siblings zero next i = 0
siblings (suc f) next i = cond (eqb i 96) 0 (suc (siblings f next (get_or next i 0)))

-- No cell has none, and a cell has one at least.
pub some_siblings : (next next' : List ℕ) (i : ℕ) → (i ≡ 96 → ⊥) → siblings 96 next' 96 < siblings 96 next i
unfolding siblings
some_siblings next next' i ne = rw (ne_eqb i 96 ne) (omega arith)

-- How many heaps.
unfoldable width : Forest ℕ → ℕ
width []ᶠ = 0
width (h ∷ᶠ hh) = suc (width hh)

-- The sum over the cells below n.
unfoldable total : (ℕ → ℕ) → ℕ → ℕ
total f zero = 0
total f (suc n) = f n + total f n

total_add : (f g : ℕ → ℕ) (n : ℕ) → total (λ j. f j + g j) n ≡ total f n + total g n
unfolding total
total_add f g zero = refl
total_add f g (suc n) = omega (arith, total_add f g n)

total_ones : (f : ℕ → ℕ) (n : ℕ) → ((j : ℕ) → f j ≤ 1) → total f n ≤ n
unfolding total
total_ones f zero a = omega arith
total_ones f (suc n) a = omega (arith, a n, total_ones f n a)

total_one : (f : ℕ → ℕ) (i n : ℕ) → i < n → f i ≤ total f n
unfolding total
total_one f i zero l = omega arith
total_one f i (suc n) l = elim (ℕ_discrete i n) [ yes e ↦ rw e (omega arith) | no m ↦ omega (arith, total_one f i n (omega arith)) ]

module _ (n : ℕ) (child next : List ℕ) (few : n ≤ 96) where
  width_cells : (hh : Forest ℕ) (i : ℕ) → Holdsᶠ n child next i hh → width hh ≤ total (λ j. sumᶠ (is j) hh) n
  unfolding width
  width_cells []ᶠ i s = omega arith
  width_cells (h ∷ᶠ hh) i s =
      omega (
        arith,
        total_add (λ j. count j h) (λ j. sumᶠ (is j) hh) n,
        total_one (λ j. count j h) i n s.0,
        root_counted n child next few i h s.0 s.1,
        width_cells hh (get_or next i 0) s.2,
      )

  siblings_from : (f : ℕ) (hh : Forest ℕ) (i : ℕ) → Holdsᶠ n child next i hh → width hh ≤ f
      → siblings f next i ≡ width hh
  unfolding siblings width
  siblings_from zero []ᶠ i s l = refl
  siblings_from (suc f) []ᶠ i s l = rw (eq-eqb i 96 s)
  siblings_from zero (h ∷ᶠ hh) i s l = absurd (omega arith)
  siblings_from (suc f) (h ∷ᶠ hh) i s l = rw (ne_eqb i 96 (omega arith)) (ap suc (siblings_from f hh (get_or next i 0) s.2 (omega arith)))

  siblings_width : {i : ℕ} (hh : Forest ℕ) → Repᶠ n child next i hh → siblings 96 next i ≡ width hh
  siblings_width {i} hh p =
      siblings_from 96 hh i p.holds (omega (arith, width_cells hh i p.holds, total_ones (λ j. sumᶠ (is j) hh) n p.once))

-- ---- The heaps of a root and of its next siblings
abbrev pub Held : ℕ → List ℕ → List ℕ → ℕ → Type 0
Held n child next i = (hh : Forest ℕ) × Repᶠ n child next i hh

module _ {n : ℕ} {child next : List ℕ} (few : n ≤ 96) {i : ℕ} where
  pub held_small : Held n child next i → i ≤ 96
  held_small p = root_small n child next few i p.0 p.1.holds

  pub held_inside : Held n child next i → (i ≡ 96 → ⊥) → i < n
  held_inside p ne = go p.0 p.1.holds
    where
      go : (hh : Forest ℕ) → Holdsᶠ n child next i hh → i < n
      go []ᶠ s = absurd (ne s)
      go (h ∷ᶠ hh) s = s.0

  first : {h : Heap ℕ} {hh : Forest ℕ} → Repᶠ n child next i (h ∷ᶠ hh) → Rep n child next i h
  first p = record { sized = p.sized; holds = p.holds.1; once = λ j. omega (arith, p.once j) }

  then : {h : Heap ℕ} {hh : Forest ℕ} → Repᶠ n child next i (h ∷ᶠ hh) → Repᶠ n child next (get_or next i 0) hh
  then p = record { sized = p.sized; holds = p.holds.2; once = λ j. omega (arith, p.once j) }

  pub held_next : Held n child next i → (i ≡ 96 → ⊥) → Held n child next (get_or next i 0)
  held_next p ne = go p.0 p.1
    where
      go : (hh : Forest ℕ) → Repᶠ n child next i hh → Held n child next (get_or next i 0)
      go []ᶠ q = absurd (ne q.holds)
      go (h ∷ᶠ hh) q = (hh, then q)

-- The next sibling of the cell m is changed.
module _ {n : ℕ} {child next : List ℕ} (few : n ≤ 96) (m start : ℕ) where
  others : (j : ℕ) → (j ≡ m → ⊥) → Same child next child (set next m start) j
  others j ne = record { first_child = refl; next_sibling = get_or-set_other next m j start 0 ne }

  resized : Sized child next → Sized child (set next m start)
  resized z = record { children = z.children; siblings = simp length-set z.siblings }

  aside : {i : ℕ} (hh : Forest ℕ) → sumᶠ (is m) hh ≡ 0 → Repᶠ n child next i hh → Repᶠ n child (set next m start) i hh
  aside hh z p =
      rep_keptᶠ n child next few child (set next m start) (resized p.sized) (λ j l. others j (λ e. omega (arith, ap (λ (x : ℕ). sumᶠ (is x) hh) e))) p

  -- The heap of root m is put before those of root start.
  put_before : (h : Heap ℕ) (hh : Forest ℕ) → m < n → Rep n child next m h → Repᶠ n child next start hh
      → ((j : ℕ) → count j h + sumᶠ (is j) hh ≤ 1) → Repᶠ n child (set next m start) m (h ∷ᶠ hh)
  put_before EmptyHeap hh l p q a = absurd (omega (arith, p.holds))
  put_before (HeapOf v kk) hh l p q a = record {
    sized = resized p.sized;
    holds = (
      l,
      (
        p.holds.0,
        p.holds.1,
        holds_keptᶠ n child next few child (set next m start) kk (get_or child v 0)
            (λ j k. others j (λ e. is_none j v (omega (arith, p.once j)) (e ∙ p.holds.0))) p.holds.2,
      ),
      rw (get_or-set_same next m start 0 (omega (arith, p.sized.siblings)))
          (aside hh (omega (arith, a m, root_counted n child next few m (HeapOf v kk) l p.holds)) q).holds,
    );
    once = a;
  }

-- ---- The loops

-- Each heap of a forest is merged with what the ones before it have come to, from g on.
unfoldable pub merged_onto : (ℕ → ℕ → Ordering) → Forest ℕ → Heap ℕ → Heap ℕ
merged_onto cmp []ᶠ g = g
merged_onto cmp (h ∷ᶠ hh) g = merged_onto cmp hh (heap_merge cmp h g)

sum_onto : (cmp : ℕ → ℕ → Ordering) (f : ℕ → ℕ) (hh : Forest ℕ) (g : Heap ℕ)
    → sum f (merged_onto cmp hh g) ≡ sumᶠ f hh + sum f g
unfolding merged_onto
sum_onto cmp f []ᶠ g = omega arith
sum_onto cmp f (h ∷ᶠ hh) g = omega (arith, sum_onto cmp f hh (heap_merge cmp h g), sum_merge cmp f h g)

merge_empty : (cmp : ℕ → ℕ → Ordering) (h : Heap ℕ) → heap_merge cmp h EmptyHeap ≡ h
unfolding heap_merge
merge_empty cmp EmptyHeap = refl
merge_empty cmp (HeapOf v hh) = refl

-- What the loops keep of the heap `all` that comes of them: it is g merged with the heaps of the stack.
module _ (cmp : ℕ → ℕ → Ordering) (n : ℕ) (child next : List ℕ) (all : Heap ℕ) where
  pub record Stage (child' next' : List ℕ) (stack : ℕ) (g : Heap ℕ) : Type 0 where
    pub done : Held n child' next' stack
    pub comes : merged_onto cmp done.0 g ≡ all
    pub once : (j : ℕ) → count j all ≤ 1
    pub kept : (j : ℕ) → count j all ≡ 0 → Same child next child' next' j

  -- The first loop: the heaps from `at` on are yet to be paired.
  pub record Pairing (child' next' : List ℕ) (stack at : ℕ) : Type 0 where
    pub rest : Held n child' next' at
    pub stage : Stage child' next' stack (heap_merge_pairs cmp rest.0)

  -- The second loop: r is the root of what is merged.
  pub record Merging (child' next' : List ℕ) (stack r : ℕ) : Type 0 where
    pub merged : Heap ℕ
    pub root : Rep n child' next' r merged
    pub stage : Stage child' next' stack merged

module _ {cmp : ℕ → ℕ → Ordering} {n : ℕ} {child next : List ℕ} {all : Heap ℕ} (few : n ≤ 96) {child' next' : List ℕ}
    {stack : ℕ} where
  parts : {g : Heap ℕ} (s : Stage cmp n child next all child' next' stack g) (j : ℕ)
      → sumᶠ (is j) s.done.0 + count j g ≡ count j all
  parts {g} s j = omega (arith, sum_onto cmp (is j) s.done.0 g, ap (count j) s.comes)

  -- Cells of g are changed.
  moved : {g h : Heap ℕ} {child₁ next₁ : List ℕ} {m : ℕ} → Stage cmp n child next all child' next' stack g
      → Makes n child' next' child₁ next₁ m h → ((j : ℕ) → count j h ≤ count j g)
      → Stage cmp n child next all child₁ next₁ stack g
  moved {child₁ = child₁} {next₁ = next₁} s made within = record {
    done = (
      s.done.0,
      rep_keptᶠ n child' next' few child₁ next₁ made.rep.sized (λ j l. made.kept j (omega (arith, parts s j, s.once j, within j))) s.done.1,
    );
    comes = s.comes;
    once = s.once;
    kept = λ j e. same_trans (s.kept j e) (made.kept j (omega (arith, parts s j, within j)));
  }

  -- The heap of root m goes onto the stack.
  push : {h g : Heap ℕ} {m : ℕ} → m < n → Rep n child' next' m h
      → Stage cmp n child next all child' next' stack (heap_merge cmp h g)
      → Stage cmp n child next all child' (set next' m stack) m g
  unfolding merged_onto
  push {h} {g} {m} l p s = record {
    done = (h ∷ᶠ s.done.0, put_before few m stack h s.done.0 l p s.done.1 (λ j. omega (arith, parts s j, s.once j, sum_merge cmp (is j) h g)));
    comes = s.comes;
    once = s.once;
    kept = λ j e. same_trans (s.kept j e) (others few m stack j (λ x.
        omega (arith, parts s j, sum_merge cmp (is j) h g, root_counted n child' next' few m h l p.holds, ap (λ (y : ℕ). count y h) x)));
  }

-- ---- The turns of the loops
-- None is paired.
pub none_paired : {cmp : ℕ → ℕ → Ordering} {n : ℕ} {child next : List ℕ} {i : ℕ} (hh : Forest ℕ)
    → Repᶠ n child next i hh
    → Pairing cmp n child next (heap_merge_pairs cmp hh) child next 96 i
unfolding merged_onto
none_paired {cmp} hh p = record {
  rest = (hh, p);
  stage = record {
    done = ([]ᶠ, record { sized = p.sized; holds = refl; once = λ j. omega arith });
    comes = refl;
    once = λ j. omega (arith, sum_pairs cmp (is j) hh, p.once j);
    kept = λ j e. record { first_child = refl; next_sibling = refl };
  };
}

module _ {cmp : ℕ → ℕ → Ordering} {n : ℕ} {child next : List ℕ} {all : Heap ℕ} (few : n ≤ 96) {child' next' : List ℕ}
    {stack : ℕ} where
  -- An odd one is the last.
  pub odd_one : {at : ℕ} (hh : Forest ℕ) → Repᶠ n child' next' at hh
      → Stage cmp n child next all child' next' stack (heap_merge_pairs cmp hh)
      → (at ≡ 96 → ⊥) → get_or next' at 0 ≡ 96 → Pairing cmp n child next all child' (set next' at stack) at 96
  unfolding heap_merge_pairs
  odd_one []ᶠ p s ne e = absurd (ne p.holds)
  odd_one {at} (h ∷ᶠ []ᶠ) p s ne e = record {
    rest = ([]ᶠ, record { sized = resized few at stack p.sized; holds = refl; once = λ j. omega arith });
    stage = push few {h = h} {g = EmptyHeap} p.holds.0 (first few p) (rw merge_empty s);
  }
  odd_one (h ∷ᶠ (g ∷ᶠ hh)) p s ne e = absurd (omega (arith, p.holds.2.0))

  -- All are paired.
  pub all_paired : {at : ℕ} → Pairing cmp n child next all child' next' stack at → at ≡ 96
      → Merging cmp n child next all child' next' stack 96
  unfolding heap_merge_pairs
  all_paired {at} w e = go w.rest.0 w.rest.1 w.stage
    where
      go : (hh : Forest ℕ) → Repᶠ n child' next' at hh
          → Stage cmp n child next all child' next' stack (heap_merge_pairs cmp hh)
          → Merging cmp n child next all child' next' stack 96
      go []ᶠ p s = record { merged = EmptyHeap; root = record { sized = p.sized; holds = refl; once = λ j. omega arith }; stage = s }
      go (h ∷ᶠ hh) p s = absurd (omega (arith, p.holds.0))

  -- All are merged.
  pub all_merged : {r : ℕ} → Merging cmp n child next all child' next' stack r → stack ≡ 96
      → Makes n child next child' next' r all
  unfolding merged_onto
  all_merged {r} w e = record { rep = go w.stage.done.0 w.stage.done.1.holds w.stage.comes; kept = w.stage.kept }
    where
      go : (hh : Forest ℕ) → Holdsᶠ n child' next' stack hh → merged_onto cmp hh w.merged ≡ all
          → Rep n child' next' r all
      go []ᶠ p x = rw x at w.root
      go (h ∷ᶠ hh) p x = absurd (omega (arith, p.0))

  module _ {child₁ next₁ : List ℕ} {m : ℕ} where
    -- Two are merged, and what comes of them goes onto the stack.
    pub pair_up : {at : ℕ} (hh : Forest ℕ) → Repᶠ n child' next' at hh
        → Stage cmp n child next all child' next' stack (heap_merge_pairs cmp hh)
        → (at ≡ 96 → ⊥) → (get_or next' at 0 ≡ 96 → ⊥) → Merges cmp n child' next' child₁ next₁ m at (get_or next' at 0)
        → (m < n) × Pairing cmp n child next all child₁ (set next₁ m stack) m (get_or next' (get_or next' at 0) 0)
        × (siblings 96 (set next₁ m stack) (get_or next' (get_or next' at 0) 0) < siblings 96 next' at)
    unfolding heap_merge_pairs width
    pair_up []ᶠ p s ne nk merges = absurd (ne p.holds)
    pair_up (h ∷ᶠ []ᶠ) p s ne nk merges = absurd (nk p.holds.2)
    pair_up {at} (h ∷ᶠ (g ∷ᶠ hh)) p s ne nk merges = (
      root_in_m,
      record {
        rest = (hh, rest);
        stage = push few root_in_m made.rep (moved few s made (λ j. omega (arith, sum_merge cmp (is j) (heap_merge cmp h g) (heap_merge_pairs cmp hh))));
      },
      omega (arith, siblings_width n child₁ (set next₁ m stack) few hh rest, siblings_width n child' next' few (h ∷ᶠ (g ∷ᶠ hh)) p),
    )
      where
        made : Makes n child' next' child₁ next₁ m (heap_merge cmp h g)
        made = merges h g (first few p) (first few (then few p)) (λ j. omega (arith, p.once j))

        root_in_m : m < n
        root_in_m = filled (heap_merge cmp h g) made.rep.holds at
            (omega (arith, sum_merge cmp (is at) h g, root_counted n child' next' few at h p.holds.0 p.holds.1))
          where
            filled : (h : Heap ℕ) → Holds n child₁ next₁ m h → (j : ℕ) → 0 < count j h → m < n
            filled EmptyHeap s j l = absurd (omega arith)
            filled (HeapOf v hh) s j l = omega arith

        rest : Repᶠ n child₁ (set next₁ m stack) (get_or next' (get_or next' at 0) 0) hh
        rest =
            aside few m stack hh
            (omega (arith, p.once m, sum_merge cmp (is m) h g, root_counted n child₁ next₁ few m (heap_merge cmp h g) root_in_m made.rep.holds))
            (rep_keptᶠ n child' next' few child₁ next₁ made.rep.sized (λ j l. made.kept j (omega (arith, p.once j, sum_merge cmp (is j) h g)))
            (then few (then few p)))

    -- The heap of the stack's root is merged with what is merged.
    pub merge_on : {r : ℕ} → Merging cmp n child next all child' next' stack r → (stack ≡ 96 → ⊥)
        → Merges cmp n child' next' child₁ next₁ m stack r
        → Merging cmp n child next all child₁ next₁ (get_or next' stack 0) m
        × (siblings 96 next₁ (get_or next' stack 0) < siblings 96 next' stack)
    unfolding merged_onto width moved
    merge_on w ne merges = let s = w.stage in go s.done.0 s.done.1 s.comes (parts few s)
      where
        go : (hh : Forest ℕ) → Repᶠ n child' next' stack hh → merged_onto cmp hh w.merged ≡ all
            → ((j : ℕ) → sumᶠ (is j) hh + count j w.merged ≡ count j all)
            → Merging cmp n child next all child₁ next₁ (get_or next' stack 0) m
            × (siblings 96 next₁ (get_or next' stack 0) < siblings 96 next' stack)
        go []ᶠ p e a = absurd (ne p.holds)
        go (h ∷ᶠ hh) p e a =
            let made = merges h w.merged (first few p) w.root (λ j. omega (arith, a j, w.stage.once j)) in
            let on = moved few {stack = get_or next' stack 0} (record { done = (hh, then few p); comes = e; once = w.stage.once; kept = w.stage.kept }) made
            (λ j. omega arith) in (
              record { merged = heap_merge cmp h w.merged; root = made.rep; stage = on },
              omega (arith, siblings_width n child₁ next₁ few hh on.done.1, siblings_width n child' next' few (h ∷ᶠ hh) p),
            )
