-- What the heap's operations keep: sums over the elements, a property of all, the heap order.
use Prim.Native.Nat.{ℕ, zero, suc, ◌+◌, ◌<◌, Ordering}
use mathlib.Core.Path.{◌≡◌, refl, sym, ap, subst}
use mathlib.Core.Bool.{Bool, true, false, cond}
use mathlib.Core.List.{List, [], ◌∷◌, ◌++◌}
use mathlib.Core.Option.{some, none-ne-some, some-injective}
use native.Mathlib.Omega.{arith}
use Rattle.source.specs.Heap.{Heap, Forest, EmptyHeap, HeapOf, []ᶠ, ◌∷ᶠ◌, is_lt, heap_merge, heap_insert, heap_merge_pairs, heap_pair_up, heap_pop}
use Rattle.source.specs.Heap.{heap_insert_all, heap_from_list}
use Rattle.source.specs.Forward.{sum, sumᶠ}
use Rattle.source.specs.Shared.{sumˡ}

-- something sum-counted in one of two parts
abbrev pick : {C : Type 0} (m n : ℕ) → 0 < m + n → (0 < m → C) → (0 < n → C) → C
pick zero n l f g = g (omega arith)
pick (suc m) n l f g = f (omega arith)

module _ {A : Type 0} where
  abbrev mutual
    pub All : (A → Type 0) → Heap A → Type 0
    All P EmptyHeap = Unit {0}
    All P (HeapOf v hh) = P v × Allᶠ P hh

    pub Allᶠ : (A → Type 0) → Forest A → Type 0
    Allᶠ P []ᶠ = Unit {0}
    Allᶠ P (h ∷ᶠ hh) = All P h × Allᶠ P hh

  abbrev mutual
    pub Heaped : (A → A → Type 0) → Heap A → Type 0
    Heaped R EmptyHeap = Unit {0}
    Heaped R (HeapOf v hh) = Allᶠ (R v) hh × Heapedᶠ R hh

    pub Heapedᶠ : (A → A → Type 0) → Forest A → Type 0
    Heapedᶠ R []ᶠ = Unit {0}
    Heapedᶠ R (h ∷ᶠ hh) = Heaped R h × Heapedᶠ R hh

  mutual
    pub All-map : {P Q : A → Type 0} → (h : Heap A) → ((a : A) → P a → Q a) → All P h → All Q h
    All-map EmptyHeap f a = tt
    All-map (HeapOf v hh) f a = (f v a.0, Allᶠ-map hh f a.1)

    pub Allᶠ-map : {P Q : A → Type 0} → (hh : Forest A) → ((a : A) → P a → Q a) → Allᶠ P hh → Allᶠ Q hh
    Allᶠ-map []ᶠ f a = tt
    Allᶠ-map (h ∷ᶠ hh) f a = (All-map h f a.0, Allᶠ-map hh f a.1)

  mutual
    pub All-zip : {P Q S : A → Type 0} → (h : Heap A) → ((a : A) → P a → Q a → S a) → All P h → All Q h → All S h
    All-zip EmptyHeap f a b = tt
    All-zip (HeapOf v hh) f a b = (f v a.0 b.0, Allᶠ-zip hh f a.1 b.1)

    pub Allᶠ-zip : {P Q S : A → Type 0} → (hh : Forest A) → ((a : A) → P a → Q a → S a) → Allᶠ P hh → Allᶠ Q hh
        → Allᶠ S hh
    Allᶠ-zip []ᶠ f a b = tt
    Allᶠ-zip (h ∷ᶠ hh) f a b = (All-zip h f a.0 b.0, Allᶠ-zip hh f a.1 b.1)

  mutual
    -- nothing counted: each element counts nothing
    pub none_counted : (f : A → ℕ) (h : Heap A) → sum f h ≡ 0 → All (λ a. f a ≡ 0) h
    none_counted f EmptyHeap e = tt
    none_counted f (HeapOf v hh) e = (omega arith, none_countedᶠ f hh (omega arith))

    pub none_countedᶠ : (f : A → ℕ) (hh : Forest A) → sumᶠ f hh ≡ 0 → Allᶠ (λ a. f a ≡ 0) hh
    none_countedᶠ f []ᶠ e = tt
    none_countedᶠ f (h ∷ᶠ hh) e = (none_counted f h (omega arith), none_countedᶠ f hh (omega arith))

  mutual
    -- something counted: an element that counts
    pub sum_counted : (P : A → Type 0) (f : A → ℕ) (h : Heap A) → 0 < sum f h → All P h → (a : A) × (0 < f a) × P a
    sum_counted P f EmptyHeap l p = absurd (omega arith)
    sum_counted P f (HeapOf v hh) l p = pick (f v) (sumᶠ f hh) l (λ k. (v, k, p.0)) (λ k. countedᶠ P f hh k p.1)

    pub countedᶠ : (P : A → Type 0) (f : A → ℕ) (hh : Forest A) → 0 < sumᶠ f hh → Allᶠ P hh → (a : A) × (0 < f a) × P a
    countedᶠ P f []ᶠ l p = absurd (omega arith)
    countedᶠ P f (h ∷ᶠ hh) l p = pick (sum f h) (sumᶠ f hh) l (λ k. sum_counted P f h k p.0) (λ k. countedᶠ P f hh k p.1)

  module _ (cmp : A → A → Ordering) where
    pub insert_all_more : (h : Heap A) (xs : List A) (a : A)
        → heap_insert_all cmp h (xs ++ (a ∷ [])) ≡ heap_insert cmp (heap_insert_all cmp h xs) a
    unfolding heap_insert_all
    insert_all_more h [] a = refl
    insert_all_more h (b ∷ xs) a = insert_all_more (heap_insert cmp h b) xs a

    pub sum_merge : (f : A → ℕ) (a b : Heap A) → sum f (heap_merge cmp a b) ≡ sum f a + sum f b
    unfolding heap_merge
    sum_merge f EmptyHeap b = omega arith
    sum_merge f (HeapOf v hh) EmptyHeap = omega arith
    sum_merge f (HeapOf v hh) (HeapOf w gg) = go (is_lt (cmp v w))
      where
        go : (test : Bool) → sum f (cond test (HeapOf v (HeapOf w gg ∷ᶠ hh)) (HeapOf w (HeapOf v hh ∷ᶠ gg)))
            ≡ f v + sumᶠ f hh + (f w + sumᶠ f gg)
        go true = omega arith
        go false = omega arith

    mutual
      unfolding heap_merge_pairs

      pub sum_pairs : (f : A → ℕ) (hh : Forest A) → sum f (heap_merge_pairs cmp hh) ≡ sumᶠ f hh
      sum_pairs f []ᶠ = refl
      sum_pairs f (h ∷ᶠ hh) = sum_pair_up f h hh

      sum_pair_up : (f : A → ℕ) (h : Heap A) (hh : Forest A) → sum f (heap_pair_up cmp h hh) ≡ sum f h + sumᶠ f hh
      sum_pair_up f h []ᶠ = omega arith
      sum_pair_up f h (h₂ ∷ᶠ hh) = omega (arith, sum_merge f (heap_merge cmp h h₂) (heap_merge_pairs cmp hh), sum_merge f h h₂, sum_pairs f hh)

    pub All-merge : (P : A → Type 0) (a b : Heap A) → All P a → All P b → All P (heap_merge cmp a b)
    unfolding heap_merge
    All-merge P EmptyHeap b p q = q
    All-merge P (HeapOf v hh) EmptyHeap p q = p
    All-merge P (HeapOf v hh) (HeapOf w gg) p q = go (is_lt (cmp v w))
      where
        go : (test : Bool) → All P (cond test (HeapOf v (HeapOf w gg ∷ᶠ hh)) (HeapOf w (HeapOf v hh ∷ᶠ gg)))
        go true = (p.0, (q, p.1))
        go false = (q.0, (p, q.1))

    pub sum_pop : (f : A → ℕ) (h : Heap A) (v : A) (h' : Heap A) → heap_pop cmp h ≡ some (v, h')
        → sum f h ≡ f v + sum f h'
    unfolding heap_pop
    sum_pop f EmptyHeap v h' e = absurd (none-ne-some (v, h') e)
    sum_pop f (HeapOf w hh) v h' e =
        subst (λ x. f w + sumᶠ f hh ≡ f x.0 + sum f x.1) (some-injective _ (v, h') e) (ap (λ n. f w + n) (sym (sum_pairs f hh)))

    pub sum_insert_all : (f : A → ℕ) (h : Heap A) (xs : List A) → sum f (heap_insert_all cmp h xs) ≡ sum f h + sumˡ f xs
    unfolding heap_insert_all heap_insert
    sum_insert_all f h [] = omega arith
    sum_insert_all f h (v ∷ xs) = omega (arith, sum_insert_all f (heap_insert cmp h v) xs, sum_merge f (HeapOf v []ᶠ) h)

    pub sum_from_list : (f : A → ℕ) (xs : List A) → sum f (heap_from_list cmp xs) ≡ sumˡ f xs
    unfolding heap_from_list
    sum_from_list f xs = omega (arith, sum_insert_all f EmptyHeap xs)

    mutual
      unfolding heap_merge_pairs

      pub All-pairs : (P : A → Type 0) (hh : Forest A) → Allᶠ P hh → All P (heap_merge_pairs cmp hh)
      All-pairs P []ᶠ p = tt
      All-pairs P (h ∷ᶠ hh) p = All-pair_up P h hh p.0 p.1

      All-pair_up : (P : A → Type 0) (h : Heap A) (hh : Forest A) → All P h → Allᶠ P hh → All P (heap_pair_up cmp h hh)
      All-pair_up P h []ᶠ p q = p
      All-pair_up P h (h₂ ∷ᶠ hh) p q =
          All-merge P (heap_merge cmp h h₂) (heap_merge_pairs cmp hh) (All-merge P h h₂ p q.0) (All-pairs P hh q.1)

    module _ (R : A → A → Type 0) (trans : (a b c : A) → R a b → R b c → R a c)
        (is_less : (a b : A) → is_lt (cmp a b) ≡ true → R a b)
        (not_less : (a b : A) → is_lt (cmp a b) ≡ false → R b a) where
      pub Heaped-merge : (a b : Heap A) → Heaped R a → Heaped R b → Heaped R (heap_merge cmp a b)
      unfolding heap_merge
      Heaped-merge EmptyHeap b p q = q
      Heaped-merge (HeapOf v hh) EmptyHeap p q = p
      Heaped-merge (HeapOf v hh) (HeapOf w gg) p q = go (is_lt (cmp v w)) refl
        where
          go : (test : Bool) → is_lt (cmp v w) ≡ test
              → Heaped R (cond test (HeapOf v (HeapOf w gg ∷ᶠ hh)) (HeapOf w (HeapOf v hh ∷ᶠ gg)))
          go true e = let r : R v w = is_less v w e in (((r, Allᶠ-map gg (λ x k. trans v w x r k) q.0), p.0), (q, p.1))
          go false e = let r : R w v = not_less v w e in (((r, Allᶠ-map hh (λ x k. trans w v x r k) p.0), q.0), (p, q.1))

      mutual
        unfolding heap_merge_pairs

        pub Heaped-pairs : (hh : Forest A) → Heapedᶠ R hh → Heaped R (heap_merge_pairs cmp hh)
        Heaped-pairs []ᶠ p = tt
        Heaped-pairs (h ∷ᶠ hh) p = Heaped-pair_up h hh p.0 p.1

        Heaped-pair_up : (h : Heap A) (hh : Forest A) → Heaped R h → Heapedᶠ R hh → Heaped R (heap_pair_up cmp h hh)
        Heaped-pair_up h []ᶠ p q = p
        Heaped-pair_up h (h₂ ∷ᶠ hh) p q =
            Heaped-merge (heap_merge cmp h h₂) (heap_merge_pairs cmp hh) (Heaped-merge h h₂ p q.0) (Heaped-pairs hh q.1)

      -- Nothing in the heap is less than the element popped.
      pub pop_least : (h : Heap A) (v : A) (h' : Heap A) → Heaped R h → heap_pop cmp h ≡ some (v, h')
          → All (R v) h' × Heaped R h'
      unfolding heap_pop
      pop_least EmptyHeap v h' p e = absurd (none-ne-some (v, h') e)
      pop_least (HeapOf w hh) v h' p e =
          subst (λ x. All (R x.0) x.1 × Heaped R x.1) (some-injective _ (v, h') e) (All-pairs (R w) hh p.0, Heaped-pairs hh p.1)

      pub Heaped-insert_all : (h : Heap A) (xs : List A) → Heaped R h → Heaped R (heap_insert_all cmp h xs)
      unfolding heap_insert_all heap_insert
      Heaped-insert_all h [] p = p
      Heaped-insert_all h (v ∷ xs) p = Heaped-insert_all (heap_insert cmp h v) xs (Heaped-merge (HeapOf v []ᶠ) h (tt, tt) p)

      pub Heaped-from_list : (xs : List A) → Heaped R (heap_from_list cmp xs)
      unfolding heap_from_list
      Heaped-from_list xs = Heaped-insert_all EmptyHeap xs tt
