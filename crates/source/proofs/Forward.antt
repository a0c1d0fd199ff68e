-- The merge read forward: what its heap gives, in order and without repeats, where the source accumulates it reversed.
use Prim.Native.Nat.{ℕ, zero, suc, ◌+◌, ◌≤◌, ◌<◌}
use mathlib.Core.Path.{◌≡◌, refl, sym, ap, ap₂, ◌∙◌, subst}
use mathlib.Core.Bool.{Bool, true, false, cond}
use mathlib.Core.List.{List, [], ◌∷◌, ◌++◌, map, reverse, reverse_aux, reverse-reverse, nil≢cons}
use mathlib.Core.Option.{Option, none, some}
use native.Mathlib.Omega.{arith}
use lib.ListN.{length, get_or, length-map}
use Rattle.source.specs.Text.{Str}
use Rattle.source.specs.Heap.{Heap, Forest, EmptyHeap, HeapOf, []ᶠ, ◌∷ᶠ◌, is_lt, heap_merge, heap_insert, heap_merge_pairs, heap_pair_up, heap_insert_all}
use Rattle.source.specs.Heap.{heap_from_list}
use Rattle.source.specs.Forward.{sumᶠ}
use Rattle.source.specs.Lists.{Run, run, first, priority, nonempty, add_priorities, total, push_nodup, run_cmp, put_back, merge_aux}
use Rattle.source.specs.Lists.{merge_increasing_lists_rev}
use Rattle.source.specs.Shared.{same, Allˡ}
use Rattle.source.proofs.Lookup.{Increasing}
use Rattle.source.specs.Forward.{rest, size}
use Rattle.source.proofs.Lists.{put_back_size, nonempty_all, Runs, turned_runs, merge_any_order}
use Rattle.source.specs.Forward.{held, again, popped, forward}

module _ {A : Type 0} (key : A → Str) where
  -- ---- fuel
  pub held_popped : (r : Run A) (hh : Forest (Run A)) → suc (held (popped key r hh)) ≡ held (HeapOf r hh)
  unfolding held
  held_popped r hh = sym (put_back_size key r hh)

  pub forward_empty : (n : ℕ) (last : Option A) → forward key n EmptyHeap last ≡ []
  unfolding forward
  forward_empty zero last = refl
  forward_empty (suc n) last = refl

  pub forward_fuel : (m n : ℕ) (h : Heap (Run A)) (last : Option A) → held h ≤ m → held h ≤ n
      → forward key m h last ≡ forward key n h last
  unfolding forward
  forward_fuel zero n EmptyHeap last a b = sym (forward_empty n last)
  forward_fuel zero n (HeapOf r hh) last a b = absurd (omega (arith, held_popped r hh))
  forward_fuel (suc m) n EmptyHeap last a b = sym (forward_empty n last)
  forward_fuel (suc m) zero (HeapOf r hh) last a b = absurd (omega (arith, held_popped r hh))
  forward_fuel (suc m) (suc n) (HeapOf r hh) last a b =
      let a' : held (popped key r hh) ≤ m = omega (arith, held_popped r hh) in
      let b' : held (popped key r hh) ≤ n = omega (arith, held_popped r hh) in
      ap₂ (λ x y. cond (again key (first r) last) x (first r ∷ y))
      (forward_fuel m n (popped key r hh) last a' b') (forward_fuel m n (popped key r hh) (some (first r)) a' b')

  -- One step, at the same fuel.
  pub forward_step : (n : ℕ) (r : Run A) (hh : Forest (Run A)) (last : Option A) → held (HeapOf r hh) ≤ n
      → forward key n (HeapOf r hh) last
      ≡ cond (again key (first r) last) (forward key n (popped key r hh) last)
      (first r ∷ forward key n (popped key r hh) (some (first r)))
  unfolding forward
  forward_step n r hh last a = forward_fuel n (suc n) (HeapOf r hh) last a (omega arith)

  -- ---- the source's merge
  abbrev last_given : List A → Option A
  last_given [] = none
  last_given (a ∷ acc) = some a

  merge_aux_is : (n : ℕ) (h : Heap (Run A)) (acc : List A)
      → merge_aux key n h acc ≡ reverse_aux (forward key n h (last_given acc)) acc
  unfolding merge_aux forward push_nodup again
  merge_aux_is zero h acc = refl
  merge_aux_is (suc n) EmptyHeap acc = refl
  merge_aux_is (suc n) (HeapOf r hh) [] = merge_aux_is n (popped key r hh) (first r ∷ [])
  merge_aux_is (suc n) (HeapOf r hh) (a ∷ acc) = go (same (key (first r)) (key a)) (λ acc. merge_aux_is n (popped key r hh) acc)
    where
      go : (z : Bool) → ((acc : List A)
          → merge_aux key n (popped key r hh) acc ≡ reverse_aux (forward key n (popped key r hh) (last_given acc)) acc)
          → merge_aux key n (popped key r hh) (cond z (a ∷ acc) (first r ∷ (a ∷ acc)))
          ≡ reverse_aux (cond z (forward key n (popped key r hh) (some a))
          (first r ∷ forward key n (popped key r hh) (some (first r)))) (a ∷ acc)
      go true ih = ih (a ∷ acc)
      go false ih = ih (first r ∷ (a ∷ acc))

  -- What the merge gives, whatever the order in which its heap is built.
  pub merge_is : (ls : List (List A)) (rs : List (Run A)) → Allˡ (Increasing key) ls → Runs key (nonempty ls) rs
      → merge_increasing_lists_rev key ls
      ≡ reverse (forward key (total (nonempty ls)) (heap_from_list (run_cmp key) rs) none)
  unfolding merge_increasing_lists_rev
  merge_is ls rs a h =
      merge_any_order key (nonempty ls) rs (nonempty_all key (Increasing key) ls a) h ∙ merge_aux_is (total (nonempty ls)) (heap_from_list (run_cmp key) rs) []

-- ---- the heap of lists, put in one after another
module _ {A : Type 0} where
  pub nonempty_append : (ls ms : List (List A)) → nonempty (ls ++ ms) ≡ nonempty ls ++ nonempty ms
  unfolding nonempty
  nonempty_append [] ms = refl
  nonempty_append ([] ∷ ls) ms = nonempty_append ls ms
  nonempty_append ((v ∷ tl) ∷ ls) ms = ap (◌∷◌ (v ∷ tl)) (nonempty_append ls ms)

  -- The lists with their priorities, ascending.
  unfoldable pub numbered : ℕ → List (List A) → List (Run A)
  numbered n [] = []
  numbered n ([] ∷ ls) = numbered (suc n) ls
  numbered n ((v ∷ tl) ∷ ls) = run n v tl ∷ numbered (suc n) ls

  priorities_numbered : (n : ℕ) (acc : List (Run A)) (ls : List (List A))
      → add_priorities n acc ls ≡ reverse_aux (numbered n ls) acc
  unfolding add_priorities numbered
  priorities_numbered n acc [] = refl
  priorities_numbered n acc ([] ∷ ls) = priorities_numbered (suc n) acc ls
  priorities_numbered n acc ((v ∷ tl) ∷ ls) = priorities_numbered (suc n) (run n v tl ∷ acc) ls

  -- A list that is not empty, with a priority.
  abbrev pub IsRun : ℕ → List A → Run A → Type 0
  IsRun pr xs r = (priority r ≡ pr) × (first r ∷ rest r ≡ xs)

  -- r gives the lists in order, the k-th with priority k.
  abbrev pub AreRuns : List (List A) → (ℕ → Run A) → Type 0
  AreRuns ls r = (k : ℕ) → k < length ls → IsRun k (get_or ls k []) (r k)

  run_is : (pr : ℕ) (v : A) (tl : List A) (r : Run A) → IsRun pr (v ∷ tl) r → r ≡ run pr v tl
  unfolding priority first rest
  run_is pr v tl (run q w ul) h = cc

module _ {A : Type 0} (key : A → Str) where
  pub numbered_runs : (ls : List (List A)) → Runs key ls (numbered 0 ls)
  numbered_runs ls = subst (Runs key ls) (ap reverse (priorities_numbered 0 [] ls) ∙ reverse-reverse (numbered 0 ls)) (turned_runs key ls)

  -- The heap of r 0, .., r (k - 1), put in one after another.
  unfoldable pub built : (ℕ → Run A) → ℕ → Heap (Run A)
  built r zero = EmptyHeap
  built r (suc k) = heap_insert (run_cmp key) (built r k) (r k)

  built_onto : (r : ℕ → Run A) (i : ℕ) (ls : List (List A)) (j : ℕ) → j ≡ i + length ls
      → ((k m : ℕ) → m ≡ i + k → k < length ls → IsRun m (get_or ls k []) (r m))
      → heap_insert_all (run_cmp key) (built r i) (numbered i ls) ≡ built r j
  unfolding heap_insert_all built numbered
  built_onto r i [] j e h = let e' : i ≡ j = omega arith in ap (built r) e'
  built_onto r i ([] ∷ ls) j e h = absurd (nil≢cons (sym (h 0 i (omega arith) (omega arith)).1))
  built_onto r i ((v ∷ tl) ∷ ls) j e h =
      ap (λ x. heap_insert_all (run_cmp key) (heap_insert (run_cmp key) (built r i) x) (numbered (suc i) ls))
      (sym (run_is i v tl (r i) (h 0 i (omega arith) (omega arith))))
      ∙ built_onto r (suc i) ls j (omega arith) (λ k m f l. h (suc k) m (omega arith) (omega arith))

  pub built_is : (ls : List (List A)) (r : ℕ → Run A) → AreRuns ls r
      → built r (length ls) ≡ heap_from_list (run_cmp key) (numbered 0 ls)
  unfolding heap_from_list built
  built_is ls r h =
      sym (built_onto r 0 ls (length ls) (omega arith) (λ k m e l. let e' : k ≡ m = omega arith in subst (λ m. IsRun m (get_or ls k []) (r m)) e' (h k l)))

-- ---- merging and then reading is reading and then merging
module _ {A B : Type 0} (f : A → B) where
  abbrev pub map_run : Run A → Run B
  map_run (run pr v tl) = run pr (f v) (map f tl)

  abbrev mutual
    pub map_heap : Heap (Run A) → Heap (Run B)
    map_heap EmptyHeap = EmptyHeap
    map_heap (HeapOf r hh) = HeapOf (map_run r) (map_forest hh)

    pub map_forest : Forest (Run A) → Forest (Run B)
    map_forest []ᶠ = []ᶠ
    map_forest (h ∷ᶠ hh) = map_heap h ∷ᶠ map_forest hh

  abbrev pub map_last : Option A → Option B
  map_last none = none
  map_last (some a) = some (f a)

  size_map : (r : Run A) → size (map_run r) ≡ size r
  unfolding size rest
  size_map (run pr v tl) = ap suc (length-map tl f)

  mutual
    unfolding held

    pub held_map : (h : Heap (Run A)) → held (map_heap h) ≡ held h
    held_map EmptyHeap = refl
    held_map (HeapOf r hh) = ap₂ ◌+◌ (size_map r) (held_mapᶠ hh)

    held_mapᶠ : (hh : Forest (Run A)) → sumᶠ size (map_forest hh) ≡ sumᶠ size hh
    held_mapᶠ []ᶠ = refl
    held_mapᶠ (h ∷ᶠ hh) = ap₂ ◌+◌ (held_map h) (held_mapᶠ hh)

  module _ (key : A → Str) (key' : B → Str) (same_key : (a : A) → key' (f a) ≡ key a) where
    cmp_map : (r r₂ : Run A) → run_cmp key' (map_run r) (map_run r₂) ≡ run_cmp key r r₂
    unfolding run_cmp first priority
    cmp_map (run p v tl) (run q w ul) = rw (same_key v, same_key w)

    merge_map : (h g : Heap (Run A))
        → heap_merge (run_cmp key') (map_heap h) (map_heap g) ≡ map_heap (heap_merge (run_cmp key) h g)
    unfolding heap_merge
    merge_map EmptyHeap g = refl
    merge_map (HeapOf r hh) EmptyHeap = refl
    merge_map (HeapOf r hh) (HeapOf s gg) = rw (cmp_map r s) (go (is_lt (run_cmp key r s)))
      where
        go : (z : Bool)
            → cond z (HeapOf (map_run r) (HeapOf (map_run s) (map_forest gg) ∷ᶠ map_forest hh))
            (HeapOf (map_run s) (HeapOf (map_run r) (map_forest hh) ∷ᶠ map_forest gg))
            ≡ map_heap (cond z (HeapOf r (HeapOf s gg ∷ᶠ hh)) (HeapOf s (HeapOf r hh ∷ᶠ gg)))
        go true = refl
        go false = refl

    mutual
      unfolding heap_merge_pairs

      pairs_map : (hh : Forest (Run A))
          → heap_merge_pairs (run_cmp key') (map_forest hh) ≡ map_heap (heap_merge_pairs (run_cmp key) hh)
      pairs_map []ᶠ = refl
      pairs_map (h ∷ᶠ hh) = pair_up_map h hh

      pair_up_map : (h : Heap (Run A)) (hh : Forest (Run A))
          → heap_pair_up (run_cmp key') (map_heap h) (map_forest hh) ≡ map_heap (heap_pair_up (run_cmp key) h hh)
      pair_up_map h []ᶠ = refl
      pair_up_map h (g ∷ᶠ hh) =
          ap₂ (heap_merge (run_cmp key')) (merge_map h g) (pairs_map hh) ∙ merge_map (heap_merge (run_cmp key) h g) (heap_merge_pairs (run_cmp key) hh)

    put_back_map : (r : Run A) (h : Heap (Run A)) → put_back key' (map_run r) (map_heap h) ≡ map_heap (put_back key r h)
    unfolding put_back heap_insert
    put_back_map (run p v []) h = refl
    put_back_map (run p v (w ∷ tl)) h = merge_map (HeapOf (run p w tl) []ᶠ) h

    popped_map : (r : Run A) (hh : Forest (Run A))
        → popped key' (map_run r) (map_forest hh) ≡ map_heap (popped key r hh)
    popped_map r hh = ap (put_back key' (map_run r)) (pairs_map hh) ∙ put_back_map r (heap_merge_pairs (run_cmp key) hh)

    first_map : (r : Run A) → first (map_run r) ≡ f (first r)
    unfolding first
    first_map (run p v tl) = refl

    again_map : (x : A) (last : Option A) → again key' (f x) (map_last last) ≡ again key x last
    unfolding again
    again_map x none = refl
    again_map x (some y) = rw (same_key x, same_key y)

    pub forward_map : (n : ℕ) (h : Heap (Run A)) (last : Option A)
        → forward key' n (map_heap h) (map_last last) ≡ map f (forward key n h last)
    unfolding forward
    forward_map zero h last = refl
    forward_map (suc n) EmptyHeap last = refl
    forward_map (suc n) (HeapOf r hh) last =
        rw (first_map r, again_map (first r) last, popped_map r hh, forward_map n (popped key r hh) last, forward_map n (popped key r hh) (some (first r)))
        (go (again key (first r) last) (forward key n (popped key r hh) last) (forward key n (popped key r hh) (some (first r))))
      where
        go : (z : Bool) (xs ys : List A) → cond z (map f xs) (f (first r) ∷ map f ys) ≡ map f (cond z xs (first r ∷ ys))
        go true xs ys = refl
        go false xs ys = refl

    pub built_map : (r : ℕ → Run A) (k : ℕ) → built key' (λ j. map_run (r j)) k ≡ map_heap (built key r k)
    unfolding built heap_insert
    built_map r zero = refl
    built_map r (suc k) = ap (heap_merge (run_cmp key') (HeapOf (map_run (r k)) []ᶠ)) (built_map r k) ∙ merge_map (HeapOf (r k) []ᶠ) (built key r k)
