-- What merge_increasing_lists_rev gives: strictly decreasing, and at each key the element of the first list that has it.
use Prim.Native.Nat.{ℕ, zero, suc, ◌+◌, ◌≤◌, ◌<◌, compare, Ordering}
use mathlib.Core.Path.{◌≡◌, refl, sym, ap, ◌∙◌, subst}
use mathlib.Core.Logic.{◌⊎◌, inl, inr, ◌≢◌}
use mathlib.Core.Bool.{Bool, true, false, cond}
use mathlib.Core.List.{List, [], ◌∷◌, reverse, reverse_aux, nil≢cons, map-id}
use mathlib.Core.Option.{Option, none, some, map}
use native.Mathlib.Omega.{arith}
use native.Mathlib.Decide.{ℕ_discrete}
use borrow.Author.Tests.{eq-eqb, ne_eqb}
use lib.Dec.{eqb}
use lib.ListN.{length, get_or, set}
use lib.Seq.{get_or-set_same, get_or-set_other}
use Rattle.source.specs.Text.{Str, then, string_compare}
use Rattle.source.specs.Rules.{◌<ˢ◌}
use Rattle.source.proofs.Order.{View, Viewℕ, compare_view, compare_strings, <ˢ_trans}
use Rattle.source.specs.Heap.{Heap, Forest, EmptyHeap, HeapOf, []ᶠ, is_lt, heap_merge, heap_insert, heap_merge_pairs, heap_insert_all, heap_from_list}
use Rattle.source.specs.Shared.{sumˡ}
use Rattle.source.specs.Forward.{sum, sumᶠ}
use Rattle.source.proofs.Heap.{All, Allᶠ, Heaped, All-map, Allᶠ-map, Allᶠ-zip, none_countedᶠ, sum_counted, sum_merge, sum_pairs, All-merge, All-pairs}
use Rattle.source.proofs.Heap.{Heaped-merge, Heaped-pairs, sum_from_list, Heaped-from_list}
use Rattle.source.specs.Lists.{Run, run, first, priority, nonempty, add_priorities, total, push_nodup, run_cmp, put_back, merge_aux, merge_nonempty}
use Rattle.source.specs.Lists.{merge_increasing_lists_rev}
use Rattle.source.specs.Shared.{same, Allˡ}
use Rattle.source.proofs.Lookup.{Same, same_view, Allˡ-map, Allˡ-reverse, sumˡ_reverse, or_else_none, lt_ne, lookup, first_lookup, Above, Below}
use Rattle.source.proofs.Lookup.{Increasing, Decreasing, lookup_hit, lookup_miss, lookup_above, lookup_below, decreasing_unique}
use Rattle.source.specs.Tries.{or_else}
use Rattle.source.specs.Forward.{rest, size}

≤ˢ_lt : Str → Str → Type 0
≤ˢ_lt s t = (s <ˢ t) ⊎ (s ≡ t)

abbrev pub live : {A : Type 0} → List A → ℕ
live [] = 0
live (x ∷ l) = 1

-- one at the runs of that priority
pub at : {A : Type 0} → ℕ → Run A → ℕ
at q r = cond (eqb (priority r) q) 1 0

at_same : {A : Type 0} (q : ℕ) (r : Run A) → priority r ≡ q → at q r ≡ 1
unfolding at
at_same q r e = rw (eq-eqb (priority r) q e)

at_other : {A : Type 0} (q : ℕ) (r : Run A) → priority r ≢ q → at q r ≡ 0
unfolding at
at_other q r h = rw (ne_eqb (priority r) q h)

at_pos : {A : Type 0} (q : ℕ) (r : Run A) → 0 < at q r → priority r ≡ q
at_pos q r h = go (compare (priority r) q) (compare_view (priority r) q)
  where
    go : (o : Ordering) → Viewℕ (priority r) q o → priority r ≡ q
    go Ordering.lt v = let n : priority r ≢ q = omega arith in absurd (omega (arith, at_other q r n))
    go Ordering.eq v = v
    go Ordering.gt v = let n : priority r ≢ q = omega arith in absurd (omega (arith, at_other q r n))

at_zero : {A : Type 0} (q : ℕ) (r : Run A) → at q r ≡ 0 → priority r ≢ q
at_zero q r h e = omega (arith, at_same q r e)

module _ {A : Type 0} (key : A → Str) where
  -- ---- the order of runs
  RLe : Run A → Run A → Type 0
  RLe r r₂ = (key (first r) <ˢ key (first r₂)) ⊎ ((key (first r) ≡ key (first r₂)) × (priority r ≤ priority r₂))

  RLe_trans : (a b c : Run A) → RLe a b → RLe b c → RLe a c
  unfolding RLe
  RLe_trans a b c (inl h) (inl k) = inl (<ˢ_trans (key (first a)) (key (first b)) (key (first c)) h k)
  RLe_trans a b c (inl h) (inr k) = inl (rw (← k.0) h)
  RLe_trans a b c (inr h) (inl k) = inl (rw h.0 k)
  RLe_trans a b c (inr h) (inr k) = inr (h.0 ∙ k.0, omega arith)

  RView : Run A → Run A → Bool → Type 0
  RView a b true = RLe a b
  RView a b false = RLe b a

  run_view : (a b : Run A) → RView a b (is_lt (run_cmp key a b))
  unfolding RView run_cmp RLe is_lt then
  run_view a b = go (string_compare (key (first a)) (key (first b))) (compare (priority a) (priority b))
      (compare_strings (key (first a)) (key (first b))) (compare_view (priority a) (priority b))
    where
      go : (o o' : Ordering) → View (key (first a)) (key (first b)) o → Viewℕ (priority a) (priority b) o'
          → RView a b (is_lt (then o o'))
      go Ordering.lt o' v w = inl v
      go Ordering.eq Ordering.lt v w = inr (v, omega arith)
      go Ordering.eq Ordering.eq v w = inr (sym v, omega arith)
      go Ordering.eq Ordering.gt v w = inr (sym v, omega arith)
      go Ordering.gt o' v w = inl v

  run_less : (a b : Run A) → is_lt (run_cmp key a b) ≡ true → RLe a b
  unfolding RView
  run_less a b e = subst (RView a b) e (run_view a b)

  run_not_less : (a b : Run A) → is_lt (run_cmp key a b) ≡ false → RLe b a
  unfolding RView
  run_not_less a b e = subst (RView a b) e (run_view a b)

  -- ---- what is left of each list, by priority, is in the heap
  record Inv (ls : List (List A)) (h : Heap (Run A)) : Type 0 where
    heaped : Heaped RLe h
    sound : All (λ r. get_or ls (priority r) [] ≡ first r ∷ rest r) h
    counts : (q : ℕ) → sum (at q) h ≡ live (get_or ls q [])
    increasing : (q : ℕ) → Increasing key (get_or ls q [])

  single : Run A → Heap (Run A)
  single (run p v []) = EmptyHeap
  single (run p v (w ∷ tl)) = HeapOf (run p w tl) []ᶠ

  put_back_is : (r : Run A) (h : Heap (Run A)) → put_back key r h ≡ heap_merge (run_cmp key) (single r) h
  unfolding put_back single heap_insert heap_merge
  put_back_is (run p v []) h = refl
  put_back_is (run p v (w ∷ tl)) h = refl

  in_range : (ls : List (List A)) (p : ℕ) (v : A) (tl : List A) → get_or ls p [] ≡ v ∷ tl → p < length ls
  in_range [] p v tl e = absurd (nil≢cons e)
  in_range (l ∷ ls) zero v tl e = omega arith
  in_range (l ∷ ls) (suc p) v tl e = omega (arith, in_range ls p v tl e)

  single_same : (p : ℕ) (v : A) (tl : List A) → sum (at p) (single (run p v tl)) ≡ live tl
  unfolding single priority
  single_same p v [] = refl
  single_same p v (w ∷ tl) = omega (arith, at_same p (run p w tl) refl)

  single_other : (p q : ℕ) (v : A) (tl : List A) → p ≢ q → sum (at q) (single (run p v tl)) ≡ 0
  unfolding single priority
  single_other p q v [] n = refl
  single_other p q v (w ∷ tl) n = omega (arith, at_other q (run p w tl) n)

  single_heaped : (r : Run A) → Heaped RLe (single r)
  unfolding single
  single_heaped (run p v []) = tt
  single_heaped (run p v (w ∷ tl)) = (tt, tt)

  single_size : (r : Run A) → sum size (single r) ≡ length (rest r)
  unfolding single size rest
  single_size (run p v []) = refl
  single_size (run p v (w ∷ tl)) = omega arith

  single_all : (P : Run A → Type 0) (p : ℕ) (v : A) (tl : List A)
      → ((w : A) (ws : List A) → tl ≡ w ∷ ws → P (run p w ws)) → All P (single (run p v tl))
  unfolding single
  single_all P p v [] f = tt
  single_all P p v (w ∷ tl) f = (f w tl refl, tt)

  -- the heap without its least element
  popped : Run A → Forest (Run A) → Heap (Run A)
  popped r hh = heap_merge (run_cmp key) (single r) (heap_merge_pairs (run_cmp key) hh)

  popped_sum : (f : Run A → ℕ) (r : Run A) (hh : Forest (Run A)) → sum f (popped r hh) ≡ sum f (single r) + sumᶠ f hh
  unfolding popped
  popped_sum f r hh = omega (arith, sum_merge (run_cmp key) f (single r) (heap_merge_pairs (run_cmp key) hh), sum_pairs (run_cmp key) f hh)

  popped_all : (P : Run A → Type 0) (p : ℕ) (v : A) (tl : List A) (hh : Forest (Run A))
      → ((w : A) (ws : List A) → tl ≡ w ∷ ws → P (run p w ws)) → Allᶠ P hh → All P (popped (run p v tl) hh)
  unfolding popped
  popped_all P p v tl hh f a =
      All-merge (run_cmp key) P (single (run p v tl)) (heap_merge_pairs (run_cmp key) hh) (single_all P p v tl f) (All-pairs (run_cmp key) P hh a)

  module _ (ls : List (List A)) (p : ℕ) (v : A) (tl : List A) (hh : Forest (Run A))
      (inv : Inv ls (HeapOf (run p v tl) hh)) where
    here : get_or ls p [] ≡ v ∷ tl
    unfolding priority first rest
    here = inv.sound.0

    gone : Allᶠ (λ r. priority r ≢ p) hh
    unfolding priority
    gone = Allᶠ-map hh (λ r. at_zero p r)
        (none_countedᶠ (at p) hh (omega (arith, inv.counts p, at_same p (run p v tl) refl, ap live here)))

    popped_inv : Inv (set ls p tl) (popped (run p v tl) hh)
    unfolding popped priority first rest
    popped_inv = record {
      heaped = Heaped-merge (run_cmp key) RLe RLe_trans run_less run_not_less (single (run p v tl)) (heap_merge_pairs (run_cmp key) hh)
          (single_heaped (run p v tl)) (Heaped-pairs (run_cmp key) RLe RLe_trans run_less run_not_less hh inv.heaped.1);
      sound = popped_all (λ r. get_or (set ls p tl) (priority r) [] ≡ first r ∷ rest r) p v tl hh
          (λ w ws e. get_or-set_same ls p tl [] (in_range ls p v tl here) ∙ e)
          (Allᶠ-zip hh (λ s n k. get_or-set_other ls p (priority s) tl [] n ∙ k) gone inv.sound.1);
      counts = λ q. count q (ℕ_discrete p q);
      increasing = λ q. incr q (ℕ_discrete p q);
    }
      where
        count : (q : ℕ) → Dec (p ≡ q) → sum (at q) (popped (run p v tl) hh) ≡ live (get_or (set ls p tl) q [])
        count q (yes e) = subst (λ q. sum (at q) (popped (run p v tl) hh) ≡ live (get_or (set ls p tl) q [])) e
            (omega (
              arith,
              popped_sum (at p) (run p v tl) hh,
              single_same p v tl,
              inv.counts p,
              at_same p (run p v tl) refl,
              ap live here,
              ap live (get_or-set_same ls p tl [] (in_range ls p v tl here)),
            ))
        count q (no n) =
            omega (
              arith,
              popped_sum (at q) (run p v tl) hh,
              single_other p q v tl n,
              inv.counts q,
              at_other q (run p v tl) n,
              ap live (get_or-set_other ls p q tl [] (λ e. n (sym e))),
            )

        incr : (q : ℕ) → Dec (p ≡ q) → Increasing key (get_or (set ls p tl) q [])
        incr q (yes e) = subst (λ q. Increasing key (get_or (set ls p tl) q [])) e
            (rw (get_or-set_same ls p tl [] (in_range ls p v tl here)) (subst (Increasing key) here (inv.increasing p)).1)
        incr q (no n) = rw (get_or-set_other ls p q tl [] (λ e. n (sym e))) (inv.increasing q)

  above_trans : (k k' : Str) (xs : List A) → k <ˢ k' → Above key k' xs → Above key k xs
  above_trans k k' xs h a = Allˡ-map xs (λ y j. <ˢ_trans k k' (key y) h j) a

  below_trans : (k k' : Str) (xs : List A) → k' <ˢ k → Below key k' xs → Below key k xs
  below_trans k k' xs h a = Allˡ-map xs (λ y j. <ˢ_trans (key y) k' k j h) a

  -- the first list that has the key is the one at p
  first_at : (ls : List (List A)) (p : ℕ) (v : A) (tl : List A) → get_or ls p [] ≡ v ∷ tl
      → ((q : ℕ) → q < p → lookup key (key v) (get_or ls q []) ≡ none) → first_lookup key (key v) ls ≡ some v
  unfolding first_lookup or_else
  first_at [] p v tl e f = absurd (nil≢cons e)
  first_at (l ∷ ls) zero v tl e f = ap (λ o. or_else o (first_lookup key (key v) ls)) (ap (lookup key (key v)) e ∙ lookup_hit key v tl)
  first_at (l ∷ ls) (suc p) v tl e f =
      ap (λ o. or_else o (first_lookup key (key v) ls)) (f 0 (omega arith)) ∙ first_at ls p v tl e (λ q h. f (suc q) (omega arith))

  -- an element less changes no other key
  other_key : (k : Str) (ls : List (List A)) (p : ℕ) (v : A) (tl : List A) → get_or ls p [] ≡ v ∷ tl → (k ≡ key v → ⊥)
      → first_lookup key k (set ls p tl) ≡ first_lookup key k ls
  unfolding first_lookup
  other_key k [] p v tl e n = refl
  other_key k (l ∷ ls) zero v tl e n = ap (λ o. or_else o (first_lookup key k ls)) (sym (ap (lookup key k) e ∙ lookup_miss key k v tl n))
  other_key k (l ∷ ls) (suc p) v tl e n = ap (or_else (lookup key k l)) (other_key k ls p v tl e n)

  nothing_left : (k : Str) (ls : List (List A)) → ((q : ℕ) → 0 ≡ live (get_or ls q [])) → first_lookup key k ls ≡ none
  unfolding first_lookup or_else lookup
  nothing_left k [] f = refl
  nothing_left k ([] ∷ ls) f = nothing_left k ls (λ q. f (suc q))
  nothing_left k ((x ∷ l) ∷ ls) f = absurd (omega (arith, f 0))

  RLe_refl : (r : Run A) → RLe r r
  unfolding RLe
  RLe_refl r = inr (refl, omega arith)

  -- the least run holds its key for the first list
  module _ (ls : List (List A)) (p : ℕ) (v : A) (tl : List A) (hh : Forest (Run A))
      (inv : Inv ls (HeapOf (run p v tl) hh)) where
    Found : Run A → Type 0
    Found r = (get_or ls (priority r) [] ≡ first r ∷ rest r) × RLe (run p v tl) r

    least : (q : ℕ) → q < p → lookup key (key v) (get_or ls q []) ≡ none
    unfolding Found RLe priority first rest lookup
    least q l = go (get_or ls q []) refl
      where
        use_found : (w : A) (ws : List A) → get_or ls q [] ≡ w ∷ ws → (r : Run A) → priority r ≡ q → Found r
            → lookup key (key v) (w ∷ ws) ≡ none
        use_found w ws e r i (g, inr h) = absurd (omega arith)
        use_found w ws e r i (g, inl h) =
            let f : w ∷ ws ≡ first r ∷ rest r = sym e ∙ ap (λ j. get_or ls j []) (sym i) ∙ g in
            let m : Increasing key (first r ∷ rest r) = subst (Increasing key) g (inv.increasing (priority r)) in
            ap (lookup key (key v)) f ∙ lookup_above key (key v) (first r ∷ rest r) (h, above_trans (key v) (key (first r)) (rest r) h m.0)

        go : (m : List A) → get_or ls q [] ≡ m → lookup key (key v) m ≡ none
        go [] e = refl
        go (w ∷ ws) e =
            let c : (r : Run A) × (0 < at q r) × Found r =
            sum_counted Found (at q) (HeapOf (run p v tl) hh) (omega (arith, inv.counts q, ap live e))
            ((inv.sound.0, RLe_refl (run p v tl)), Allᶠ-zip hh (λ r a b. (a, b)) inv.sound.1 inv.heaped.0) in
            use_found w ws e c.0 (at_pos q c.0 c.1) c.2

    first_is : first_lookup key (key v) ls ≡ some v
    first_is = first_at ls p v tl (here ls p v tl hh inv) least

  -- ---- pushing
  HeadLe : List A → A → Type 0
  HeadLe [] v = Unit {0}
  HeadLe (a ∷ acc) v = ≤ˢ_lt (key a) (key v)

  Reached : List A → Heap (Run A) → Type 0
  Reached [] h = Unit {0}
  Reached (a ∷ acc) h = All (λ r. ≤ˢ_lt (key a) (key (first r))) h

  record Pushed (v : A) (acc acc' : List A) : Type 0 where
    decreasing : Decreasing key acc'
    reached : (h : Heap (Run A)) → All (λ r. ≤ˢ_lt (key v) (key (first r))) h → Reached acc' h
    hit : (o : Option A) → or_else (lookup key (key v) acc') o ≡ or_else (lookup key (key v) acc) (some v)
    miss : (k : Str) → (k ≡ key v → ⊥) → lookup key k acc' ≡ lookup key k acc

  pushed_same : (v a : A) (acc : List A) → Decreasing key (a ∷ acc) → key v ≡ key a → Pushed v (a ∷ acc) (a ∷ acc)
  unfolding Reached or_else
  pushed_same v a acc d e = record {
    decreasing = d;
    reached = λ h x. All-map h (λ r y. rw e at y) x;
    hit = λ o. rw (e, lookup_hit key);
    miss = λ k n. refl;
  }

  pushed_new : (v : A) (acc : List A) → Decreasing key acc → Below key (key v) acc → Pushed v acc (v ∷ acc)
  unfolding Reached or_else
  pushed_new v acc d b = record {
    decreasing = (b, d);
    reached = λ h x. x;
    hit = λ o. rw (lookup_hit key, lookup_below key (key v) acc b);
    miss = λ k n. lookup_miss key k v acc n;
  }

  pushed : (v : A) (acc : List A) → Decreasing key acc → HeadLe acc v → Pushed v acc (push_nodup key v acc)
  unfolding push_nodup HeadLe Same ≤ˢ_lt
  pushed v [] d l = pushed_new v [] tt tt
  pushed v (a ∷ acc) d l = go (same_view (key v) (key a)) l
    where
      new : key a <ˢ key v → Pushed v (a ∷ acc) (v ∷ (a ∷ acc))
      new h = pushed_new v (a ∷ acc) d (h, below_trans (key v) (key a) acc h d.0)

      go : Same (key v) (key a) → ≤ˢ_lt (key a) (key v)
          → Pushed v (a ∷ acc) (cond (same (key v) (key a)) (a ∷ acc) (v ∷ (a ∷ acc)))
      go (inl (t, e)) l = rw t (pushed_same v a acc d e)
      go (inr (f, x)) (inl h) = rw f (new h)
      go (inr (f, inl x)) (inr e) = absurd (lt_ne (key v) (key a) x (sym e))
      go (inr (f, inr x)) (inr e) = absurd (lt_ne (key a) (key v) x e)

  -- ---- the merge of a heap
  record Merged (acc : List A) (ls : List (List A)) (result : List A) : Type 0 where
    decreasing : Decreasing key result
    at_key : (k : Str) → lookup key k result ≡ or_else (lookup key k acc) (first_lookup key k ls)

  head_le : (acc : List A) (r : Run A) (hh : Forest (Run A)) → Reached acc (HeapOf r hh) → HeadLe acc (first r)
  unfolding Reached HeadLe
  head_le [] r hh x = tt
  head_le (a ∷ acc) r hh x = x.0

  merged_none : (acc : List A) (ls : List (List A)) → Decreasing key acc → Inv ls EmptyHeap → Merged acc ls acc
  merged_none acc ls d inv = record {
    decreasing = d;
    at_key = λ k. rw (nothing_left k ls inv.counts, or_else_none);
  }

  module _ (acc : List A) (ls : List (List A)) (p : ℕ) (v : A) (tl : List A) (hh : Forest (Run A))
      (d : Decreasing key acc)
      (inv : Inv ls (HeapOf (run p v tl) hh)) (reached : Reached acc (HeapOf (run p v tl) hh)) where
    push : Pushed v acc (push_nodup key v acc)
    unfolding first
    push = pushed v acc d (head_le acc (run p v tl) hh reached)

    -- what is left is not less
    left : All (λ r. ≤ˢ_lt (key v) (key (first r))) (popped (run p v tl) hh)
    unfolding first ≤ˢ_lt RLe
    left = popped_all (λ r. ≤ˢ_lt (key v) (key (first r))) p v tl hh
        (λ w ws e. inl (subst (Above key (key v)) e (subst (Increasing key) (here ls p v tl hh inv) (inv.increasing p)).0).0)
        (Allᶠ-map hh weaken inv.heaped.0)
      where
        weaken : (r : Run A) → RLe (run p v tl) r → ≤ˢ_lt (key v) (key (first r))
        weaken r (inl h) = inl h
        weaken r (inr h) = inr h.0

    merged_step : (result : List A) → Merged (push_nodup key v acc) (set ls p tl) result → Merged acc ls result
    unfolding Same
    merged_step result m = record { decreasing = m.decreasing; at_key = λ k. m.at_key k ∙ go k (same_view k (key v)) }
      where
        other : (k : Str) → (k ≡ key v → ⊥)
            → or_else (lookup key k (push_nodup key v acc)) (first_lookup key k (set ls p tl))
            ≡ or_else (lookup key k acc) (first_lookup key k ls)
        other k n = rw (push.miss k n, other_key k ls p v tl (here ls p v tl hh inv) n)

        go : (k : Str) → Same k (key v)
            → or_else (lookup key k (push_nodup key v acc)) (first_lookup key k (set ls p tl))
            ≡ or_else (lookup key k acc) (first_lookup key k ls)
        go k (inl (t, e)) = rw e (push.hit (first_lookup key (key v) (set ls p tl)) ∙ ap (or_else (lookup key (key v) acc)) (sym (first_is ls p v tl hh inv)))
        go k (inr (f, inl x)) = other k (lt_ne k (key v) x)
        go k (inr (f, inr x)) = other k (λ e. lt_ne (key v) k x (sym e))

  popped_size : (n : ℕ) (r : Run A) (hh : Forest (Run A)) → sum size (HeapOf r hh) ≤ suc n → sum size (popped r hh) ≤ n
  unfolding size
  popped_size n r hh l = omega (arith, popped_sum size r hh, single_size r)

  pub put_back_size : (r : Run A) (hh : Forest (Run A))
      → sum size (HeapOf r hh) ≡ suc (sum size (put_back key r (heap_merge_pairs (run_cmp key) hh)))
  unfolding size popped
  put_back_size r hh = omega (arith, popped_sum size r hh, single_size r, ap (sum size) (put_back_is r (heap_merge_pairs (run_cmp key) hh)))

  merge_spec : (n : ℕ) (h : Heap (Run A)) (acc : List A) (ls : List (List A)) → sum size h ≤ n → Inv ls h
      → Decreasing key acc → Reached acc h
      → Merged acc ls (merge_aux key n h acc)
  unfolding merge_aux popped size first
  merge_spec zero EmptyHeap acc ls l inv d x = merged_none acc ls d inv
  merge_spec zero (HeapOf r hh) acc ls l inv d x = absurd (omega arith)
  merge_spec (suc n) EmptyHeap acc ls l inv d x = merged_none acc ls d inv
  merge_spec (suc n) (HeapOf (run p v tl) hh) acc ls l inv d x =
      merged_step acc ls p v tl hh d inv x (merge_aux key n (put_back key (run p v tl) (heap_merge_pairs (run_cmp key) hh)) (push_nodup key v acc))
      (rw (put_back_is (run p v tl) (heap_merge_pairs (run_cmp key) hh))
      (merge_spec n (popped (run p v tl) hh) (push_nodup key v acc) (set ls p tl) (popped_size n (run p v tl) hh l)
      (popped_inv ls p v tl hh inv)
      (push acc ls p v tl hh d inv x).decreasing
      ((push acc ls p v tl hh d inv x).reached (popped (run p v tl) hh) (left acc ls p v tl hh d inv x))))

  -- ---- the heap of the lists
  insert_all_all : (P : Run A → Type 0) (h : Heap (Run A)) (rs : List (Run A)) → All P h → Allˡ P rs
      → All P (heap_insert_all (run_cmp key) h rs)
  unfolding heap_insert_all heap_insert
  insert_all_all P h [] a b = a
  insert_all_all P h (r ∷ rs) a b = insert_all_all P (heap_insert (run_cmp key) h r) rs (All-merge (run_cmp key) P (HeapOf r []ᶠ) h (b.0, tt) a) b.1

  cnt : ℕ → List (List A) → ℕ → ℕ
  cnt n [] q = 0
  cnt n ([] ∷ ls) q = cnt (suc n) ls q
  cnt n ((v ∷ tl) ∷ ls) q = at q (run n v tl) + cnt (suc n) ls q

  cnt_low : (n : ℕ) (ls : List (List A)) (q : ℕ) → q < n → cnt n ls q ≡ 0
  unfolding cnt priority
  cnt_low n [] q h = refl
  cnt_low n ([] ∷ ls) q h = cnt_low (suc n) ls q (omega arith)
  cnt_low n ((v ∷ tl) ∷ ls) q h = omega (arith, cnt_low (suc n) ls q (omega arith), at_other q (run n v tl) (omega arith))

  cnt_at : (n : ℕ) (ls : List (List A)) (q i : ℕ) → i ≡ n + q → cnt n ls i ≡ live (get_or ls q [])
  unfolding cnt priority
  cnt_at n [] q i e = refl
  cnt_at n ([] ∷ ls) zero i e = cnt_low (suc n) ls i (omega arith)
  cnt_at n ([] ∷ ls) (suc q) i e = cnt_at (suc n) ls q i (omega arith)
  cnt_at n ((v ∷ tl) ∷ ls) zero i e = omega (arith, cnt_low (suc n) ls i (omega arith), at_same i (run n v tl) (omega arith))
  cnt_at n ((v ∷ tl) ∷ ls) (suc q) i e = omega (arith, cnt_at (suc n) ls q i (omega arith), at_other i (run n v tl) (omega arith))

  priorities_count : (q n : ℕ) (acc : List (Run A)) (ls : List (List A))
      → sumˡ (at q) (add_priorities n acc ls) ≡ sumˡ (at q) acc + cnt n ls q
  unfolding add_priorities cnt
  priorities_count q n acc [] = omega arith
  priorities_count q n acc ([] ∷ ls) = priorities_count q (suc n) acc ls
  priorities_count q n acc ((v ∷ tl) ∷ ls) = omega (arith, priorities_count q (suc n) (run n v tl ∷ acc) ls)

  priorities_size : (n : ℕ) (acc : List (Run A)) (ls : List (List A))
      → sumˡ size (add_priorities n acc ls) ≡ sumˡ size acc + total ls
  unfolding add_priorities total size rest
  priorities_size n acc [] = omega arith
  priorities_size n acc ([] ∷ ls) = omega (arith, priorities_size (suc n) acc ls)
  priorities_size n acc ((v ∷ tl) ∷ ls) = omega (arith, priorities_size (suc n) (run n v tl ∷ acc) ls)

  priorities_sound : (all : List (List A)) (n : ℕ) (acc : List (Run A)) (ls : List (List A))
      → ((q i : ℕ) → i ≡ n + q → get_or all i [] ≡ get_or ls q [])
      → Allˡ (λ r. get_or all (priority r) [] ≡ first r ∷ rest r) acc
      → Allˡ (λ r. get_or all (priority r) [] ≡ first r ∷ rest r) (add_priorities n acc ls)
  unfolding add_priorities priority first rest
  priorities_sound all n acc [] f a = a
  priorities_sound all n acc ([] ∷ ls) f a = priorities_sound all (suc n) acc ls (λ q i e. f (suc q) i (omega arith)) a
  priorities_sound all n acc ((v ∷ tl) ∷ ls) f a =
      priorities_sound all (suc n) (run n v tl ∷ acc) ls (λ q i e. f (suc q) i (omega arith)) (f 0 n (omega arith), a)

  all_get_d : (ls : List (List A)) (q : ℕ) → Allˡ (Increasing key) ls → Increasing key (get_or ls q [])
  all_get_d [] q a = tt
  all_get_d (l ∷ ls) zero a = a.0
  all_get_d (l ∷ ls) (suc q) a = all_get_d ls q a.1

  -- A heap of the lists' runs, in whatever order they were put in.
  pub record Runs (ls : List (List A)) (rs : List (Run A)) : Type 0 where
    pub sound : Allˡ (λ r. get_or ls (priority r) [] ≡ first r ∷ rest r) rs
    pub counts : (q : ℕ) → sumˡ (at q) rs ≡ live (get_or ls q [])
    pub sizes : sumˡ size rs ≡ total ls

  start : (ls : List (List A)) (rs : List (Run A)) → Allˡ (Increasing key) ls → Runs ls rs
      → Inv ls (heap_from_list (run_cmp key) rs)
  unfolding heap_from_list
  start ls rs a h = record {
    heaped = Heaped-from_list (run_cmp key) RLe RLe_trans run_less run_not_less rs;
    sound = insert_all_all (λ r. get_or ls (priority r) [] ≡ first r ∷ rest r) EmptyHeap rs tt h.sound;
    counts = λ q. omega (arith, sum_from_list (run_cmp key) (at q) rs, h.counts q);
    increasing = λ q. all_get_d ls q a;
  }

  priorities_runs : (ls : List (List A)) → Runs ls (add_priorities 0 [] ls)
  priorities_runs ls = record {
    sound = priorities_sound ls 0 [] ls (λ q i e. ap (λ j. get_or ls j []) (omega arith)) tt;
    counts = λ q. omega (arith, priorities_count q 0 [] ls, cnt_at 0 ls q q (omega arith));
    sizes = omega (arith, priorities_size 0 [] ls);
  }

  pub turned_runs : (ls : List (List A)) → Runs ls (reverse (add_priorities 0 [] ls))
  turned_runs ls =
      let h = priorities_runs ls in
      let rs = add_priorities 0 [] ls in
      record {
        sound = Allˡ-reverse (λ r. get_or ls (priority r) [] ≡ first r ∷ rest r) rs [] h.sound tt;
        counts = λ q. omega (arith, sumˡ_reverse (at q) rs [], h.counts q);
        sizes = omega (arith, sumˡ_reverse size rs [], h.sizes);
      }

  -- ---- one list: its reverse
  reversed : (xs acc : List A) → Increasing key xs → Decreasing key acc → Allˡ (λ a. Above key (key a) xs) acc
      → Decreasing key (reverse_aux xs acc)
  reversed [] acc i d a = d
  reversed (x ∷ xs) acc i d a =
      reversed xs (x ∷ acc) i.1 (Allˡ-map acc (λ y p. p.0) a, d) (i.0, Allˡ-map acc (λ y p. p.1) a)

  reversed_at : (k : Str) (xs acc : List A) → Increasing key xs
      → lookup key k (reverse_aux xs acc) ≡ or_else (lookup key k xs) (lookup key k acc)
  unfolding lookup or_else Same
  reversed_at k [] acc i = refl
  reversed_at k (x ∷ xs) acc i = reversed_at k xs (x ∷ acc) i.1 ∙ go (same_view k (key x))
    where
      go : Same k (key x) → or_else (lookup key k xs) (cond (same k (key x)) (some x) (lookup key k acc))
          ≡ or_else (cond (same k (key x)) (some x) (lookup key k xs)) (lookup key k acc)
      go (inl (t, e)) = rw (t, lookup_above key k xs (rw (← e) at i.0))
      go (inr (f, x)) = rw f

  nonempty_at : (k : Str) (ls : List (List A)) → first_lookup key k (nonempty ls) ≡ first_lookup key k ls
  unfolding nonempty first_lookup or_else lookup
  nonempty_at k [] = refl
  nonempty_at k ([] ∷ ls) = nonempty_at k ls
  nonempty_at k ((x ∷ l) ∷ ls) = ap (or_else (lookup key k (x ∷ l))) (nonempty_at k ls)

  pub nonempty_all : (P : List A → Type 0) (ls : List (List A)) → Allˡ P ls → Allˡ P (nonempty ls)
  unfolding nonempty
  nonempty_all P [] a = tt
  nonempty_all P ([] ∷ ls) a = nonempty_all P ls a.1
  nonempty_all P ((x ∷ l) ∷ ls) a = (a.0, nonempty_all P ls a.1)

  pub runs_size : (ls : List (List A)) (rs : List (Run A)) → Runs ls rs
      → sum size (heap_from_list (run_cmp key) rs) ≡ total ls
  runs_size ls rs h = omega (arith, sum_from_list (run_cmp key) size rs, h.sizes)

  pub from_list_size : (ls : List (List A))
      → sum size (heap_from_list (run_cmp key) (add_priorities 0 [] ls)) ≡ total ls
  from_list_size ls = runs_size ls (add_priorities 0 [] ls) (priorities_runs ls)

  runs_spec : (ls : List (List A)) (rs : List (Run A)) → Allˡ (Increasing key) ls → Runs ls rs
      → Merged [] ls (merge_aux key (total ls) (heap_from_list (run_cmp key) rs) [])
  unfolding Reached
  runs_spec ls rs a h = merge_spec (total ls) (heap_from_list (run_cmp key) rs) [] ls (omega (arith, runs_size ls rs h)) (start ls rs a h) tt tt

  merge_nonempty_spec : (ls : List (List A)) → Allˡ (Increasing key) ls → Merged [] ls (merge_nonempty key ls)
  unfolding merge_nonempty lookup or_else first_lookup
  merge_nonempty_spec [] a = record { decreasing = tt; at_key = λ k. refl }
  merge_nonempty_spec (l ∷ []) a = record {
    decreasing = reversed l [] a.0 tt tt;
    at_key = λ k. reversed_at k l [] a.0;
  }
  merge_nonempty_spec (l ∷ (m ∷ ls)) a = runs_spec (l ∷ (m ∷ ls)) (add_priorities 0 [] (l ∷ (m ∷ ls))) a (priorities_runs (l ∷ (m ∷ ls)))

  -- In whatever order the heap is built, the merge is the same.
  pub merge_any_order : (ls : List (List A)) (rs : List (Run A)) → Allˡ (Increasing key) ls → Runs ls rs
      → merge_nonempty key ls ≡ merge_aux key (total ls) (heap_from_list (run_cmp key) rs) []
  merge_any_order ls rs a h =
      let m = merge_nonempty_spec ls a in
      let n = runs_spec ls rs a h in
      sym (map-id (merge_nonempty key ls))
      ∙ decreasing_unique key (λ x. x) _ _ m.decreasing n.decreasing (λ k. ap (map (λ x. x)) (m.at_key k ∙ sym (n.at_key k)))
      ∙ map-id (merge_aux key (total ls) (heap_from_list (run_cmp key) rs) [])

  -- the theorem
  pub merge_decreasing : (ls : List (List A)) → Allˡ (Increasing key) ls
      → Decreasing key (merge_increasing_lists_rev key ls)
  unfolding merge_increasing_lists_rev
  merge_decreasing ls a = (merge_nonempty_spec (nonempty ls) (nonempty_all (Increasing key) ls a)).decreasing

  pub merge_at : (ls : List (List A)) → Allˡ (Increasing key) ls → (k : Str)
      → lookup key k (merge_increasing_lists_rev key ls) ≡ first_lookup key k ls
  unfolding merge_increasing_lists_rev lookup or_else
  merge_at ls a k = (merge_nonempty_spec (nonempty ls) (nonempty_all (Increasing key) ls a)).at_key k ∙ nonempty_at k ls

  -- ---- every element of the merge is an element of the lists
  module _ (P : A → Type 0) where
    abbrev AllRun : Run A → Type 0
    AllRun r = P (first r) × Allˡ P (rest r)

    push_all : (v : A) (acc : List A) → P v → Allˡ P acc → Allˡ P (push_nodup key v acc)
    unfolding push_nodup
    push_all v [] p a = (p, tt)
    push_all v (x ∷ l) p a = go (same (key v) (key x))
      where
        go : (b : Bool) → Allˡ P (cond b (x ∷ l) (v ∷ (x ∷ l)))
        go true = a
        go false = (p, a)

    merge_aux_all : (n : ℕ) (h : Heap (Run A)) (acc : List A) → All AllRun h → Allˡ P acc
        → Allˡ P (merge_aux key n h acc)
    unfolding merge_aux popped first rest
    merge_aux_all zero h acc a b = b
    merge_aux_all (suc n) EmptyHeap acc a b = b
    merge_aux_all (suc n) (HeapOf (run p v tl) hh) acc a b =
        merge_aux_all n (put_back key (run p v tl) (heap_merge_pairs (run_cmp key) hh)) (push_nodup key v acc)
        (rw (put_back_is (run p v tl) (heap_merge_pairs (run_cmp key) hh)) (popped_all AllRun p v tl hh (λ w ws e. subst (Allˡ P) e a.0.1) a.1))
        (push_all v acc a.0.0 b)

    priorities_all : (n : ℕ) (acc : List (Run A)) (ls : List (List A)) → Allˡ AllRun acc → Allˡ (Allˡ P) ls
        → Allˡ AllRun (add_priorities n acc ls)
    unfolding add_priorities first rest
    priorities_all n acc [] a b = a
    priorities_all n acc ([] ∷ ls) a b = priorities_all (suc n) acc ls a b.1
    priorities_all n acc ((v ∷ tl) ∷ ls) a b = priorities_all (suc n) (run n v tl ∷ acc) ls (b.0, a) b.1

    merge_nonempty_all : (ls : List (List A)) → Allˡ (Allˡ P) ls → Allˡ P (merge_nonempty key ls)
    unfolding merge_nonempty heap_from_list
    merge_nonempty_all [] a = tt
    merge_nonempty_all (l ∷ []) a = Allˡ-reverse P l [] a.0 tt
    merge_nonempty_all (l ∷ (m ∷ ls)) a =
        merge_aux_all (total (l ∷ (m ∷ ls))) (heap_from_list (run_cmp key) (add_priorities 0 [] (l ∷ (m ∷ ls)))) []
        (insert_all_all AllRun EmptyHeap (add_priorities 0 [] (l ∷ (m ∷ ls))) tt (priorities_all 0 [] (l ∷ (m ∷ ls)) tt a)) tt

    pub merge_all : (ls : List (List A)) → Allˡ (Allˡ P) ls → Allˡ P (merge_increasing_lists_rev key ls)
    unfolding merge_increasing_lists_rev
    merge_all ls a = merge_nonempty_all (nonempty ls) (nonempty_all (Allˡ P) ls a)
