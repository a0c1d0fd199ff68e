-- List functions, as in the source: push_nodup, add_priorities and merge_increasing_lists_rev.
use Prim.Native.Nat.{ℕ, zero, suc, ◌+◌, compare, Ordering}
use Rattle.std.specs.Prelude.{cond, List, [], ◌∷◌, reverse, length}
use Rattle.std.proofs.Math.Dec.{compare_is_eq}
use Rattle.source.specs.Text.{Str, then, string_compare}
use Rattle.source.specs.Heap.{Heap, EmptyHeap, HeapOf, heap_insert, heap_merge_pairs, heap_from_list}

-- The source's (pr, v :: tl). Its (pr, []) is never met: proofs/Impossible.antt.
pub data Run (A : Type 0) : Type 0 where
  run : ℕ → A → List A → Run A

unfoldable pub first : {A : Type 0} → Run A → A
first (run pr v tl) = v

unfoldable pub priority : {A : Type 0} → Run A → ℕ
priority (run pr v tl) = pr

-- List.filter (fun x -> x <> [])
unfoldable pub nonempty : {A : Type 0} → List (List A) → List (List A)
nonempty [] = []
nonempty ([] ∷ ls) = nonempty ls
nonempty ((v ∷ tl) ∷ ls) = (v ∷ tl) ∷ nonempty ls

-- Called on lists that are not empty: the second clause is never met.
unfoldable pub add_priorities : {A : Type 0} → ℕ → List (Run A) → List (List A) → List (Run A)
add_priorities n acc [] = acc
add_priorities n acc ([] ∷ ls) = add_priorities (suc n) acc ls
add_priorities n acc ((v ∷ tl) ∷ ls) = add_priorities (suc n) (run n v tl ∷ acc) ls

-- How many elements the lists have.
unfoldable pub total : {A : Type 0} → List (List A) → ℕ
total [] = 0
total (xs ∷ xss) = length xs + total xss

module _ {A : Type 0} (key_fn : A → Str) where
  unfoldable pub push_nodup : A → List A → List A
  push_nodup x [] = x ∷ []
  push_nodup x (y ∷ ys) = cond (compare_is_eq (string_compare (key_fn x) (key_fn y))) (y ∷ ys) (x ∷ (y ∷ ys))

  -- cmp: by key, then by the sign of pr1 - pr2.
  unfoldable pub run_cmp : Run A → Run A → Ordering
  run_cmp r₁ r₂ = then (string_compare (key_fn (first r₁)) (key_fn (first r₂))) (compare (priority r₁) (priority r₂))

  -- What aux goes on with: the popped list's tail, if any, put back into the heap.
  unfoldable pub put_back : Run A → Heap (Run A) → Heap (Run A)
  put_back (run pr v []) h = h
  put_back (run pr v (w ∷ tl)) h = heap_insert run_cmp h (run pr w tl)

  -- aux. Each call takes one element, so the number of elements is fuel enough: proofs/Fuel.antt.
  unfoldable pub merge_aux : ℕ → Heap (Run A) → List A → List A
  merge_aux zero lists acc = acc
  merge_aux (suc n) EmptyHeap acc = acc
  merge_aux (suc n) (HeapOf r hh) acc =
      merge_aux n (put_back r (heap_merge_pairs run_cmp hh)) (push_nodup (first r) acc)

  -- The source's last match, on the filtered lists.
  unfoldable pub merge_nonempty : List (List A) → List A
  merge_nonempty [] = []
  merge_nonempty (xs ∷ []) = reverse xs
  merge_nonempty (xs ∷ (ys ∷ xss)) =
      merge_aux (total (xs ∷ (ys ∷ xss))) (heap_from_list run_cmp (add_priorities 0 [] (xs ∷ (ys ∷ xss)))) []

  unfoldable pub merge_increasing_lists_rev : List (List A) → List A
  merge_increasing_lists_rev lists = merge_nonempty (nonempty lists)
