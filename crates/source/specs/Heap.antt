-- (Pairing) min-heaps, as in the source. A comparison answers by its sign.
use Prim.Native.Nat.{Ordering}
use Rattle.std.specs.Prelude.{Bool, true, false, cond, List, [], ◌∷◌}
use Rattle.std.proofs.Math.Option.{Option, none, some}

mutual
  -- heap 'a; HeapOf is the source's Heap.
  pub data Heap (A : Type 0) : Type 0 where
    EmptyHeap : Heap A
    HeapOf : A → Forest A → Heap A

  -- list (heap 'a)
  pub data Forest (A : Type 0) : Type 0 where
    []ᶠ : Forest A
    ◌∷ᶠ◌ : Heap A → Forest A → Forest A

infixr 67 ◌∷ᶠ◌
-- cmp v1 v2 < 0
unfoldable pub is_lt : Ordering → Bool
is_lt Ordering.lt = true
is_lt Ordering.eq = false
is_lt Ordering.gt = false

module _ {A : Type 0} (cmp : A → A → Ordering) where
  unfoldable pub heap_merge : Heap A → Heap A → Heap A
  heap_merge EmptyHeap h = h
  heap_merge (HeapOf v₁ hh₁) EmptyHeap = HeapOf v₁ hh₁
  heap_merge (HeapOf v₁ hh₁) (HeapOf v₂ hh₂) =
      cond (is_lt (cmp v₁ v₂)) (HeapOf v₁ (HeapOf v₂ hh₂ ∷ᶠ hh₁)) (HeapOf v₂ (HeapOf v₁ hh₁ ∷ᶠ hh₂))

  unfoldable pub heap_insert : Heap A → A → Heap A
  heap_insert h v = heap_merge (HeapOf v []ᶠ) h

  unfoldable mutual
    pub heap_merge_pairs : Forest A → Heap A
    heap_merge_pairs []ᶠ = EmptyHeap
    heap_merge_pairs (h ∷ᶠ hh) = heap_pair_up h hh

    -- heap_merge_pairs (h :: hh), by the cases of hh
    pub heap_pair_up : Heap A → Forest A → Heap A
    heap_pair_up h []ᶠ = h
    heap_pair_up h (h₂ ∷ᶠ hh) = heap_merge (heap_merge h h₂) (heap_merge_pairs hh)

  unfoldable pub heap_pop : Heap A → Option (A × Heap A)
  heap_pop EmptyHeap = none
  heap_pop (HeapOf v hh) = some (v, heap_merge_pairs hh)

  -- List.fold_left (heap_insert cmp)
  unfoldable pub heap_insert_all : Heap A → List A → Heap A
  heap_insert_all h [] = h
  heap_insert_all h (v ∷ vs) = heap_insert_all (heap_insert h v) vs

  unfoldable pub heap_from_list : List A → Heap A
  heap_from_list vs = heap_insert_all EmptyHeap vs
