-- Replacing the elements commutes with the heap's functions where the comparisons agree on the elements in play.
use Prim.Native.Nat.{Ordering}
use mathlib.Core.Path.{◌≡◌, refl, ap₂, ◌∙◌}
use mathlib.Core.Bool.{Bool, true, false, cond}
use Rattle.source.specs.Heap.{Heap, Forest, EmptyHeap, HeapOf, []ᶠ, ◌∷ᶠ◌, is_lt, heap_merge, heap_insert, heap_merge_pairs, heap_pair_up}
use Rattle.source.specs.Forward.{heap_map, forest_map}
use Rattle.source.proofs.Heap.{All, Allᶠ, All-merge, All-pairs}

module _ {A B : Type 0} (f : A → B) (cmp : A → A → Ordering) (cmp' : B → B → Ordering)
    (P : A → Type 0) (agree : (a b : A) → P a → P b → cmp' (f a) (f b) ≡ cmp a b) where
  pub map_merge : (h g : Heap A) → All P h → All P g
      → heap_merge cmp' (heap_map f h) (heap_map f g) ≡ heap_map f (heap_merge cmp h g)
  unfolding heap_merge
  map_merge EmptyHeap g p q = refl
  map_merge (HeapOf v hh) EmptyHeap p q = refl
  map_merge (HeapOf v hh) (HeapOf w gg) p q = rw (agree v w p.0 q.0) (go (is_lt (cmp v w)))
    where
      go : (b : Bool)
          → cond b (HeapOf (f v) (HeapOf (f w) (forest_map f gg) ∷ᶠ forest_map f hh))
          (HeapOf (f w) (HeapOf (f v) (forest_map f hh) ∷ᶠ forest_map f gg))
          ≡ heap_map f (cond b (HeapOf v (HeapOf w gg ∷ᶠ hh)) (HeapOf w (HeapOf v hh ∷ᶠ gg)))
      go true = refl
      go false = refl

  pub map_insert : (h : Heap A) (v : A) → All P h → P v
      → heap_insert cmp' (heap_map f h) (f v) ≡ heap_map f (heap_insert cmp h v)
  unfolding heap_insert
  map_insert h v p q = map_merge (HeapOf v []ᶠ) h (q, tt) p

  mutual
    unfolding heap_merge_pairs

    pub map_pairs : (hh : Forest A) → Allᶠ P hh
        → heap_merge_pairs cmp' (forest_map f hh) ≡ heap_map f (heap_merge_pairs cmp hh)
    map_pairs []ᶠ p = refl
    map_pairs (h ∷ᶠ hh) p = map_pair_up h hh p.0 p.1

    map_pair_up : (h : Heap A) (hh : Forest A) → All P h → Allᶠ P hh
        → heap_pair_up cmp' (heap_map f h) (forest_map f hh) ≡ heap_map f (heap_pair_up cmp h hh)
    map_pair_up h []ᶠ p q = refl
    map_pair_up h (g ∷ᶠ hh) p q =
        ap₂ (heap_merge cmp') (map_merge h g p q.0) (map_pairs hh q.1)
        ∙ map_merge (heap_merge cmp h g) (heap_merge_pairs cmp hh) (All-merge cmp P h g p q.0) (All-pairs cmp P hh q.1)

module _ {A B : Type 0} (f g : A → B) (P : A → Type 0) (same : (a : A) → P a → f a ≡ g a) where
  mutual
    -- A heap's elements alone count.
    pub map_same : (h : Heap A) → All P h → heap_map f h ≡ heap_map g h
    map_same EmptyHeap p = refl
    map_same (HeapOf v hh) p = ap₂ HeapOf (same v p.0) (map_sameᶠ hh p.1)

    pub map_sameᶠ : (hh : Forest A) → Allᶠ P hh → forest_map f hh ≡ forest_map g hh
    map_sameᶠ []ᶠ p = refl
    map_sameᶠ (h ∷ᶠ hh) p = ap₂ (λ (h : Heap B) (hh : Forest B). h ∷ᶠ hh) (map_same h p.0) (map_sameᶠ hh p.1)
