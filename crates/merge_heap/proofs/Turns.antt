-- The turns of the loops of merge_pairs, in the links.
use Prim.Native.Nat.{ℕ, ◌≤◌, ◌<◌, Ordering}
use mathlib.Core.Path.{◌≡◌, sym, ap, ◌∙◌}
use mathlib.Core.List.{List}
use lib.ListN.{get_or}
use Rattle.source.specs.Heap.{Heap}
use Rattle.merge_heap.specs.declared.Links.{Links}
use Rattle.merge_heap.specs.Cells.{children, nexts, Merges}
use Rattle.merge_heap.proofs.LinkLists.{none, with_next, next_at, next_set, next_kept}
use Rattle.merge_heap.proofs.HeapMergePairs.{siblings, Held, held_next, Pairing, Merging, odd_one, pair_up, merge_on}

module _ {cmp : ℕ → ℕ → Ordering} {n : ℕ} {child next : List ℕ} {all : Heap ℕ} (few : n ≤ 96) (links : List Links)
    {stack at k : ℕ}
    (w : Pairing cmp n child next all (children links) (nexts links) stack at) (ne : at ≡ 96 → ⊥)
    (k_is : k ≡ (get_or links at none).next) where
  k_next : k ≡ get_or (nexts links) at 0
  k_next = k_is ∙ sym (next_at links at)

  -- The next one is in the cells too.
  pub second : Held n (children links) (nexts links) k
  second = rw k_next (held_next few w.rest ne)

  -- It is none.
  pub odd : k ≡ 96
      → Pairing cmp n child next all (children (with_next links at stack)) (nexts (with_next links at stack)) at 96
  odd e = rw (next_kept links at stack, next_set links at stack) (odd_one few w.rest.0 w.rest.1 w.stage ne (sym k_next ∙ e))

  -- The two are merged.
  module _ (nk : k ≡ 96 → ⊥) (links' : List Links) {m rest : ℕ}
      (merges : Merges cmp n (children links) (nexts links) (children links') (nexts links') m at k)
      (rest_is : rest ≡ (get_or links k none).next) where
    pub paired : (m < n)
        × Pairing cmp n child next all (children (with_next links' m stack)) (nexts (with_next links' m stack)) m rest
        × (siblings 96 (nexts (with_next links' m stack)) rest < siblings 96 (nexts links) at)
    paired =
        let rest_next : rest ≡ get_or (nexts links) (get_or (nexts links) at 0) 0 =
        rest_is ∙ sym (next_at links k) ∙ ap (λ (i : ℕ). get_or (nexts links) i 0) k_next in
        rw (next_kept links' m stack, next_set links' m stack, rest_next)
        (pair_up few w.rest.0 w.rest.1 w.stage ne (λ z. nk (k_next ∙ z)) (rw k_next at merges))

-- The heap of the stack's root is merged with what is merged.
pub onward : {cmp : ℕ → ℕ → Ordering} {n : ℕ} {child next : List ℕ} {all : Heap ℕ} → n ≤ 96
    → (links links' : List Links) {stack r m below : ℕ}
    → Merging cmp n child next all (children links) (nexts links) stack r → (stack ≡ 96 → ⊥)
    → Merges cmp n (children links) (nexts links) (children links') (nexts links') m stack r
    → below ≡ (get_or links stack none).next
    → Merging cmp n child next all (children links') (nexts links') below m
    × (siblings 96 (nexts links') below < siblings 96 (nexts links) stack)
onward few links links' {stack = stack} v ne merges e = rw (e, ← next_at links stack) (merge_on few v ne merges)
