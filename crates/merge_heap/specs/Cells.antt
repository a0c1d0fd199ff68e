-- The source's heap in cells: `child` has each cell's first child and `next` its next sibling. 96 is no cell.
use Prim.Native.Nat.{ℕ, zero, suc, ◌+◌, ◌≤◌, ◌<◌, Ordering}
use Rattle.std.specs.Prelude.{◌≡◌, cond, List, [], ◌∷◌, ◌++◌, eqb, length, map, get_or, Option as Answer, Some, None}
use Rattle.std.proofs.Math.Option.{Option, none, some}
use Rattle.source.specs.Limits.{heaviest_list}
use Rattle.source.specs.Heap.{Heap, Forest, EmptyHeap, HeapOf, []ᶠ, ◌∷ᶠ◌, heap_merge, heap_insert, heap_merge_pairs, heap_pop}
use Rattle.source.specs.Forward.{sum, sumᶠ}
use Rattle.merge_heads.specs.Compare.{Head, Heads}
use Rattle.merge_heap.specs.declared.Links.{Links}

-- The first children and the next siblings, one list for each.
abbrev pub children : List Links → List ℕ
children links = map (λ l. l.child) links

abbrev pub nexts : List Links → List ℕ
nexts links = map (λ l. l.next) links

-- A root: a cell that has a head, or none.
abbrev pub Root : (ws txt heads beginnings : List ℕ) → ℕ → Type 0
Root ws txt heads beginnings i = (i ≡ heaviest_list → ⊥) → Head ws txt heads beginnings i

module _ (n : ℕ) (child next : List ℕ) where
  abbrev mutual
    -- The heap of root i, of cells below n.
    pub Holds : ℕ → Heap ℕ → Type 0
    Holds i EmptyHeap = i ≡ heaviest_list
    Holds i (HeapOf v hh) = (i ≡ v) × (v < n) × Holdsᶠ (get_or child v 0) hh

    -- The heaps of root i and of its next siblings.
    pub Holdsᶠ : ℕ → Forest ℕ → Type 0
    Holdsᶠ i []ᶠ = i ≡ heaviest_list
    Holdsᶠ i (h ∷ᶠ hh) = (i < n) × Holds i h × Holdsᶠ (get_or next i 0) hh

-- One for the cell j.
unfoldable pub is : ℕ → ℕ → ℕ
is j v = cond (eqb j v) 1 0

-- How often the cell j is in a heap.
abbrev pub count : ℕ → Heap ℕ → ℕ
count j h = sum (is j) h

-- There are 96 of each.
pub record Sized (child next : List ℕ) : Type 0 where
  pub children : length child ≡ heaviest_list
  pub siblings : length next ≡ heaviest_list

-- The heap of root i is h, each cell once.
pub record Rep (n : ℕ) (child next : List ℕ) (i : ℕ) (h : Heap ℕ) : Type 0 where
  pub sized : Sized child next
  pub holds : Holds n child next i h
  pub once : (j : ℕ) → count j h ≤ 1

-- The heaps of root i and of its next siblings are hh, each cell once.
pub record Repᶠ (n : ℕ) (child next : List ℕ) (i : ℕ) (hh : Forest ℕ) : Type 0 where
  pub sized : Sized child next
  pub holds : Holdsᶠ n child next i hh
  pub once : (j : ℕ) → sumᶠ (is j) hh ≤ 1

-- The heap of root i is some heap of cells below some n, which have heads.
pub record AnyHeap (ws txt heads beginnings child next : List ℕ) (i : ℕ) : Type 0 where
  pub n : ℕ
  pub headed : Heads ws txt heads beginnings n
  pub heap : Heap ℕ
  pub rep : Rep n child next i heap

-- The same, of the heaps of root i and of its next siblings.
pub record AnyForest (ws txt heads beginnings child next : List ℕ) (i : ℕ) : Type 0 where
  pub n : ℕ
  pub headed : Heads ws txt heads beginnings n
  pub forest : Forest ℕ
  pub rep : Repᶠ n child next i forest

-- No cell is in both.
abbrev pub Apart : Heap ℕ → Heap ℕ → Type 0
Apart h g = (j : ℕ) → count j h + count j g ≤ 1

-- The cell j is as it was.
pub record Same (child next child' next' : List ℕ) (j : ℕ) : Type 0 where
  pub first_child : get_or child' j 0 ≡ get_or child j 0
  pub next_sibling : get_or next' j 0 ≡ get_or next j 0

-- Now r is the root of h, and every cell that is not in h is as it was.
pub record Makes (n : ℕ) (child next child' next' : List ℕ) (r : ℕ) (h : Heap ℕ) : Type 0 where
  pub rep : Rep n child' next' r h
  pub kept : (j : ℕ) → count j h ≡ 0 → Same child next child' next' j

-- What the functions give: the cells and the root r that they leave, of every heap of cells below n that they were given.
module _ (cmp : ℕ → ℕ → Ordering) (n : ℕ) (child next child' next' : List ℕ) (r : ℕ) where
  -- heap_merge, of two heaps with no cell in common.
  abbrev pub Merges : (a b : ℕ) → Type 0
  Merges a b = (h g : Heap ℕ) → Rep n child next a h → Rep n child next b g → Apart h g
      → Makes n child next child' next' r (heap_merge cmp h g)

  -- heap_insert, of a cell that is not in the heap.
  abbrev pub Inserts : (i v : ℕ) → Type 0
  Inserts i v = (h : Heap ℕ) → Rep n child next i h → count v h ≡ 0
      → Makes n child next child' next' r (heap_insert cmp h v)

  -- heap_merge_pairs.
  abbrev pub Pairs : (i : ℕ) → Type 0
  Pairs i = (hh : Forest ℕ) → Repᶠ n child next i hh → Makes n child next child' next' r (heap_merge_pairs cmp hh)

-- What heap_pop answers of the root i: none, and then nothing is changed; or the least cell, and r is the root of the rest.
abbrev pub Gives : (n : ℕ) (child next child' next' : List ℕ) (i r : ℕ) → Option (ℕ × Heap ℕ) → Answer ℕ → Type 0
Gives n child next child' next' i r none None = (child' ≡ child) × (next' ≡ next) × (r ≡ i)
Gives n child next child' next' i r none (Some w) = ⊥
Gives n child next child' next' i r (some vh) None = ⊥
Gives n child next child' next' i r (some vh) (Some w) = (w ≡ vh.0) × Makes n child next child' next' r vh.1

-- heap_pop.
abbrev pub Pops : (ℕ → ℕ → Ordering) → (n : ℕ) (child next child' next' : List ℕ) (i r : ℕ) → Answer ℕ → Type 0
Pops cmp n child next child' next' i r p = (h : Heap ℕ) → Rep n child next i h
    → Gives n child next child' next' i r (heap_pop cmp h) p

-- The cells below k, the first one first.
unfoldable pub first_cells : ℕ → List ℕ
first_cells zero = []
first_cells (suc k) = first_cells k ++ (k ∷ [])
