-- The listing read forward: what a merge gives in order, and the lines without an accumulator. proofs/Forward,
-- Found and Lines tie it to the source's functions.
use Rattle.std.specs.Prelude.{ℕ, zero, suc, ◌+◌, Bool, false, cond, length}
use mathlib.Core.List.{List, [], ◌∷◌, ◌++◌, map, flat_map, reverse, tail}
use Rattle.std.proofs.Math.Option.{Option, none, some}
use Rattle.source.specs.Text.{Str, Query, dot}
use Rattle.source.specs.Heap.{Heap, Forest, EmptyHeap, HeapOf, []ᶠ, ◌∷ᶠ◌, heap_merge_pairs}
use Rattle.source.specs.Lists.{Run, run, first, run_cmp, put_back}
use Rattle.source.specs.Types.{Level, Value, Tree, NameList, Trie, bind, []ᴺ, Names, ImportedNames, the_item, bindings, namespaces}
use Rattle.source.specs.Trees.{PrefixMatch, PathElem, btree_find_all, btree_find_prefix}
use Rattle.source.specs.Listing.{PathOf, SearchTerm, NSTAll, NSTNone, NSTPrefix, ns_search_term, bindings_search_term, names_find_rev_first}
use Rattle.source.specs.Table.{Line}
use Rattle.source.specs.Shared.{same, sumˡ}

-- ---- Heaps

-- A heap with each element replaced.
module _ {A B : Type 0} (f : A → B) where
  abbrev mutual
    pub heap_map : Heap A → Heap B
    heap_map EmptyHeap = EmptyHeap
    heap_map (HeapOf v hh) = HeapOf (f v) (forest_map hh)

    pub forest_map : Forest A → Forest B
    forest_map []ᶠ = []ᶠ
    forest_map (h ∷ᶠ hh) = heap_map h ∷ᶠ forest_map hh

-- The sum over a heap.
module _ {A : Type 0} where
  abbrev mutual
    pub sum : (A → ℕ) → Heap A → ℕ
    sum f EmptyHeap = 0
    sum f (HeapOf v hh) = f v + sumᶠ f hh

    pub sumᶠ : (A → ℕ) → Forest A → ℕ
    sumᶠ f []ᶠ = 0
    sumᶠ f (h ∷ᶠ hh) = sum f h + sumᶠ f hh

-- ---- A merge

-- The elements of a run after its first.
unfoldable pub rest : {A : Type 0} → Run A → List A
rest (run pr v tl) = tl

-- The elements of a run.
unfoldable pub size : {A : Type 0} → Run A → ℕ
size r = suc (length (rest r))

-- How many elements the heap's lists have.
unfoldable pub held : {A : Type 0} → Heap (Run A) → ℕ
held h = sum size h

module _ {A : Type 0} (key : A → Str) where
  -- x has the key of the last one given.
  unfoldable pub again : A → Option A → Bool
  again x none = false
  again x (some y) = same (key x) (key y)

  -- The heap without its least element.
  abbrev pub popped : Run A → Forest (Run A) → Heap (Run A)
  popped r hh = put_back key r (heap_merge_pairs (run_cmp key) hh)

  -- What the heap still gives, in order, after last.
  unfoldable pub forward : ℕ → Heap (Run A) → Option A → List A
  forward zero h last = []
  forward (suc n) EmptyHeap last = []
  forward (suc n) (HeapOf r hh) last =
      cond (again (first r) last) (forward n (popped r hh) last) (first r ∷ forward n (popped r hh) (some (first r)))

-- ---- What is found in a list

module _ {A : Type 0} where
  -- The matches of one tree.
  unfoldable pub tree_matches : {ℓ : Level} → SearchTerm → Tree A ℓ → List (PrefixMatch × Value A ℓ)
  tree_matches NSTAll bt = btree_find_all none bt
  tree_matches NSTNone bt = []
  tree_matches (NSTPrefix []) bt = btree_find_all (some []) bt
  tree_matches (NSTPrefix (c ∷ p)) bt = btree_find_prefix bt (c ∷ p)

module _ {A : Type 0} {ℓ : Level} where
  -- The trees of a list with their imports, the innermost first, in flattened order.
  unfoldable pub flat_in : List Str → NameList A ℓ → List (List Str × Tree A ℓ)
  flat_in imports []ᴺ = []
  flat_in imports (Names bt tl) = (imports, bt) ∷ flat_in imports tl
  flat_in imports (ImportedNames label inner tl) = flat_in (label ∷ imports) inner ++ flat_in imports tl

  abbrev pub flat : NameList A ℓ → List (List Str × Tree A ℓ)
  flat nl = flat_in [] nl

  -- What is found, ascending: of each key the row of its first holder.
  unfoldable pub found : NameList A ℓ → SearchTerm → List (PathElem × Value A ℓ)
  found nl term = reverse (names_find_rev_first nl term)

-- ---- Lines

-- The keys of a path, outermost first, each with a dot after it.
unfoldable pub base : PathOf → Str
base [] = []
base (el ∷ path) = base path ++ (el.segment.completion ++ (dot ∷ []))

module _ {A : Type 0} where
  -- The path and the item of a found binding.
  abbrev pub line : PathOf → PathElem × Value A bind → PathOf × A
  line path x = (reverse (x.0 ∷ path), the_item x.1)

  -- The listing of a trie, in order.
  unfoldable pub lines : ℕ → Trie A → PathOf → Query → List (PathOf × A)
  lines zero tr path q = []
  lines (suc n) tr path q =
      map (line path) (found (bindings tr) (bindings_search_term q))
      ++ flat_map (λ x. lines n x.1 (x.0 ∷ path) (tail q)) (found (namespaces tr) (ns_search_term q))

  -- What is made of each path and item, one after another.
  unfoldable pub made : {B : Type 0} → (PathOf × A → List B) → ℕ → Trie A → PathOf → Query → List B
  made mk n tr path q = flat_map mk (lines n tr path q)

  -- The tries entered from a trie: itself, and those entered from each row of its namespaces.
  unfoldable pub entered : ℕ → Trie A → Query → ℕ
  entered zero tr q = 0
  entered (suc n) tr q =
      suc (sumˡ (λ x. entered n x.1 (tail q)) (names_find_rev_first (namespaces tr) (ns_search_term q)))

  -- The line of a path and its item, none where the item does not pass.
  unfoldable pub kept_line : (PathOf × A → Line A) → (A → Bool) → PathOf × A → List (Line A)
  kept_line result keep x = cond (keep x.1) (result x ∷ []) []
