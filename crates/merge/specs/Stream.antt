-- The state of a merge, and the entries that it still gives.
use Rattle.std.specs.Prelude.{ℕ, zero, suc, ◌+◌, ◌<◌, ◌≤◌, ◌≡◌, true, cond, eqb, length, get_or, Option as Answer, Some, None}
use mathlib.Core.List.{List, [], ◌∷◌, map, Memᴰ}
use Rattle.std.proofs.Math.Option.{Option, none, some}
use Rattle.source.specs.Limits.{heaviest_list}
use Rattle.source.specs.Text.{Str, starts_with}
use Rattle.source.specs.Types.{Level}
use Rattle.source.specs.Heap.{Heap, Forest, EmptyHeap, HeapOf}
use Rattle.source.specs.Lists.{Run, run}
use Rattle.source.specs.Listing.{SearchTerm}
use Rattle.source.specs.Forward.{heap_map, forest_map}
use Rattle.source.specs.Forward.{held, popped, forward}
use Rattle.source.specs.Forward.{found}
use Rattle.memory.specs.Layout.{Which, tree, list, kind, what, key_at}
use Rattle.memory.specs.Sound.{LinkOk, At}
use Rattle.merge_heads.specs.declared.Cell.{Cell}
use Rattle.merge_heads.specs.Compare.{roots, labels, heads, beginnings, Begun}
use Rattle.merge_heap.specs.Cells.{children, nexts, count, Rep}
use Rattle.find_tree.specs.Links.{branches, matches, after, BranchOf}
use Rattle.find_list.specs.Entries.{Entry, entry_key, shown, outer, Asks}
use Rattle.find_list.specs.Entries.{LabelOk}
use Rattle.merge_collect.specs.Lists.{Full}
use Rattle.merge.specs.declared.Given.{Given}
use Rattle.merge.specs.declared.Merge.{Merge}

-- The state of a merge: the cells of the heap, each with a tree, its current branch, the beginning of that one's key and its label, and the last branch given.
pub record State : Type 0 where
  pub roots : List ℕ
  pub heads : List ℕ
  pub beginnings : List ℕ
  pub labels : List ℕ
  pub child : List ℕ
  pub next : List ℕ
  pub n : ℕ
  pub root : ℕ
  pub last : Answer ℕ

-- The state of these cells.
abbrev pub state : (roots heads beginnings labels child next : List ℕ) (n root : ℕ) → Answer ℕ → State
state roots heads beginnings labels child next n root last =
    record {
      roots = roots;
      heads = heads;
      beginnings = beginnings;
      labels = labels;
      child = child;
      next = next;
      n = n;
      root = root;
      last = last;
    }

-- The state of a merge.
abbrev pub state_of : Merge → State
state_of m =
    state (roots m.cells) (heads m.cells) (beginnings m.cells) (labels m.cells) (children m.heap.links)
    (nexts m.heap.links)
    m.n m.heap.root m.last

-- The same state, but that the branch l was given last.
abbrev pub given_last : State → ℕ → State
given_last m l = state m.roots m.heads m.beginnings m.labels m.child m.next m.n m.root (Some l)

-- The same state, but with these labels.
abbrev pub labelled : List ℕ → State → State
labelled labels m = state m.roots m.heads m.beginnings labels m.child m.next m.n m.root m.last

-- What is given, but with its cell's label of these.
abbrev pub relabelled : List ℕ → Answer Given → Answer Given
relabelled labels None = None
relabelled labels (Some r) = Some (record { branch = r.branch; label = get_or labels r.cell 0; cell = r.cell })

-- What is given is of a cell, and has its cell's label of these.
abbrev pub CellLabel : List ℕ → Answer Given → Type 0
CellLabel labels None = Unit
CellLabel labels (Some r) = (r.cell < heaviest_list) × (r.label ≡ get_or labels r.cell 0)

-- The matches of a tree after a branch.
abbrev pub later : (ws txt : List ℕ) (p : Str) (root head : ℕ) → List ℕ
later ws txt p root head = after (key_at ws txt) (key_at ws txt head) (matches ws txt root p)

-- The list that the cell j stands for: its head, and the later matches of its tree.
unfoldable pub run_at : (ws txt : List ℕ) (p : Str) (roots heads labels : List ℕ) (j : ℕ) → Run Entry
run_at ws txt p roots heads labels j =
    run j (record { branch = get_or heads j 0; label = get_or labels j 0 })
    (map (λ b. record { branch = b; label = get_or labels j 0 }) (later ws txt p (get_or roots j 0) (get_or heads j 0)))

-- How many branches a cell has left, none once its tree is 0.
unfoldable pub left : (ws txt : List ℕ) (p : Str) (root head : ℕ) → ℕ
left ws txt p root head = cond (eqb root 0) 0 (suc (length (later ws txt p root head)))

-- How many the first n cells have left.
unfoldable pub remaining : (ws txt : List ℕ) (p : Str) (roots heads : List ℕ) → ℕ → ℕ
remaining ws txt p roots heads zero = 0
remaining ws txt p roots heads (suc n) =
    left ws txt p (get_or roots n 0) (get_or heads n 0) + remaining ws txt p roots heads n

-- A cell's tree, head and label, no later than the list x. The head is a branch of the tree, unless that is 0.
pub record CellOk (ws txt : List ℕ) (w : Which) (ℓ : Level) (x : ℕ) (p : Str) (root head label : ℕ) : Type 0 where
  pub root_link : LinkOk ws (x + 1) root (kind w (tree ℓ))
  pub branch : BranchOf ws w ℓ x head
  pub among : 0 < root → Memᴰ head (branches ws root)
  pub begins : starts_with (key_at ws txt head) p ≡ true
  pub label_ok : LabelOk ws w ℓ x label

-- The state has the heap h of cells of the list x. A cell in the heap has its tree.
pub record Holding (ws txt : List ℕ) (w : Which) (ℓ : Level) (x : ℕ) (p : Str) (m : State) (h : Heap ℕ) : Type 0 where
  pub here : At ws txt w (list ℓ) x
  pub few : m.n ≤ heaviest_list
  pub full : Full m.roots m.heads m.beginnings m.labels
  pub cells : (j : ℕ) → j < m.n
      → CellOk ws txt w ℓ x p (get_or m.roots j 0) (get_or m.heads j 0) (get_or m.labels j 0)
  pub begun : (j : ℕ) → j < m.n → Begun ws txt m.heads m.beginnings j
  pub rep : Rep m.n m.child m.next m.root h
  pub live : (j : ℕ) → 0 < count j h → 0 < get_or m.roots j 0

-- The lists of a heap of cells.
abbrev pub heap_of : (ws txt : List ℕ) (p : Str) (m : State) → Heap ℕ → Heap (Run Entry)
heap_of ws txt p m h = heap_map (run_at ws txt p m.roots m.heads m.labels) h

-- The last entry given, by the link of its branch, none for none yet.
abbrev pub Last : (ws : List ℕ) (w : Which) (ℓ : Level) (x : ℕ) → Answer ℕ → Option Entry → Type 0
Last ws w ℓ x None none = Unit
Last ws w ℓ x None (some e) = ⊥
Last ws w ℓ x (Some l) none = ⊥
Last ws w ℓ x (Some l) (some e) = (e.branch ≡ l) × BranchOf ws w ℓ x l

-- The state m still gives the entries es, of the list x.
pub record Rest (ws txt : List ℕ) (w : Which) (ℓ : Level) (x : ℕ) (p : Str) (m : State) (es : List Entry) : Type 0 where
  pub heap : Heap ℕ
  pub holding : Holding ws txt w ℓ x p m heap
  pub given : Option Entry
  pub last : Last ws w ℓ x m.last given
  pub fuel : ℕ
  pub enough : held (heap_of ws txt p m heap) ≤ fuel
  pub says : es ≡ forward (entry_key ws txt) fuel (heap_of ws txt p m heap) given

-- The same, of some table, level, list and entries.
pub record AnyRest (ws txt : List ℕ) (p : Str) (m : State) : Type 0 where
  pub which : Which
  pub level : Level
  pub link : ℕ
  pub entries : List Entry
  pub rest : Rest ws txt which level link p m entries

-- The cells, with some labels, still give some entries.
pub record Stands (ws txt : List ℕ) (p : Str) (m : State) : Type 0 where
  pub labels : List ℕ
  pub any : AnyRest ws txt p (labelled labels m)

-- At the start the entries show what is found.
pub record StartIn (ws txt : List ℕ) (w : Which) (ℓ : Level) (x : ℕ) (p : Str) (m : State) : Type 0 where
  pub entries : List Entry
  pub rest : Rest ws txt w ℓ x p m entries
  pub says : (term : SearchTerm) (q : Option Str) → Asks term p q
      → map outer (found (what w ws txt x (list ℓ)) term) ≡ map (shown w ws txt ℓ q) entries

-- The same, for any table and level that the list is of.
abbrev pub Starts : (ws txt : List ℕ) (x : ℕ) (p : Str) (m : State) → Type 0
Starts ws txt x p m = (w : Which) (ℓ : Level) → At ws txt w (list ℓ) x → StartIn ws txt w ℓ x p m

-- How many branches a state has left.
abbrev pub left_in : (ws txt : List ℕ) (p : Str) (m : State) → ℕ
left_in ws txt p m = remaining ws txt p m.roots m.heads m.n

-- The first entry is given, a branch of a tree of the list, and the state m' gives the rest.
pub record GivenIn (ws txt : List ℕ) (w : Which) (ℓ : Level) (x : ℕ) (p : Str) (m : State) (e : Entry) (es : List Entry)
    (r : Given) (m' : State) : Type 0 where
  pub branch_is : r.branch ≡ e.branch
  pub label_is : r.label ≡ e.label
  pub branch : BranchOf ws w ℓ x r.branch
  pub begins : starts_with (key_at ws txt r.branch) p ≡ true
  pub label_ok : LabelOk ws w ℓ x r.label
  pub rest : Rest ws txt w ℓ x p m' es
  pub fewer : left_in ws txt p m' < left_in ws txt p m

-- What a step gives of the entries, none at the end, and leaves.
abbrev pub GivesIn : (ws txt : List ℕ) (w : Which) (ℓ : Level) (x : ℕ) (p : Str) (m : State) → List Entry → Answer Given
    → State → Type 0
GivesIn ws txt w ℓ x p m [] None m' = Unit
GivesIn ws txt w ℓ x p m [] (Some r) m' = ⊥
GivesIn ws txt w ℓ x p m (e ∷ s) None m' = ⊥
GivesIn ws txt w ℓ x p m (e ∷ s) (Some r) m' = GivenIn ws txt w ℓ x p m e s r m'

-- The same, of whatever the state gives.
abbrev pub Gives : (ws txt : List ℕ) (p : Str) (m : State) → Answer Given → State → Type 0
Gives ws txt p m r m' = (w : Which) (ℓ : Level) (x : ℕ) (es : List Entry) → Rest ws txt w ℓ x p m es
    → GivesIn ws txt w ℓ x p m es r m'

-- The next entry is given, whatever the labels.
abbrev pub Steps : (ws txt : List ℕ) (p : Str) (m : State) → Answer Given → State → Type 0
Steps ws txt p m r m' = (labels : List ℕ)
    → Gives ws txt p (labelled labels m) (relabelled labels r) (labelled labels m')

-- The last branch given, once a step gives r.
abbrev pub last_after : Answer ℕ → Answer Given → Answer ℕ
last_after last None = last
last_after last (Some r) = Some r.branch

-- ---- One cell taken from the heap

-- The least cell c is taken, its branch and its label given, and the rest of its list put back.
pub record TookCell (ws txt : List ℕ) (w : Which) (ℓ : Level) (x : ℕ) (p : Str) (m m' : State) (r : Given) (c : ℕ)
    (hh : Forest ℕ) : Type 0 where
  pub below : c < m.n
  pub branch_is : r.branch ≡ get_or m.heads c 0
  pub label_is : r.label ≡ get_or m.labels c 0
  pub heap : Heap ℕ
  pub holding : Holding ws txt w ℓ x p m' heap
  pub heap_is : heap_of ws txt p m' heap
      ≡ popped (entry_key ws txt) (run_at ws txt p m.roots m.heads m.labels c)
      (forest_map (run_at ws txt p m.roots m.heads m.labels) hh)
  pub fewer : left_in ws txt p m' < left_in ws txt p m

-- What is taken of a heap: none of the empty one.
abbrev pub TookIn : (ws txt : List ℕ) (w : Which) (ℓ : Level) (x : ℕ) (p : Str) (m m' : State) → Answer Given → Heap ℕ
    → Type 0
TookIn ws txt w ℓ x p m m' None EmptyHeap = Unit
TookIn ws txt w ℓ x p m m' (Some r) EmptyHeap = ⊥
TookIn ws txt w ℓ x p m m' None (HeapOf c hh) = ⊥
TookIn ws txt w ℓ x p m m' (Some r) (HeapOf c hh) = TookCell ws txt w ℓ x p m m' r c hh

-- The same, for whatever heap the cells have. The last branch given stays.
pub record Takes (ws txt : List ℕ) (p : Str) (m m' : State) (taken : Answer Given) : Type 0 where
  pub took : (w : Which) (ℓ : Level) (x : ℕ) (h : Heap ℕ) → Holding ws txt w ℓ x p m h
      → TookIn ws txt w ℓ x p m m' taken h
  pub last_is : m'.last ≡ m.last

-- The same, for any labels. How many cells there are, their labels and the last branch given stay.
pub record TakesAll (ws txt : List ℕ) (p : Str) (m m' : State) (taken : Answer Given) : Type 0 where
  pub took : (labels : List ℕ) (w : Which) (ℓ : Level) (x : ℕ) (h : Heap ℕ)
      → Holding ws txt w ℓ x p (labelled labels m) h
      → TookIn ws txt w ℓ x p (labelled labels m) (labelled labels m') (relabelled labels taken) h
  pub label_is : CellLabel m.labels taken
  pub n_stays : m'.n ≡ m.n
  pub labels_stay : m'.labels ≡ m.labels
  pub last_is : m'.last ≡ m.last

-- The cells have some heap.
pub record CellsReady (ws txt : List ℕ) (p : Str) (m : State) : Type 0 where
  pub which : Which
  pub level : Level
  pub link : ℕ
  pub heap : Heap ℕ
  pub holding : Holding ws txt which level link p m heap

-- The cells, with some labels, have some heap.
pub record CellsStand (ws txt : List ℕ) (p : Str) (m : State) : Type 0 where
  pub labels : List ℕ
  pub which : Which
  pub level : Level
  pub link : ℕ
  pub heap : Heap ℕ
  pub holding : Holding ws txt which level link p (labelled labels m) heap

-- ---- The start

-- The merge of a list of one tree with a match shows what is found by the tree's matches.
pub record OneTree (ws txt : List ℕ) (w : Which) (ℓ : Level) (x : ℕ) (p : Str) (root label : ℕ) : Type 0 where
  pub root_link : LinkOk ws (x + 1) root (kind w (tree ℓ))
  pub label_ok : LabelOk ws w ℓ x label
  pub says : (term : SearchTerm) (q : Option Str) → Asks term p q
      → map outer (found (what w ws txt x (list ℓ)) term)
      ≡ map (shown w ws txt ℓ q) (map (λ b. record { branch = b; label = label }) (matches ws txt root p))

-- The first cell.
abbrev pub first_cell : Merge → Cell
first_cell m = get_or m.cells 0 (record { root = 0; label = 0; head = 0; beginning = 0 })

-- The merge gives what is found in the list x.
pub record Begins (ws txt : List ℕ) (p : Str) (x : ℕ) (r : Merge) : Type 0 where
  pub starts : Starts ws txt x p (state_of r)
  pub one : r.n ≡ 1 → (w : Which) (ℓ : Level) → At ws txt w (list ℓ) x
      → OneTree ws txt w ℓ x p (first_cell r).root (first_cell r).label
