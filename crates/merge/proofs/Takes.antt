-- One cell taken from the heap: its list is at its end, or is put back from its next match on.
use Prim.Native.Nat.{ℕ, ◌≤◌, ◌<◌}
use mathlib.Core.Path.{◌≡◌, refl, sym, ap, ◌∙◌, subst}
use mathlib.Core.Bool.{true}
use mathlib.Core.List.{List, [], Memᴰ}
use native.Mathlib.Omega.{arith}
use native.Mathlib.Decide.{ℕ_discrete}
use lib.ListN.{length, get_or, set, length-set}
use lib.Seq.{get_or-set_same, get_or-set_other}
use borrow.Author.Tests.{ne_eqb}
use Rattle.source.specs.Text.{Str, starts_with}
use Rattle.source.specs.Types.{Level}
use Rattle.source.specs.Heap.{Heap, Forest, EmptyHeap, HeapOf, []ᶠ, heap_insert, heap_merge_pairs, heap_pop}
use Rattle.source.specs.Lists.{Run, put_back, run_cmp}
use Rattle.source.specs.Forward.{heap_map, forest_map}
use Rattle.source.proofs.Heap.{sum_merge, sum_pairs}
use Rattle.source.specs.Forward.{popped}
use Rattle.memory.specs.Layout.{Which, key_at}
use Rattle.memory.specs.Read.{TextIn}
use Rattle.merge_heads.specs.Compare.{Head, with_beginning, cell_cmp}
use Rattle.merge_heap.specs.Cells.{Root, is, count, Rep, Makes, Inserts, Pops}
use Rattle.std.specs.Prelude.{Option, Some, None}
use Rattle.merge_heap.proofs.CellCounts.{root_in, rep_below, all_counted, is_self, is_other}
use Rattle.merge_heads.proofs.Heads.{head_begun}
use Rattle.merge_heap.proofs.HeapMap.{map_same}
use Rattle.merge_heap.proofs.Rep.{stands_pairs, stands_insert}
use Rattle.find_tree.specs.Tree.{AnyTree}
use Rattle.find_tree.specs.Links.{branches, BranchOf}
use Rattle.std.specs.Prelude.{slice_get}
use Rattle.merge_collect.proofs.Collected.{no_first}
use Rattle.find_list.specs.Entries.{Entry, entry_key}
use Rattle.merge.specs.Stream.{later, run_at, left, Holding, State, state, labelled, relabelled, CellLabel, TookCell, TookIn, TakesAll, CellsReady, CellsStand}
use Rattle.merge.specs.declared.Given.{Given}
use Rattle.merge.proofs.Cells.{Next, later_next, branch_head, cell_tree, next_branch, cell_stands, remaining_less}
use Rattle.memory.proofs.At.{no_link}

-- A cell's lists before and after a change of another cell.
run_same : (ws txt : List ℕ) (p : Str) (roots heads roots' heads' labels : List ℕ) (j : ℕ)
    → get_or roots j 0 ≡ get_or roots' j 0 → get_or heads j 0 ≡ get_or heads' j 0
    → run_at ws txt p roots heads labels j ≡ run_at ws txt p roots' heads' labels j
unfolding run_at
run_same ws txt p roots heads roots' heads' labels j e f = rw (e, f)

module _ {ws txt : List ℕ} {w : Which} {ℓ : Level} {x : ℕ} {p : Str} {m : State} {c : ℕ} {hh : Forest ℕ}
    (g : Holding ws txt w ℓ x p m (HeapOf c hh)) where
  abbrev val : ℕ → Run Entry
  val = run_at ws txt p m.roots m.heads m.labels

  abbrev others : Heap ℕ
  others = heap_merge_pairs (cell_cmp ws txt m.heads) hh

  below : c < m.n
  below = g.rep.holds.1

  free : count c others ≡ 0
  free = omega (arith, sum_pairs (cell_cmp ws txt m.heads) (is c) hh, is_self c, g.rep.once c)

  not_c : (j : ℕ) → 0 < count j others → j ≡ c → ⊥
  not_c j l e = omega (arith, free, ap (λ (k : ℕ). count k others) e)

  live_still : (j : ℕ) → 0 < count j others → 0 < get_or m.roots j 0
  live_still j l = g.live j (omega (arith, sum_pairs (cell_cmp ws txt m.heads) (is j) hh))

  popped_is : popped (entry_key ws txt) (val c) (forest_map val hh)
      ≡ put_back (entry_key ws txt) (val c) (heap_map val others)
  popped_is =
      ap (put_back (entry_key ws txt) (val c))
      (stands_pairs (entry_key ws txt) ws txt m.heads m.n val (λ j l. cell_stands ws txt p m.roots m.heads m.labels j) hh
      (rep_below m.n m.child m.next g.few g.rep).1)

  -- Its list is at its end.
  module _ (rest : ℕ) (child' next' : List ℕ) (made : Makes m.n m.child m.next child' next' rest others)
      (e : later ws txt p (get_or m.roots c 0) (get_or m.heads c 0) ≡ []) where
    val_end : put_back (entry_key ws txt) (val c) (heap_map val others) ≡ heap_map val others
    unfolding run_at put_back
    val_end = rw e

    took_last : TookCell ws txt w ℓ x p m
        (state (set m.roots c 0) m.heads m.beginnings m.labels child' next' m.n rest m.last)
        (record { branch = get_or m.heads c 0; label = get_or m.labels c 0; cell = c }) c hh
    unfolding left
    took_last = record {
      below = below;
      branch_is = refl;
      label_is = refl;
      heap = others;
      holding = record {
        here = g.here;
        few = g.few;
        full = record {
          of_roots = length-set m.roots c 0 ∙ g.full.of_roots;
          of_heads = g.full.of_heads;
          of_beginnings = g.full.of_beginnings;
          of_labels = g.full.of_labels;
        };
        cells = λ j l.
            let k = g.cells j l in
            record {
              root_link = elim (ℕ_discrete j c) [
                | yes q ↦ rw (q, get_or-set_same m.roots c 0 0 (omega (arith, g.few, g.full.of_roots))) (no_link x _)
                | no ne ↦ rw (get_or-set_other m.roots c j 0 0 ne) k.root_link
              ];
              branch = k.branch;
              among = elim (ℕ_discrete j c) [
                | yes q ↦ λ z. absurd
                    (omega (arith, get_or-set_same m.roots c 0 0 (omega (arith, g.few, g.full.of_roots)), ap (λ (i : ℕ). get_or (set m.roots c 0) i 0) q))
                | no ne ↦ rw (get_or-set_other m.roots c j 0 0 ne) k.among
              ];
              begins = k.begins;
              label_ok = k.label_ok;
            };
        begun = g.begun;
        rep = made.rep;
        live = λ j l. rw (get_or-set_other m.roots c j 0 0 (not_c j l)) (live_still j l);
      };
      heap_is = sym (popped_is ∙ val_end
          ∙ map_same val (run_at ws txt p (set m.roots c 0) m.heads m.labels) (λ j. j ≡ c → ⊥)
          (λ j ne. run_same ws txt p m.roots m.heads (set m.roots c 0) m.heads m.labels j (sym (get_or-set_other m.roots c j 0 0 ne)) refl)
          others (all_counted (λ j. j ≡ c → ⊥) others not_c));
      fewer = remaining_less ws txt p m.roots m.heads (set m.roots c 0) m.heads c (λ j l ne. (get_or-set_other m.roots c j 0 0 ne, refl)) m.n g.few below
          (rw (
            get_or-set_same m.roots c 0 0 (omega (arith, below, g.few, g.full.of_roots)),
            ne_eqb (get_or m.roots c 0) 0 (λ z. omega (arith, g.live c (omega (arith, is_self c)))),
          )
          (omega arith));
    }

  -- It goes on with the branch r.
  module _ (r : ℕ) (next_match : Next (cell_tree g c below) p (get_or m.heads c 0) r) (rest top : ℕ)
      (child' next' child'' next'' : List ℕ) (made : Makes m.n m.child m.next child' next' rest others)
      (inserted : Inserts (cell_cmp ws txt (set m.heads c r)) m.n child' next' child'' next'' top rest c) where
    abbrev val' : ℕ → Run Entry
    val' = run_at ws txt p m.roots (set m.heads c r) m.labels

    small : c < 96
    small = omega (arith, below, g.few)

    head_set : get_or (set m.heads c r) c 0 ≡ r
    head_set = get_or-set_same m.heads c r 0 (omega (arith, small, g.full.of_heads))

    head_other : (j : ℕ) → (j ≡ c → ⊥) → get_or (set m.heads c r) j 0 ≡ get_or m.heads j 0
    head_other j ne = get_or-set_other m.heads c j r 0 ne

    val_next : put_back (entry_key ws txt) (val c) (heap_map val others)
        ≡ heap_insert (run_cmp (entry_key ws txt)) (heap_map val others) (val' c)
    unfolding run_at put_back
    val_next = rw (next_match.is_next, head_set)

    took_next : TookCell ws txt w ℓ x p m
        (state m.roots (set m.heads c r)
        (with_beginning ws txt m.beginnings c r) m.labels child'' next'' m.n top m.last)
        (record { branch = get_or m.heads c 0; label = get_or m.labels c 0; cell = c }) c hh
    unfolding left heap_insert
    took_next =
        let q = inserted others made.rep free in
        record {
          below = below;
          branch_is = refl;
          label_is = refl;
          heap = heap_insert (cell_cmp ws txt (set m.heads c r)) others c;
          holding = record {
            here = g.here;
            few = g.few;
            full = record {
              of_roots = g.full.of_roots;
              of_heads = length-set m.heads c r ∙ g.full.of_heads;
              of_beginnings = length-set m.beginnings c _ ∙ g.full.of_beginnings;
              of_labels = g.full.of_labels;
            };
            cells = λ j l.
                let k = g.cells j l in
                record {
                  root_link = k.root_link;
                  branch = elim (ℕ_discrete j c) [
                    | yes q ↦ rw (q, head_set) (next_branch g below next_match)
                    | no ne ↦ rw (head_other j ne) k.branch
                  ];
                  among = elim (ℕ_discrete j c) [
                    | yes q ↦ rw (q, head_set) (λ z. next_match.match.among)
                    | no ne ↦ rw (head_other j ne) k.among
                  ];
                  begins = elim (ℕ_discrete j c) [
                    | yes q ↦ rw (q, head_set) next_match.match.begins
                    | no ne ↦ rw (head_other j ne) k.begins
                  ];
                  label_ok = k.label_ok;
                };
            begun = λ j l. head_begun ws txt m.heads m.beginnings c r (omega (arith, small, g.full.of_heads))
                (omega (arith, small, g.full.of_beginnings)) j
                (λ ne. g.begun j l);
            rep = q.rep;
            live = λ j l. elim (ℕ_discrete j c) [
              | yes q ↦ rw q (g.live c (omega (arith, is_self c)))
              | no ne ↦ live_still j (omega (
                arith,
                sum_merge (cell_cmp ws txt (set m.heads c r)) (is j) (HeapOf c []ᶠ) others,
                is_other j c ne,
              ))
            ];
          };
          heap_is = sym (popped_is ∙ val_next
              ∙ stands_insert (entry_key ws txt) ws txt (set m.heads c r) m.n val'
              (λ j l. cell_stands ws txt p m.roots (set m.heads c r) m.labels j) val c below
              (λ j l ne. run_same ws txt p m.roots m.heads m.roots (set m.heads c r) m.labels j refl
              (sym (head_other j ne)))
              others (rep_below m.n child' next' g.few made.rep) free);
          fewer = remaining_less ws txt p m.roots m.heads m.roots (set m.heads c r) c
              (λ j l ne. (refl, get_or-set_other m.heads c j r 0 ne)) m.n g.few below
              (rw (head_set, ne_eqb (get_or m.roots c 0) 0 (λ z. omega (arith, g.live c (omega (arith, is_self c)))))
              (omega (arith, ap length next_match.is_next)));
        }

-- ---- What take answers
module _ {ws txt : List ℕ} {p : Str} {m : State} {child' next' : List ℕ} where
  pub takes_none : {r : ℕ} → Pops (cell_cmp ws txt m.heads) m.n m.child m.next child' next' m.root r None
      → TakesAll ws txt p m (state m.roots m.heads m.beginnings m.labels child' next' m.n r m.last) None
  unfolding heap_pop
  takes_none {r} pop = record {
    took = λ labels w v x h g. go labels w v x h g.rep;
    label_is = tt;
    n_stays = refl;
    labels_stay = refl;
    last_is = refl;
  }
    where
      go : (labels : List ℕ) (w : Which) (ℓ : Level) (x : ℕ) (h : Heap ℕ) → Rep m.n m.child m.next m.root h
          → TookIn ws txt w ℓ x p (labelled labels m)
          (state m.roots m.heads m.beginnings labels child' next' m.n r m.last) None h
      go labels w ℓ x EmptyHeap s = tt
      go labels w ℓ x (HeapOf c hh) s = absurd (pop (HeapOf c hh) s)

  module _ {cell rest : ℕ} {m' : State} {taken : Given}
      (pop : Pops (cell_cmp ws txt m.heads) m.n m.child m.next child' next' m.root rest (Some cell)) where
    takes_some : CellLabel m.labels (Some taken) → m'.n ≡ m.n → m'.labels ≡ m.labels → m'.last ≡ m.last
        → ((labels : List ℕ) (w : Which) (ℓ : Level) (x c : ℕ) (hh : Forest ℕ)
        (g : Holding ws txt w ℓ x p (labelled labels m) (HeapOf c hh))
        → cell ≡ c → Makes m.n m.child m.next child' next' rest (others g)
        → TookCell ws txt w ℓ x p (labelled labels m) (labelled labels m')
        (record { branch = taken.branch; label = get_or labels taken.cell 0; cell = taken.cell }) c hh)
        → TakesAll ws txt p m m' (Some taken)
    unfolding heap_pop
    takes_some i n l e f = record { took = go; label_is = i; n_stays = n; labels_stay = l; last_is = e }
      where
        go : (labels : List ℕ) (w : Which) (ℓ : Level) (x : ℕ) (h : Heap ℕ)
            → Holding ws txt w ℓ x p (labelled labels m) h
            → TookIn ws txt w ℓ x p (labelled labels m) (labelled labels m')
            (relabelled labels (Some taken)) h
        go labels w ℓ x EmptyHeap g = absurd (pop EmptyHeap g.rep)
        go labels w ℓ x (HeapOf c hh) g = let q = pop (HeapOf c hh) g.rep in f labels w ℓ x c hh g q.0 q.1

-- ---- What take answers, and what its calls ask, once the heap gave the cell

pub record Least-cell (ws txt : List ℕ) (p : Str) (m : State) (child' next' : List ℕ) (cell rest : ℕ) : Type 0 where
  pub ready : CellsReady ws txt p m
  pub pops : Pops (cell_cmp ws txt m.heads) m.n m.child m.next child' next' m.root rest (Some cell)

-- The same, of what the heap answered.
pub least_cell : {ws txt : List ℕ} {p : Str} {m : State} {cell rest : ℕ} {child' next' : List ℕ}
    {o : Option ℕ} → CellsReady ws txt p m → o ≡ Some cell
    → Pops (cell_cmp ws txt m.heads) m.n m.child m.next child' next' m.root rest o
    → Least-cell ws txt p m child' next' cell rest
least_cell {ws} {txt} {p} {m} {cell} {rest} {child'} {next'} {o} y e f =
    record {
      ready = y;
      pops = subst (λ (r : Option ℕ). Pops (cell_cmp ws txt m.heads) m.n m.child m.next child' next' m.root rest r) e f;
    }

module _ {ws txt : List ℕ} {p : Str} {m : State} {cell rest : ℕ} {child' next' : List ℕ}
    (k : Least-cell ws txt p m child' next' cell rest) where
  abbrev y : CellsReady ws txt p m
  y = k.ready

  abbrev g : Holding ws txt y.which y.level y.link p m y.heap
  g = y.holding

  popped_cell : (cell < m.n) × ((rest ≡ 96 → ⊥) → rest < m.n) × (0 < get_or m.roots cell 0)
  unfolding heap_pop
  popped_cell = go y.heap g.rep g.live
    where
      go : (h : Heap ℕ) → Rep m.n m.child m.next m.root h → ((j : ℕ) → 0 < count j h → 0 < get_or m.roots j 0)
          → (cell < m.n) × ((rest ≡ 96 → ⊥) → rest < m.n) × (0 < get_or m.roots cell 0)
      go EmptyHeap s l = absurd (k.pops EmptyHeap s)
      go (HeapOf c hh) s l = let q = k.pops (HeapOf c hh) s in
          rw q.0 (s.holds.1, root_in m.n child' next' g.few q.1.rep, l c (omega (arith, is_self c)))

  pub cell_small : cell < 96
  cell_small = omega (arith, popped_cell.0, g.few)

  pub next_asks : AnyTree ws txt (get_or m.roots cell 0)
      × (Memᴰ (get_or m.heads cell 0) (branches ws (get_or m.roots cell 0))
      × (starts_with (key_at ws txt (get_or m.heads cell 0)) p ≡ true))
  next_asks =
      let j = g.cells cell popped_cell.0 in
      (record { which = y.which; level = y.level; tree = cell_tree g cell popped_cell.0 }, (j.among popped_cell.2, j.begins))

  module _ {r : ℕ} (e : Some r ≡ slice_get (later ws txt p (get_or m.roots cell 0) (get_or m.heads cell 0)) 0) where
    pub next_in : TextIn ws txt r × (cell < 96)
    next_in = let l = popped_cell.0 in (branch_head g.here (next_branch g l (later_next (cell_tree g cell l) p (get_or m.heads cell 0) r e)), cell_small)

    -- The cells have heads, once this one has its next.
    next_heads : (j : ℕ) → j < m.n → Head ws txt (set m.heads cell r) (with_beginning ws txt m.beginnings cell r) j
    next_heads j i =
        let l = popped_cell.0 in
        let found = later_next (cell_tree g cell l) p (get_or m.heads cell 0) r e in
        let inside : cell < length m.heads = omega (arith, cell_small, g.full.of_heads) in
        let branch : BranchOf ws y.which y.level y.link (get_or (set m.heads cell r) j 0) =
        elim (ℕ_discrete j cell) [
          | yes q ↦ rw (q, get_or-set_same m.heads cell r 0 inside) (next_branch g l found)
          | no q ↦ rw (get_or-set_other m.heads cell j r 0 q) (g.cells j i).branch
        ] in
        record {
          small = omega (arith, g.few);
          text_in = branch_head g.here branch;
          begun = head_begun ws txt m.heads m.beginnings cell r inside
              (omega (arith, cell_small, g.full.of_beginnings)) j (λ _. g.begun j i);
        }

    pub insert_asks : Root ws txt (set m.heads cell r) (with_beginning ws txt m.beginnings cell r) rest
        × Head ws txt (set m.heads cell r) (with_beginning ws txt m.beginnings cell r) cell
    insert_asks = ((λ k. next_heads rest (popped_cell.1 k)), next_heads cell popped_cell.0)

-- ---- The same, with some labels

-- The cells are ready with their labels.
pub ready_at : {ws txt : List ℕ} {p : Str} {m : State} (y : CellsStand ws txt p m)
    → CellsReady ws txt p (labelled y.labels m)
ready_at y = record { which = y.which; level = y.level; link = y.link; heap = y.heap; holding = y.holding }

-- The heap gave the cell, and the cells stand.
pub record LeastStand (ws txt : List ℕ) (p : Str) (m : State) (child' next' : List ℕ) (cell rest : ℕ) : Type 0 where
  pub ready : CellsStand ws txt p m
  pub pops : Pops (cell_cmp ws txt m.heads) m.n m.child m.next child' next' m.root rest (Some cell)

-- With their labels.
pub least_at : {ws txt : List ℕ} {p : Str} {m : State} {child' next' : List ℕ} {cell rest : ℕ}
    (s : LeastStand ws txt p m child' next' cell rest)
    → Least-cell ws txt p (labelled s.ready.labels m) child' next' cell rest
least_at s = record { ready = ready_at s.ready; pops = s.pops }

-- The same, of what the heap answered.
pub least_stand : {ws txt : List ℕ} {p : Str} {m : State} {cell rest : ℕ} {child' next' : List ℕ}
    {o : Option ℕ} → CellsStand ws txt p m → o ≡ Some cell
    → Pops (cell_cmp ws txt m.heads) m.n m.child m.next child' next' m.root rest o
    → LeastStand ws txt p m child' next' cell rest
least_stand {m = m} y e f = record { ready = y; pops = (least_cell {m = labelled y.labels m} (ready_at y) e f).pops }

module _ {ws txt : List ℕ} {p : Str} {m : State} {cell rest : ℕ} {child' next' : List ℕ}
    (s : LeastStand ws txt p m child' next' cell rest) where
  abbrev k : Least-cell ws txt p (labelled s.ready.labels m) child' next' cell rest
  k = least_at s

  pub takes_last : None ≡ slice_get (later ws txt p (get_or m.roots cell 0) (get_or m.heads cell 0)) 0
      → TakesAll ws txt p m (state (set m.roots cell 0) m.heads m.beginnings m.labels child' next' m.n rest m.last)
      (Some (record { branch = get_or m.heads cell 0; label = get_or m.labels cell 0; cell = cell }))
  takes_last e =
      takes_some s.pops (cell_small k, refl) refl refl refl
      (λ labels w v x c hh g q made.
      rw q (took_last g rest child' next' made (no_first (later ws txt p (get_or m.roots c 0) (get_or m.heads c 0)) (rw q at e))))

  module _ {r : ℕ} (e : Some r ≡ slice_get (later ws txt p (get_or m.roots cell 0) (get_or m.heads cell 0)) 0) where
    pub takes_next : {top : ℕ} {child'' next'' : List ℕ}
        → ((n : ℕ) → n ≤ 96 → cell < n
        → Inserts (cell_cmp ws txt (set m.heads cell r)) n child' next' child'' next'' top rest cell)
        → TakesAll ws txt p m
        (state m.roots (set m.heads cell r)
        (with_beginning ws txt m.beginnings cell r) m.labels child'' next'' m.n top m.last)
        (Some (record { branch = get_or m.heads cell 0; label = get_or m.labels cell 0; cell = cell }))
    takes_next {top} {child''} {next''} inserted =
        takes_some s.pops (cell_small k, refl) refl refl refl
        (λ labels w v x c hh g q made.
        rw q (took_next g r (later_next (cell_tree g c (below g)) p (get_or m.heads c 0) r (rw q at e)) rest top child' next' child'' next'' made
        (rw q at (inserted m.n k.ready.holding.few (popped_cell k).0))))
