-- Steps of a merge: a cell with the key of the last entry is passed over, another gives the next entry.
use Prim.Native.Nat.{ℕ, ◌<◌, ◌≤◌}
use mathlib.Core.Path.{◌≡◌, refl, sym, ap, ◌∙◌, subst}
use mathlib.Core.Bool.{true, false, cond}
use mathlib.Core.List.{List, [], ◌∷◌}
use mathlib.Core.Option.{Option, none, some}
use native.Mathlib.Omega.{arith}
use lib.ListN.{get_or}
use Rattle.source.specs.Text.{Str, starts_with}
use Rattle.source.specs.Types.{Level}
use Rattle.source.specs.Heap.{Heap, EmptyHeap, HeapOf}
use Rattle.source.specs.Lists.{first}
use Rattle.source.specs.Forward.{forest_map}
use Rattle.source.specs.Shared.{same}
use Rattle.source.specs.Forward.{held, again, forward}
use Rattle.source.proofs.Forward.{held_popped, forward_empty, forward_step}
use Rattle.memory.specs.Layout.{Which, key_at}
use Rattle.find_tree.specs.Tree.{AnyTree}
use Rattle.find_tree.specs.Links.{BranchOf}
use Rattle.find_list.specs.Entries.{Entry, entry_key}
use Rattle.find_list.specs.Entries.{LabelOk}
use Rattle.merge.specs.Stream.{State, given_last, labelled, relabelled, run_at, Holding, heap_of, Last, Rest, AnyRest, Stands, left_in}
use Rattle.merge.specs.Stream.{CellLabel, GivenIn, GivesIn, Gives, Steps, Takes, TakesAll, CellsReady, CellsStand}
use Rattle.merge.specs.declared.Given.{Given}
use Rattle.std.specs.Prelude.{Option as Maybe, Some, None}
use Rattle.merge.proofs.Cells.{cell_branch_tree}

-- Whether an entry has the key of the last one.
module _ (ws txt : List ℕ) (w : Which) (ℓ : Level) (x : ℕ) (e : Entry) where
  again_new : (last : Maybe ℕ) (given : Option Entry) → Last ws w ℓ x last given
      → ((l : ℕ) → last ≡ Some l → same (key_at ws txt e.branch) (key_at ws txt l) ≡ false)
      → again (entry_key ws txt) e given ≡ false
  unfolding again
  again_new None none g f = refl
  again_new None (some y) g f = absurd g
  again_new (Some l) none g f = absurd g
  again_new (Some l) (some y) g f = rw g.0 (f l refl)

  again_same : (l : ℕ) (given : Option Entry) → Last ws w ℓ x (Some l) given
      → same (key_at ws txt e.branch) (key_at ws txt l) ≡ true → again (entry_key ws txt) e given ≡ true
  unfolding again
  again_same l none g f = absurd g
  again_same l (some y) g f = rw g.0 f

last_branch : (ws : List ℕ) (w : Which) (ℓ : Level) (x l : ℕ) (given : Option Entry) → Last ws w ℓ x (Some l) given
    → BranchOf ws w ℓ x l
last_branch ws w ℓ x l none g = absurd g
last_branch ws w ℓ x l (some y) g = g.1

module _ {ws txt : List ℕ} {p : Str} {m m' : State} {w : Which} {ℓ : Level} {x : ℕ} {es : List Entry}
    (g : Rest ws txt w ℓ x p m es) where
  pub step_end : Takes ws txt p m m' None → es ≡ []
  step_end takes = go g.heap g.holding g.says
    where
      go : (h : Heap ℕ) → Holding ws txt w ℓ x p m h
          → es ≡ forward (entry_key ws txt) g.fuel (heap_of ws txt p m h) g.given → es ≡ []
      go EmptyHeap o q = q ∙ forward_empty (entry_key ws txt) g.fuel g.given
      go (HeapOf c hh) o q = absurd (takes.took w ℓ x (HeapOf c hh) o)

module _ {ws txt : List ℕ} {p : Str} {m m' : State} {taken : Given} (takes : Takes ws txt p m m' (Some taken))
    {w : Which} {ℓ : Level} {x : ℕ} {es : List Entry}
    (g : Rest ws txt w ℓ x p m es) where
  -- The cell gives an entry, unless that has the key of the last one; what the state gives then, in both cases.
  pub record Stepped : Type 0 where
    pub entry : Entry
    pub branch_is : taken.branch ≡ entry.branch
    pub label_is : taken.label ≡ entry.label
    pub branch : BranchOf ws w ℓ x taken.branch
    pub begins : starts_with (key_at ws txt taken.branch) p ≡ true
    pub label_ok : LabelOk ws w ℓ x taken.label
    pub passed : List Entry
    pub after : List Entry
    pub splits : es ≡ cond (again (entry_key ws txt) entry g.given) passed (entry ∷ after)
    pub passed_rest : Rest ws txt w ℓ x p m' passed
    pub after_rest : Rest ws txt w ℓ x p (given_last m' taken.branch) after
    pub fewer : left_in ws txt p m' < left_in ws txt p m

  pub merge_steps : Stepped
  unfolding first run_at
  merge_steps = go g.heap g.holding g.enough g.says
    where
      go : (h : Heap ℕ) → Holding ws txt w ℓ x p m h → held (heap_of ws txt p m h) ≤ g.fuel
          → es ≡ forward (entry_key ws txt) g.fuel (heap_of ws txt p m h) g.given → Stepped
      go EmptyHeap o h q = absurd (takes.took w ℓ x EmptyHeap o)
      go (HeapOf c hh) o h q =
          let k = takes.took w ℓ x (HeapOf c hh) o in
          let a = o.cells c k.below in
          let val = run_at ws txt p m.roots m.heads m.labels in
          let few : held (heap_of ws txt p m' k.heap) ≤ g.fuel =
          omega (arith, ap held k.heap_is, held_popped (entry_key ws txt) (val c) (forest_map val hh)) in
          record {
            entry = record { branch = get_or m.heads c 0; label = get_or m.labels c 0 };
            branch_is = k.branch_is;
            label_is = k.label_is;
            branch = rw k.branch_is a.branch;
            begins = rw k.branch_is a.begins;
            label_ok = rw k.label_is a.label_ok;
            passed = forward (entry_key ws txt) g.fuel (heap_of ws txt p m' k.heap) g.given;
            after = forward (entry_key ws txt) g.fuel (heap_of ws txt p m' k.heap)
                (some (record { branch = get_or m.heads c 0; label = get_or m.labels c 0 }));
            splits = q ∙ forward_step (entry_key ws txt) g.fuel (val c) (forest_map val hh) g.given h
                ∙ rw k.heap_is;
            passed_rest = record {
              heap = k.heap;
              holding = k.holding;
              given = g.given;
              last = rw takes.last_is g.last;
              fuel = g.fuel;
              enough = few;
              says = refl;
            };
            after_rest = record {
              heap = k.heap;
              holding = relast k.holding;
              given = some (record { branch = get_or m.heads c 0; label = get_or m.labels c 0 });
              last = (sym k.branch_is, rw k.branch_is a.branch);
              fuel = g.fuel;
              enough = few;
              says = refl;
            };
            fewer = k.fewer;
          }
        where
          relast : {h : Heap ℕ} → Holding ws txt w ℓ x p m' h → Holding ws txt w ℓ x p (given_last m' taken.branch) h
          relast o = record { here = o.here; few = o.few; full = o.full; cells = o.cells; begun = o.begun; rep = o.rep; live = o.live }

-- ---- Merge::next

-- What is left of the entries of m after those passed over: the state m' gives them.
pub record Passing (ws txt : List ℕ) (p : Str) (m m' : State) : Type 0 where
  pub says : (w : Which) (ℓ : Level) (x : ℕ) (es : List Entry) → Rest ws txt w ℓ x p m es
      → Rest ws txt w ℓ x p m' es
  pub fewer : left_in ws txt p m' ≤ left_in ws txt p m

module _ {ws txt : List ℕ} {p : Str} {m m' : State} (o : Passing ws txt p m m') (y : AnyRest ws txt p m) where
  abbrev now_rest : Rest ws txt y.which y.level y.link p m' y.entries
  now_rest = o.says y.which y.level y.link y.entries y.rest

  pub passing_ready : CellsReady ws txt p m'
  passing_ready = record {
    which = y.which;
    level = y.level;
    link = y.link;
    heap = now_rest.heap;
    holding = now_rest.holding;
  }

  module _ {m'' : State} {taken : Given} (takes : Takes ws txt p m' m'' (Some taken)) where
    pub passing_fewer : left_in ws txt p m'' < left_in ws txt p m'
    passing_fewer = (merge_steps takes now_rest).fewer

    pub passing_branch : (0 < taken.branch) × AnyTree ws txt taken.branch
    passing_branch = let k = merge_steps takes now_rest in cell_branch_tree now_rest.holding.here k.branch

    pub passing_last : {l : ℕ} → m''.last ≡ Some l → (0 < l) × AnyTree ws txt l
    passing_last {l} e =
        cell_branch_tree now_rest.holding.here
        (last_branch ws y.which y.level y.link l now_rest.given
        (subst (λ (s : Maybe ℕ). Last ws y.which y.level y.link s now_rest.given) (sym takes.last_is ∙ e) now_rest.last))

module _ {ws txt : List ℕ} {p : Str} {m m' m'' : State} (o : Passing ws txt p m m') where
  pub passing_end : Takes ws txt p m' m'' None → Gives ws txt p m None m''
  passing_end takes w v x es g =
      subst (λ (es : List Entry). GivesIn ws txt w v x p m es None m'') (sym (step_end (o.says w v x es g) takes)) tt

  module _ {taken : Given} (takes : Takes ws txt p m' m'' (Some taken)) where
    pub passing_on : left_in ws txt p m'' < left_in ws txt p m' → {l : ℕ} → m''.last ≡ Some l
        → same (key_at ws txt taken.branch) (key_at ws txt l) ≡ true
        → Passing ws txt p m m''
    passing_on f {l} h e = record {
      says = λ w v x es g.
          let r = o.says w v x es g in
          let k = merge_steps takes r in
          let last : Last ws w v x (Some l) r.given = rw (← takes.last_is, h) at r.last in
          subst (λ (es : List Entry). Rest ws txt w v x p m'' es)
          (sym (k.splits ∙ rw (again_same ws txt w v x k.entry l r.given last (rw k.branch_is at e)))) k.passed_rest;
      fewer = omega (arith, o.fewer);
    }

    pub passing_gives : ((l : ℕ) → m''.last ≡ Some l → same (key_at ws txt taken.branch) (key_at ws txt l) ≡ false)
        → Gives ws txt p m (Some taken) (given_last m'' taken.branch)
    passing_gives f w v x es g =
        let r = o.says w v x es g in
        let k = merge_steps takes r in
        let last : Last ws w v x m''.last r.given = rw takes.last_is r.last in
        let d : GivenIn ws txt w v x p m k.entry k.after taken (given_last m'' taken.branch) =
        record {
          branch_is = k.branch_is;
          label_is = k.label_is;
          branch = k.branch;
          begins = k.begins;
          label_ok = k.label_ok;
          rest = k.after_rest;
          fewer = omega (arith, o.fewer, k.fewer);
        } in
        let e : es ≡ k.entry ∷ k.after =
        k.splits ∙ rw (again_new ws txt w v x k.entry m''.last r.given last (λ l h. rw k.branch_is at (f l h))) in
        subst (λ (es : List Entry). GivesIn ws txt w v x p m es (Some taken) (given_last m'' taken.branch)) (sym e) d

-- ---- The same, whatever the labels

-- A cell is taken, the labels being these.
pub takes_at : {ws txt : List ℕ} {p : Str} {m m' : State} {taken : Maybe Given} → TakesAll ws txt p m m' taken
    → (labels : List ℕ) → Takes ws txt p (labelled labels m) (labelled labels m') (relabelled labels taken)
takes_at a labels = record { took = a.took labels; last_is = a.last_is }

-- What is left of the entries of m after those passed over, whatever the labels: the state m' gives them. Nothing else of m is changed that a caller reads.
pub record PassingAll (ws txt : List ℕ) (p : Str) (m m' : State) : Type 0 where
  pub says : (labels : List ℕ) (w : Which) (ℓ : Level) (x : ℕ) (es : List Entry)
      → Rest ws txt w ℓ x p (labelled labels m) es
      → Rest ws txt w ℓ x p (labelled labels m') es
  pub fewer : left_in ws txt p m' ≤ left_in ws txt p m
  pub n_stays : m'.n ≡ m.n
  pub labels_stay : m'.labels ≡ m.labels
  pub last_is : m'.last ≡ m.last

-- The same, the labels being these.
pub passing_at : {ws txt : List ℕ} {p : Str} {m m' : State} → PassingAll ws txt p m m' → (labels : List ℕ)
    → Passing ws txt p (labelled labels m) (labelled labels m')
passing_at o labels = record { says = o.says labels; fewer = o.fewer }

-- Cells that are ready with some labels stand.
pub cells_stand : {ws txt : List ℕ} {p : Str} {m : State} (labels : List ℕ) → CellsReady ws txt p (labelled labels m)
    → CellsStand ws txt p m
cells_stand labels r =
    record {
      labels = labels;
      which = r.which;
      level = r.level;
      link = r.link;
      heap = r.heap;
      holding = r.holding;
    }

module _ {ws txt : List ℕ} {p : Str} {m m' : State} (o : PassingAll ws txt p m m') (s : Stands ws txt p m) where
  pub all_ready : CellsStand ws txt p m'
  all_ready = cells_stand s.labels (passing_ready (passing_at o s.labels) s.any)

  module _ {m'' : State} {taken : Given} (takes : TakesAll ws txt p m' m'' (Some taken)) where
    pub all_fewer : left_in ws txt p m'' < left_in ws txt p m'
    all_fewer = passing_fewer (passing_at o s.labels) s.any (takes_at takes s.labels)

    pub all_branch : (0 < taken.branch) × AnyTree ws txt taken.branch
    all_branch = passing_branch (passing_at o s.labels) s.any (takes_at takes s.labels)

    pub all_last : {l : ℕ} → m''.last ≡ Some l → (0 < l) × AnyTree ws txt l
    all_last e = passing_last (passing_at o s.labels) s.any (takes_at takes s.labels) e

-- That none is given says that no entries are left, and nothing of the state after it.
none_given : (ws txt : List ℕ) (w : Which) (ℓ : Level) (x : ℕ) (p : Str) (m m' m'' : State) (es : List Entry)
    → GivesIn ws txt w ℓ x p m es None m' → GivesIn ws txt w ℓ x p m es None m''
none_given ws txt w ℓ x p m m' m'' [] g = tt
none_given ws txt w ℓ x p m m' m'' (e ∷ es) g = absurd g

module _ {ws txt : List ℕ} {p : Str} {m m' m'' : State} (o : PassingAll ws txt p m m') where
  pub all_end : (s : State) → TakesAll ws txt p m' m'' None → Steps ws txt p m None s
  all_end s takes labels w v x es g =
      none_given ws txt w v x p (labelled labels m) (labelled labels m'') (labelled labels s) es
      (passing_end (passing_at o labels) (takes_at takes labels) w v x es g)

  module _ {taken : Given} (takes : TakesAll ws txt p m' m'' (Some taken)) where
    pub all_on : left_in ws txt p m'' < left_in ws txt p m' → {l : ℕ} → m''.last ≡ Some l
        → same (key_at ws txt taken.branch) (key_at ws txt l) ≡ true
        → PassingAll ws txt p m m''
    all_on f h e = record {
      says = λ labels. (passing_on (passing_at o labels) (takes_at takes labels) f h e).says;
      fewer = omega (arith, o.fewer);
      n_stays = takes.n_stays ∙ o.n_stays;
      labels_stay = takes.labels_stay ∙ o.labels_stay;
      last_is = takes.last_is ∙ o.last_is;
    }

    pub all_gives : ((l : ℕ) → m''.last ≡ Some l → same (key_at ws txt taken.branch) (key_at ws txt l) ≡ false)
        → Steps ws txt p m (Some taken) (given_last m'' taken.branch)
    all_gives f labels = passing_gives (passing_at o labels) (takes_at takes labels) f

    -- What is taken has its cell's label of those at the start.
    pub passing_label : CellLabel m.labels (Some taken)
    passing_label = rw (← o.labels_stay) takes.label_is
