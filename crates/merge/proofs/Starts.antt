-- The start of a merge: the cells stand for the lists that are merged, so that the entries show what is found.
use Prim.Native.Nat.{ℕ, zero, suc, ◌+◌, ◌<◌, ◌≤◌}
use mathlib.Core.Path.{◌≡◌, refl, sym, ap, ap₂, ◌∙◌}
use mathlib.Core.List.{List, [], ◌∷◌, map, map-map, nil≢cons}
use mathlib.Core.Option.{Option, none}
use native.Mathlib.Omega.{arith}
use lib.ListN.{length, get_or, length-map}
use Rattle.source.specs.Text.{Str}
use Rattle.source.specs.Types.{Level, Value}
use Rattle.source.specs.Trees.{PathElem}
use Rattle.source.specs.Rules.{IsKey, IsLabel}
use Rattle.source.specs.Heap.{Heap, EmptyHeap, HeapOf, []ᶠ, heap_insert, heap_insert_all, heap_from_list}
use Rattle.source.specs.Lists.{Run, run, first, priority, run_cmp, nonempty}
use Rattle.source.specs.Listing.{SearchTerm, elem_key, with_imports}
use Rattle.source.specs.Table.{last_opt}
use Rattle.source.specs.Forward.{heap_map}
use Rattle.source.proofs.Heap.{insert_all_more, All, All-merge}
use Rattle.source.specs.Forward.{rest}
use Rattle.source.proofs.Names.{OrderedN}
use Rattle.source.proofs.Formed.{formed_orderedN}
use Rattle.source.specs.Forward.{held, forward}
use Rattle.source.proofs.Forward.{AreRuns, built, map_run, map_heap, held_map, forward_map, built_map}
use Rattle.source.proofs.Found.{match_lists, found_one, found_read}
use Rattle.memory.specs.Layout.{Which, Item, list, what, key_at, tree}
use Rattle.memory.proofs.Seen.{link_later}
use Rattle.memory.proofs.Fine.{IsItem, link_fine}
use Rattle.merge_heads.specs.Compare.{Heads, cell_cmp}
use Rattle.merge_heap.specs.Cells.{Rep, first_cells}
use Rattle.merge_heads.proofs.Compare.{cell_cmp_run}
use Rattle.merge_heap.proofs.CellCounts.{rep_below, counted_all}
use Rattle.merge_heap.proofs.HeapMap.{map_insert}
use Rattle.find_tree.specs.Links.{matches, row_at}
use Rattle.find_tree.proofs.After.{after_first}
use Rattle.find_tree.proofs.Matches.{matches_none, matches_of, matches_increasing}
use Rattle.find_list.specs.Entries.{Entry, entry_key, label_at, shown, outer, Asks}
use Rattle.merge_collect.specs.Lists.{TreePart, elements, HasPart, HasParts, more, match_lists_in, CollectedIn, Collected}
use Rattle.std.specs.Prelude.{None}
use Rattle.merge.specs.Stream.{later, run_at, CellOk, Starts, state, OneTree}
use Rattle.merge.proofs.Cells.{branch_head, cell_stands}
use Rattle.memory.specs.Sound.{At}
use Rattle.memory.proofs.At.{no_link, at_of}

get_d_map : {A B : Type 0} (f : A → B) (xs : List A) (k : ℕ) (a : A) (b : B) → k < length xs
    → get_or (map f xs) k b ≡ f (get_or xs k a)
get_d_map f [] k a b h = absurd (omega arith)
get_d_map f (y ∷ xs) zero a b h = refl
get_d_map f (y ∷ xs) (suc k) a b h = get_d_map f xs k a b (omega arith)

map_ext : {A B : Type 0} (f g : A → B) → ((a : A) → f a ≡ g a) → (xs : List A) → map f xs ≡ map g xs
map_ext f g e [] = refl
map_ext f g e (y ∷ xs) = ap₂ ◌∷◌ (e y) (map_ext f g e xs)

-- ---- The heap of the first cells
built_ext : {A : Type 0} (key : A → Str) (r r' : ℕ → Run A) (k : ℕ) → ((j : ℕ) → j < k → r j ≡ r' j)
    → built key r k ≡ built key r' k
unfolding built
built_ext key r r' zero e = refl
built_ext key r r' (suc k) e = ap₂ (heap_insert (run_cmp key)) (built_ext key r r' k (λ j l. e j (omega arith))) (e k (omega arith))

module _ (ws txt : List ℕ) (p : Str) (roots heads labels : List ℕ) (n : ℕ) where
  abbrev val : ℕ → Run Entry
  val = run_at ws txt p roots heads labels

  abbrev cells_heap : ℕ → Heap ℕ
  cells_heap k = heap_from_list (cell_cmp ws txt heads) (first_cells k)

  insert_below : (g : Heap ℕ) (k : ℕ) → k < n → All (λ j. j < n) g
      → All (λ j. j < n) (heap_insert (cell_cmp ws txt heads) g k)
  unfolding heap_insert
  insert_below g k l a = All-merge (cell_cmp ws txt heads) (λ j. j < n) (HeapOf k []ᶠ) g (l, tt) a

  built_cells : (k : ℕ) → k ≤ n
      → All (λ j. j < n) (cells_heap k) × (built (entry_key ws txt) val k ≡ heap_map val (cells_heap k))
  unfolding built heap_from_list first_cells heap_insert_all
  built_cells zero h = (tt, refl)
  built_cells (suc k) h =
      let b = built_cells k (omega arith) in
      rw (insert_all_more (cell_cmp ws txt heads) EmptyHeap (first_cells k) k) (
        insert_below (cells_heap k) k (omega arith) b.0,
        ap (λ (g : Heap (Run Entry)). heap_insert (run_cmp (entry_key ws txt)) g (val k)) b.1
            ∙ map_insert val (cell_cmp ws txt heads) (run_cmp (entry_key ws txt)) (λ j. j < n)
            (λ i j a c. cell_cmp_run (entry_key ws txt) ws txt heads i j (cell_stands ws txt p roots heads labels i)
            (cell_stands ws txt p roots heads labels j))
            (cells_heap k) k b.0 (omega arith),
      )

-- ---- The cells' lists with the imports

-- A branch with its label and its imports.
record Match (ws txt : List ℕ) : Type 0 where
  branch : ℕ
  label : ℕ
  imports : List Str
  labelled : label_at ws txt label ≡ last_opt imports

module _ (ws txt : List ℕ) where
  abbrev match_of : TreePart ws txt → ℕ → Match ws txt
  match_of c b = record { branch = b; label = c.label; imports = c.imports; labelled = c.labelled }

  abbrev match_key : Match ws txt → Str
  match_key m = key_at ws txt m.branch

  abbrev entry_of : Match ws txt → Entry
  entry_of m = record { branch = m.branch; label = m.label }

  no_part : TreePart ws txt
  unfolding last_opt
  no_part = record { root = 0; label = 0; imports = []; labelled = refl }

  -- The list of the k-th part.
  run_of : Str → List ℕ → List (TreePart ws txt) → ℕ → Run (Match ws txt)
  run_of p heads parts k =
      run k (match_of (get_or parts k no_part) (get_or heads k 0))
      (map (match_of (get_or parts k no_part)) (later ws txt p (get_or parts k no_part).root (get_or heads k 0)))

  module _ (w : Which) (ℓ : Level) (q : Option Str) where
    abbrev element : Match ws txt → PathElem × Value (Item w) ℓ
    element m = (record { imports = m.imports; segment = (row_at w ws txt ℓ q m.branch).0 }, (row_at w ws txt ℓ q m.branch).1)

    element_key : (m : Match ws txt) → elem_key (element m) ≡ match_key m
    unfolding elem_key row_at
    element_key m = refl

    part_elements : (c : TreePart ws txt) (xs : List ℕ)
        → with_imports (c.imports, map (row_at w ws txt ℓ q) xs) ≡ map element (map (match_of c) xs)
    unfolding with_imports
    part_elements c [] = refl
    part_elements c (b ∷ xs) = ap (◌∷◌ (element (match_of c b))) (part_elements c xs)

    element_shows : (m : Match ws txt) → outer (element m) ≡ shown w ws txt ℓ q (entry_of m)
    unfolding outer shown row_at
    element_shows m = rw m.labelled

module _ {ws txt : List ℕ} {w : Which} {ℓ : Level} {x : ℕ} {p : Str} {roots heads beginnings labels : List ℕ}
    (here : At ws txt w (list ℓ) x) where
  part_at : (i : ℕ) (parts : List (TreePart ws txt)) → HasParts ws txt w ℓ x p roots heads beginnings labels i parts
      → (k j : ℕ)
      → j ≡ i + k → k < length parts
      → HasPart ws txt w ℓ x p roots heads beginnings labels j (get_or parts k (no_part ws txt))
  part_at i [] a k j e h = absurd (omega arith)
  part_at i (c ∷ parts) (more b a) zero j e h = let f : i ≡ j = omega arith in rw f at b
  part_at i (c ∷ parts) (more b a) (suc k) j e h = part_at (suc i) parts a k j (omega arith) (omega arith)

  module _ {j : ℕ} {c : TreePart ws txt} (o : HasPart ws txt w ℓ x p roots heads beginnings labels j c) where
    part_tree : At ws txt w (tree ℓ) c.root
    part_tree = at_of here (tree _) (omega arith) o.root_link

    part_later : matches ws txt c.root p ≡ get_or heads j 0 ∷ later ws txt p c.root (get_or heads j 0)
    part_later =
        let e : later ws txt p c.root (get_or heads j 0) ≡ o.others =
        rw o.first_is (after_first (key_at ws txt) (get_or heads j 0) o.others (rw o.first_is at (matches_increasing part_tree p))) in
        o.first_is ∙ ap (λ (xs : List ℕ). get_or heads j 0 ∷ xs) (sym e)

    part_cell : CellOk ws txt w ℓ x p (get_or roots j 0) (get_or heads j 0) (get_or labels j 0)
    part_cell =
        let m = (rw o.first_is at (matches_of part_tree p)).0 in
        record {
          root_link = rw o.root_is o.root_link;
          branch = record {
            some = m.branch.some;
            link = link_later (omega (arith, o.root_link.earlier)) m.branch.link;
          };
          among = λ l. rw o.root_is m.among;
          begins = m.begins;
          label_ok = rw o.label_is o.label_ok;
        }

    part_live : 0 < get_or roots j 0
    part_live = go c.root o.first_is o.root_is
      where
        go : (root : ℕ) → matches ws txt root p ≡ get_or heads j 0 ∷ o.others → get_or roots j 0 ≡ root
            → 0 < get_or roots j 0
        go zero e f = absurd (nil≢cons (sym (matches_none ws txt p) ∙ e))
        go (suc r) e f = omega arith

  module _ (parts : List (TreePart ws txt)) (a : HasParts ws txt w ℓ x p roots heads beginnings labels 0 parts) where
    -- The cells stand for what is merged.
    cells_are : (q : Option Str) → AreRuns (map (elements w ws txt ℓ q p) parts)
        (λ k. map_run (element ws txt w ℓ q) (run_of ws txt p heads parts k))
    unfolding priority first rest elements with_imports run_of
    cells_are q k h =
        let xs : k < length parts = omega (arith, length-map parts (elements w ws txt ℓ q p)) in
        let o = part_at 0 parts a k k (omega arith) xs in
        let c = get_or parts k (no_part ws txt) in (
          refl,
          sym (get_d_map (elements w ws txt ℓ q p) parts k (no_part ws txt) [] xs
              ∙ ap (λ (xs : List ℕ). with_imports (c.imports, map (row_at w ws txt ℓ q) xs)) (part_later o)
              ∙ part_elements ws txt w ℓ q c (get_or heads k 0 ∷ later ws txt p c.root (get_or heads k 0))),
        )

    runs_same : (n : ℕ) → n ≡ length parts → (k : ℕ) → k < n
        → map_run (entry_of ws txt) (run_of ws txt p heads parts k) ≡ val ws txt p roots heads labels n k
    unfolding run_at run_of
    runs_same n e k l =
        let o = part_at 0 parts a k k (omega arith) (omega arith) in
        rw (o.root_is, o.label_is, map-map)

-- ---- Merge::start
ordered : {ws txt : List ℕ} {w : Which} {ℓ : Level} {x : ℕ} (t : At ws txt w (list ℓ) x)
    → OrderedN (what w ws txt x (list ℓ))
ordered {ws} {txt} {w} {ℓ} {x} t =
    formed_orderedN IsKey IsLabel (IsItem w) {ℓ = ℓ} (what w ws txt x (list ℓ)) (link_fine t.sound w (list ℓ) (omega arith) t.link).0

module _ {ws txt : List ℕ} {p : Str} {x n : ℕ}
    {roots₀ heads₀ beginnings₀ labels₀ roots heads beginnings labels : List ℕ}
    (d : Collected ws txt p x 0 0 n roots₀ heads₀ beginnings₀ labels₀ roots heads beginnings labels) where
  collected : (w : Which) (ℓ : Level) → At ws txt w (list ℓ) x
      → CollectedIn ws txt p x 0 0 n roots₀ heads₀ beginnings₀ labels₀ roots heads beginnings labels w ℓ x []
  unfolding last_opt
  collected w ℓ t = d.says w ℓ x [] t (omega arith) (record { link = no_link x _; imports = λ l. absurd (omega arith) }) refl

  module _ {w : Which} {ℓ : Level} (t : At ws txt w (list ℓ) x) where
    has_cell : (j : ℕ) → j < n
        → HasPart ws txt w ℓ x p roots heads beginnings labels j (get_or (collected w ℓ t).parts j (no_part ws txt))
    has_cell j l = part_at t 0 (collected w ℓ t).parts (collected w ℓ t).has j j (omega arith) (omega (arith, (collected w ℓ t).count))

    pub start_heads : n ≤ 96 → Heads ws txt heads beginnings n
    start_heads few = record {
      few = few;
      each = λ j l. record {
        small = omega arith;
        text_in = branch_head t (part_cell t (has_cell j l)).branch;
        begun = (has_cell j l).begun;
      };
    }

  pub merge_starts : {child next : List ℕ} {root : ℕ} → n ≤ 96
      → Rep n child next root (heap_from_list (cell_cmp ws txt heads) (first_cells n))
      → Starts ws txt x p (state roots heads beginnings labels child next n root None)
  unfolding match_lists
  merge_starts {child} {next} {root} few rep w ℓ t =
      let s = collected w ℓ t in
      let h = cells_heap ws txt p roots heads labels n n in
      let r = run_of ws txt p heads s.parts in
      let same_heap : heap_map (val ws txt p roots heads labels n) h ≡ map_heap (entry_of ws txt) (built (match_key ws txt) r n) =
      sym (sym (built_map (entry_of ws txt) (match_key ws txt) (entry_key ws txt) (λ m. refl) r n)
      ∙ built_ext (entry_key ws txt) _ (val ws txt p roots heads labels n) n (runs_same t s.parts s.has n (omega (arith, s.count)))
      ∙ (built_cells ws txt p roots heads labels n n (omega arith)).1) in
      let fuel = held (built (match_key ws txt) r n) in
      record {
        entries = forward (entry_key ws txt) fuel (heap_map (val ws txt p roots heads labels n) h) none;
        rest = record {
          heap = h;
          holding = record {
            here = t;
            few = few;
            full = d.full;
            cells = λ j l. part_cell t (has_cell t j l);
            begun = λ j l. (has_cell t j l).begun;
            rep = rep;
            live = λ j l. part_live t (has_cell t j (counted_all (λ i. i < n) j h (rep_below n child next few rep) l));
          };
          given = none;
          last = tt;
          fuel = fuel;
          enough = omega (arith, ap held same_heap, held_map (entry_of ws txt) (built (match_key ws txt) r n));
          says = refl;
        };
        says = λ term q asks.
            ap (map outer)
            (found_read (what w ws txt x (list ℓ)) term (element ws txt w ℓ q) (match_key ws txt) r n fuel (ordered t)
            (element_key ws txt w ℓ q)
            (omega (arith, s.count, ap length (s.lists term q asks), length-map s.parts (elements w ws txt ℓ q p)))
            (rw (s.lists term q asks) (cells_are t s.parts s.has q))
            (omega arith))
            ∙ map-map outer (element ws txt w ℓ q) (forward (match_key ws txt) fuel (built (match_key ws txt) r n) none)
            ∙ map_ext _ _ (element_shows ws txt w ℓ q)
            (forward (match_key ws txt) fuel (built (match_key ws txt) r n) none)
            ∙ sym (map-map (shown w ws txt ℓ q) (entry_of ws txt)
            (forward (match_key ws txt) fuel (built (match_key ws txt) r n) none))
            ∙ ap (map (shown w ws txt ℓ q)) (sym
            (forward_map (entry_of ws txt) (match_key ws txt) (entry_key ws txt) (λ m. refl) fuel
            (built (match_key ws txt) r n) none)
            ∙ ap (λ (g : Heap (Run Entry)). forward (entry_key ws txt) fuel g none) (sym same_heap));
      }

  -- One cell: what is found are its tree's matches.
  pub starts_one : n ≡ 1 → (w : Which) (ℓ : Level) → At ws txt w (list ℓ) x
      → OneTree ws txt w ℓ x p (get_or roots 0 0) (get_or labels 0 0)
  unfolding match_lists nonempty elements with_imports outer shown row_at
  starts_one e w ℓ t = go (collected w ℓ t).parts (omega (arith, (collected w ℓ t).count)) (collected w ℓ t).has (collected w ℓ t).lists
    where
      shows : (q : Option Str) (c : TreePart ws txt) (xs : List ℕ)
          → map outer (with_imports (c.imports, map (row_at w ws txt ℓ q) xs))
          ≡ map (shown w ws txt ℓ q) (map (λ b. record { branch = b; label = c.label }) xs)
      shows q c [] = refl
      shows q c (b ∷ xs) = ap₂ ◌∷◌ (rw c.labelled) (shows q c xs)

      go : (parts : List (TreePart ws txt)) → length parts ≡ 1
          → HasParts ws txt w ℓ x p roots heads beginnings labels 0 parts
          → ((term : SearchTerm) (q : Option Str) → Asks term p q
          → match_lists_in w ws txt ℓ term [] x ≡ map (elements w ws txt ℓ q p) parts)
          → OneTree ws txt w ℓ x p (get_or roots 0 0) (get_or labels 0 0)
      go [] k a f = absurd (omega arith)
      go (c ∷ d ∷ parts) k a f = absurd (omega arith)
      go (c ∷ []) k (more o a) f = rw (o.root_is, o.label_is) (record {
        root_link = o.root_link;
        label_ok = o.label_ok;
        says = λ term q asks. ap (map outer) (found_one (what w ws txt x (list ℓ)) term (elements w ws txt ℓ q p c) (f term q asks))
            ∙ shows q c (matches ws txt c.root p);
      })
