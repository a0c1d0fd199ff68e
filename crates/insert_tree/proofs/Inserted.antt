-- The new branches, from the lowest up: each reads as the insertion into the branch that it copies.
use Prim.Native.Nat.{Ordering}
use Prim.Native.Nat.{ℕ, suc, ◌+◌, ◌-◌, ◌*◌, ◌≤◌, ◌<◌}
use mathlib.Core.Path.{◌≡◌, refl, sym, ap, ◌∙◌, subst}
use mathlib.Core.Bool.{true, ◌&&◌, false≢true}
use mathlib.Core.List.{List}
use native.Mathlib.Omega.{arith}
use borrow.Author.Tests.{ne_eqb}
use lib.Dec.{ltb}
use lib.ListN.{length, take, drop}
use Rattle.source.specs.Text.{Str, string_compare}
use Rattle.source.specs.Types.{Level, bind, ns, Value, Tree, StrBranch}
use Rattle.source.specs.Trees.{btree_insert_replace}
use Rattle.source.specs.Rules.{IsKey, IsLabel, Ordered, Formed}
use Rattle.source.proofs.Formed.{formed_ordered}
use Rattle.source.proofs.Keeps.{btree_insert_replace_formed}
use Rattle.memory.specs.Layout.{record_at, word, span, Which, Item, tree, trieˢ, kind, value, what, key_at, left_link, right_link, text_len, text_start}
use Rattle.memory.specs.Layout.{trie_link}
use Rattle.memory.specs.Stored.{left_in, right_in}
use Rattle.memory.specs.Sound.{LinkOk, Used, At}
use Rattle.memory.specs.Grown.{Stays, put}
use Rattle.memory.proofs.What.{what_none}
use Rattle.memory.proofs.RecordOk.{zero_some}
use Rattle.memory.proofs.StoredSizes.{stored_none, stored_some}
use Rattle.memory.proofs.Stays.{what_stays, link_stays, stays_on}
use Rattle.memory.proofs.RecordAt.{record_length}
use Rattle.memory.proofs.Fine.{IsItem, link_fine}
use Rattle.memory.proofs.Seen.{link_later, link_fits}
use Rattle.find_tree.specs.Tree.{held, AnyTree, Builds}
use Rattle.insert_copy.specs.Copies.{noted_link, noted_side, with_sides, with_key, raised_row, RaiseOk, lowest_row, LowestOk}
use Rattle.insert_copy.proofs.WithKey.{keyed_length, keyed_word, keyed_start, keyed_len}
use Rattle.insert_tree.specs.Insert.{NewBranch, HeldOk, Insertion, Inserted, SideTaken, Trail, top, turn, Changed, Marked}
use Rattle.memory.proofs.Pasted.{part_span}
use Rattle.find_tree.proofs.Branches.{any_tree, branch_right, branch_reads}
use Rattle.insert_tree.proofs.Changed.{drop_more, put_changes, sound_stays, trail_stays}
use Rattle.insert_tree.proofs.WithSides.{same_value, same_held, sided_length, held_fine, depth_ok, old_branch, branch_sound, branch_what, branch_link}
use Rattle.memory.proofs.At.{at_in, at_of}

-- ---- Trails

pub trail_link : {ws txt : List ℕ} {key : Str} {w : Which} {ℓ : Level} {root d n link : ℕ} → At ws txt w (tree ℓ) root
    → Trail ws txt key root d n link → LinkOk ws (root + 1) link (kind w (tree ℓ))
trail_link t top = record { earlier = omega arith; of_kind = t.link.of_kind }
trail_link {ws} {n = n} t (turn x r) =
    let y = branch_right (at_of t (tree _) (omega arith) (trail_link t r)) x.some in
    zero_some (noted_side ws n)
    (λ e. rw (x.left e).1 (link_later (omega (arith, x.within)) y.left))
    (λ p. rw (x.right (λ e. omega arith)).1 (link_later (omega (arith, x.within)) y.right))

-- The next branch up.
trail_up : {ws txt : List ℕ} {key : Str} {root d n link : ℕ} → Trail ws txt key root d n link → 0 < d
    → SideTaken ws txt key root (noted_link ws n) (noted_side ws n) link
    × Trail ws txt key root (d - 1) (n + 1) (noted_link ws n)
trail_up top p = absurd (omega arith)
trail_up (turn {d = d} x r) p = let e : suc d - 1 ≡ d = omega arith in (x, rw e r)

trail_top : {ws txt : List ℕ} {key : Str} {root d n link : ℕ} → Trail ws txt key root d n link → d ≡ 0 → link ≡ root
trail_top top e = refl
trail_top (turn x r) e = absurd (omega arith)

-- ---- The new branches before record number n are put

-- What all of them rest on: the memory base before the call, and what is inserted.
pub record Ready (base ws txt : List ℕ) (w : Which) (ℓ : Level) (used : ℕ) (key : Str) (val : Value (Item w) ℓ)
    (records root total n : ℕ) : Type 0 where
  pub sound : Used ws txt n used
  pub stays : Stays records base ws
  pub rest : drop (total * 12) ws ≡ drop (total * 12) base
  pub few : total ≤ 65536
  pub room : total * 12 ≤ length base
  pub within : root ≤ records
  pub above : records ≤ n
  pub root_link : LinkOk ws (n + 1) root (kind w (tree ℓ))
  pub is_key : IsKey key
  pub fine : Formed IsKey IsLabel (IsItem w) val

-- The last of them, link n, is the insertion into the tree of below, and the notes lead from there up to the root.
pub record Risen (base ws txt : List ℕ) (w : Which) (ℓ : Level) (used : ℕ) (key : Str) (val : Value (Item w) ℓ)
    (records root total n : ℕ) : Type 0 where
  pub ready : Ready base ws txt w ℓ used key val records root total n
  pub d : ℕ
  pub level : n + d ≡ total
  pub below : ℕ
  pub trail : Trail ws txt key root d n below
  pub link : LinkOk ws (n + 1) n (kind w (tree ℓ))
  pub reads : what w ws txt n (tree ℓ) ≡ btree_insert_replace (what w base txt below (tree ℓ)) key val

module _ {base ws txt : List ℕ} {w : Which} {ℓ : Level} {used : ℕ} {key : Str} {val : Value (Item w) ℓ}
    {records root total n : ℕ}
    (g : Ready base ws txt w ℓ used key val records root total n) where
  root_tree : At ws txt w (tree ℓ) root
  root_tree = at_in g.sound w (tree ℓ) g.root_link

  base_of : (x : ℕ) → x ≤ root → what w ws txt x (tree ℓ) ≡ what w base txt x (tree ℓ)
  base_of x h = ap (λ f. f (tree ℓ)) (what_stays g.stays w txt x (omega (arith, g.within)))

  -- The branch r is put with the sides a and b, in the place of the branch x.
  module _ (h : n < total) (r : List ℕ) (twelve : length r ≡ 12) (c : NewBranch ws txt used (n + 1) w r ℓ) (a b : ℕ)
      (i : LinkOk ws (n + 1) a (kind w (tree ℓ))) (j : LinkOk ws (n + 1) b (kind w (tree ℓ)))
      (d x : ℕ) (level : n + 1 + d ≡ total) (t : Trail ws txt key root d (n + 1) x)
      (e : StrBranch (span txt (text_start r) (text_len r)) (value w txt r (what w ws txt) ℓ) (what w ws txt a (tree ℓ))
      (what w ws txt b (tree ℓ)) ≡ btree_insert_replace (what w base txt x (tree ℓ)) key val) where
    abbrev new : List ℕ
    new = with_sides ws r a b

    abbrev after : List ℕ
    after = put ws n new

    room : n * 12 + 12 ≤ length ws
    room = omega (arith, g.room, g.stays.size)

    few : n < 65536
    few = omega (arith, g.few)

    ordered : Ordered (StrBranch (span txt (text_start r) (text_len r)) (value w txt r (what w ws txt) ℓ)
        (what w ws txt a (tree ℓ)) (what w ws txt b (tree ℓ)))
    ordered =
        let x_link = trail_link root_tree t in
        subst (λ (bt : Tree (Item w) ℓ). Ordered bt) (ap (λ bt. btree_insert_replace bt key val) (base_of x (omega (arith, x_link.earlier))) ∙ sym e)
        (formed_ordered IsKey IsLabel (IsItem w) (btree_insert_replace (what w ws txt x (tree ℓ)) key val)
        (btree_insert_replace_formed IsKey IsLabel (IsItem w) (what w ws txt x (tree ℓ)) key val g.is_key g.fine
        (link_fine g.sound w (tree ℓ) (omega (arith, g.root_link.earlier)) x_link).0))

    changed : Changed ws after n
    changed = put_changes ws new n room (sided_length ws r a b twelve)

    past : drop ((n + 1) * 12) after ≡ drop ((n + 1) * 12) ws
    past = let q : (n + 1) * 12 ≡ n * 12 + 12 = omega arith in rw q changed.rest

    put_risen : Risen base after txt w ℓ used key val records root total (n + 1)
    put_risen = record {
      ready = record {
        sound = branch_sound g.sound few room r twelve w ℓ c a b i j ordered;
        stays = stays_on g.above g.stays changed.stays;
        rest = drop_more ((n + 1) * 12) (total * 12) ws after (omega arith) past ∙ g.rest;
        few = g.few;
        room = g.room;
        within = g.within;
        above = omega (arith, g.above);
        root_link = link_stays changed.stays (omega arith) (omega arith) g.root_link;
        is_key = g.is_key;
        fine = g.fine;
      };
      d = d;
      level = level;
      below = x;
      trail = trail_stays changed.stays (omega (arith, g.within, g.above)) (n + 1) (omega arith) past t;
      link = branch_link g.sound few room r twelve w ℓ c a b i j ordered;
      reads = branch_what g.sound few room r twelve w ℓ c a b i j ordered ∙ e;
    }

-- ---- The next one up

module _ {base ws txt : List ℕ} {w : Which} {ℓ : Level} {used : ℕ} {key : Str} {val : Value (Item w) ℓ}
    {records root total n : ℕ}
    (g : Risen base ws txt w ℓ used key val records root total n) (h : n < total) where
  abbrev l : ℕ
  l = noted_link ws n

  abbrev r : List ℕ
  r = record_at ws l

  up : SideTaken ws txt key root l (noted_side ws n) g.below × Trail ws txt key root (g.d - 1) (n + 1) l
  up = trail_up g.trail (omega (arith, g.level))

  l_link : LinkOk ws (n + 1) l (kind w (tree ℓ))
  l_link = link_later (omega (arith, g.ready.root_link.earlier)) (trail_link (root_tree g.ready) up.1)

  l_tree : At ws txt w (tree ℓ) l
  l_tree = at_in g.ready.sound w (tree ℓ) l_link

  old : NewBranch ws txt used (n + 1) w r ℓ
  old = old_branch g.ready.sound w ℓ l_link up.0.some

  left_ok : LinkOk ws (n + 1) (left_link r) (kind w (tree ℓ))
  left_ok = link_later (omega (arith, l_link.earlier)) (branch_right l_tree up.0.some).left

  right_ok : LinkOk ws (n + 1) (right_link r) (kind w (tree ℓ))
  right_ok = link_later (omega (arith, l_link.earlier)) (branch_right l_tree up.0.some).right

  pub risen_ok : RaiseOk ws n
  risen_ok = record {
    few = omega (arith, g.ready.few);
    room = omega (arith, g.ready.room, g.ready.stays.size);
    some = up.0.some;
    fits = link_fits g.ready.sound l_link;
    left = depth_ok g.ready.sound w r ℓ old g.link right_ok;
    right = depth_ok g.ready.sound w r ℓ old left_ok g.link;
  }

  raised_left : noted_side ws n ≡ 0 → raised_row ws n ≡ with_sides ws r n (right_link r)
  unfolding raised_row
  raised_left z = rw z

  raised_right : 0 < noted_side ws n → raised_row ws n ≡ with_sides ws r (left_link r) n
  unfolding raised_row
  raised_right p = rw (ne_eqb (noted_side ws n) 0 (λ z. omega arith))

  with_copy : (a b : ℕ) → LinkOk ws (n + 1) a (kind w (tree ℓ)) → LinkOk ws (n + 1) b (kind w (tree ℓ))
      → StrBranch (key_at ws txt l) (held w ws txt ℓ l) (what w ws txt a (tree ℓ)) (what w ws txt b (tree ℓ))
      ≡ btree_insert_replace (what w base txt l (tree ℓ)) key val
      → Risen base (put ws n (with_sides ws r a b)) txt w ℓ used key val records root total (n + 1)
  unfolding key_at held
  with_copy a b i j e =
      put_risen g.ready h r (record_length ws l up.0.some (link_fits g.ready.sound l_link)) old a b i j (g.d - 1) l (omega (arith, g.level))
      up.1 e

  below_old : what w base txt g.below (tree ℓ) ≡ what w ws txt g.below (tree ℓ)
  below_old = sym (base_of g.ready g.below (omega (arith, (trail_link (root_tree g.ready) g.trail).earlier)))

  l_old : what w base txt l (tree ℓ) ≡ what w ws txt l (tree ℓ)
  l_old = sym (base_of g.ready l up.0.within)

  into_left : Ordering.lt ≡ string_compare key (key_at ws txt l) → g.below ≡ left_link r
      → StrBranch (key_at ws txt l) (held w ws txt ℓ l) (what w ws txt n (tree ℓ))
      (what w ws txt (right_link r) (tree ℓ)) ≡ btree_insert_replace (what w base txt l (tree ℓ)) key val
  unfolding btree_insert_replace
  into_left c q = rw (g.reads, below_old, l_old, branch_reads l_tree up.0.some, btree_insert_replace, ← c, q)

  into_right : Ordering.gt ≡ string_compare key (key_at ws txt l) → g.below ≡ right_link r
      → StrBranch (key_at ws txt l) (held w ws txt ℓ l) (what w ws txt (left_link r) (tree ℓ))
      (what w ws txt n (tree ℓ)) ≡ btree_insert_replace (what w base txt l (tree ℓ)) key val
  unfolding btree_insert_replace
  into_right c q = rw (g.reads, below_old, l_old, branch_reads l_tree up.0.some, btree_insert_replace, ← c, q)

  pub risen_up : Risen base (put ws n (raised_row ws n)) txt w ℓ used key val records root total (n + 1)
  risen_up =
      zero_some (noted_side ws n)
      (λ z. let t = up.0.left z in rw (raised_left z) (with_copy n (right_link r) g.link right_ok (into_left t.0 t.1)))
      (λ p. let t = up.0.right (λ z. omega arith) in rw (raised_right p) (with_copy (left_link r) n left_ok g.link (into_right t.0 t.1)))

-- ---- The call

module _ {ws txt : List ℕ} {w : Which} {ℓ : Level} {records used root count : ℕ} {r : List ℕ}
    (g : Insertion ws txt w ℓ records used root count r) where
  pub insertion_key : text_start r + text_len r ≤ length txt
  insertion_key = omega (arith, g.new.key.inside, g.sound.text_fits)

  -- The key as the call cuts it out of the text.
  abbrev cut : Str
  cut = take (text_start r + text_len r - text_start r) (drop (text_start r) txt)

  pub insertion_builds : Builds ws txt root cut count
  insertion_builds = rw (part_span txt (text_start r) (text_len r)) g.counted

  pub insertion_marked : {ws' : List ℕ} → Marked ws ws' txt cut records root count
      → Marked ws ws' txt (span txt (text_start r) (text_len r)) records root count
  insertion_marked m = rw (part_span txt (text_start r) (text_len r)) at m

  pub insertion_tree : AnyTree ws txt root
  insertion_tree = any_tree (at_in g.sound w (tree ℓ) g.link)

-- ---- The lowest one

module _ {ws ws' txt : List ℕ} {w : Which} {ℓ : Level} {records used root count : ℕ} {r : List ℕ}
    (g : Insertion ws txt w ℓ records used root count r) (twelve : length r ≡ 12)
    (m : Marked ws ws' txt (span txt (text_start r) (text_len r)) records root count) where
  abbrev x : ℕ
  x = noted_link ws' records

  ready : Ready ws ws' txt w ℓ used (span txt (text_start r) (text_len r))
      (value w txt r (what w ws txt) ℓ) records root (records + count) records
  ready = record {
    sound = sound_stays m.stays (omega arith) (omega arith) g.sound;
    stays = m.stays;
    rest = m.rest;
    few = g.few;
    room = g.room;
    within = omega (arith, g.link.earlier);
    above = omega arith;
    root_link = link_stays m.stays (omega arith) (omega arith) g.link;
    is_key = g.new.key.keeps;
    fine = held_fine g.sound w r ℓ g.new.holds;
  }

  x_link : LinkOk ws' (records + 1) x (kind w (tree ℓ))
  x_link = link_later (omega (arith, g.link.earlier)) (trail_link (root_tree ready) m.trail)

  x_tree : At ws' txt w (tree ℓ) x
  x_tree = at_in ready.sound w (tree ℓ) x_link

  held_stays : (ℓ : Level) → HeldOk ws txt used (records + 1) w r ℓ → HeldOk ws' txt used (records + 1) w r ℓ
  held_stays bind o = o
  held_stays ns o = link_stays m.stays (omega arith) (omega arith) o

  value_stays : (ℓ : Level) → HeldOk ws txt used (records + 1) w r ℓ
      → value w txt r (what w ws' txt) ℓ ≡ value w txt r (what w ws txt) ℓ
  value_stays bind o = refl
  value_stays ns o = ap (λ f. f trieˢ) (what_stays m.stays w txt (trie_link r) (omega (arith, o.earlier)))

  new_branch : NewBranch ws' txt used (records + 1) w r ℓ
  new_branch = record { known = g.new.known; key = g.new.key; holds = held_stays ℓ g.new.holds }

  none : LinkOk ws' (records + 1) 0 (kind w (tree ℓ))
  none = record { earlier = omega arith; of_kind = λ z. absurd (z refl) }

  -- It replaces the branch x.
  module _ (p : 0 < x) where
    abbrev rx : List ℕ
    rx = record_at ws' x

    abbrev keyed : List ℕ
    keyed = with_key ws' r x

    left_ok' : LinkOk ws' (records + 1) (left_link rx) (kind w (tree ℓ))
    left_ok' = link_later (omega (arith, x_link.earlier)) (branch_right x_tree p).left

    right_ok' : LinkOk ws' (records + 1) (right_link rx) (kind w (tree ℓ))
    right_ok' = link_later (omega (arith, x_link.earlier)) (branch_right x_tree p).right

    keyed_same : (k : ℕ) → (ltb 4 k && ltb k 11) ≡ true → word keyed k ≡ word r k
    keyed_same k h = keyed_word ws' r x k (rw (ne_eqb k 1 (λ e. false≢true (rw e at h)), ne_eqb k 2 (λ e. false≢true (rw e at h))))

    keyed_branch : NewBranch ws' txt used (records + 1) w keyed ℓ
    keyed_branch = record {
      known = keyed_word ws' r x 0 refl ∙ g.new.known;
      key = rw (keyed_start ws' r x twelve, keyed_len ws' r x twelve) (old_branch ready.sound w ℓ x_link p).key;
      holds = same_held r keyed keyed_same ws' txt used (records + 1) w ℓ new_branch.holds;
    }

    replaced_reads : StrBranch (span txt (text_start keyed) (text_len keyed)) (value w txt keyed (what w ws' txt) ℓ)
        (what w ws' txt (left_link rx) (tree ℓ)) (what w ws' txt (right_link rx) (tree ℓ))
        ≡ btree_insert_replace (what w ws txt x (tree ℓ)) (span txt (text_start r) (text_len r))
        (value w txt r (what w ws txt) ℓ)
    unfolding btree_insert_replace key_at
    replaced_reads =
        rw (
          keyed_start ws' r x twelve,
          keyed_len ws' r x twelve,
          same_value r keyed keyed_same w txt (what w ws' txt) ℓ,
          value_stays ℓ g.new.holds,
          ← base_of ready x (omega (arith, (trail_link (root_tree ready) m.trail).earlier)),
          branch_reads x_tree p,
          btree_insert_replace,
          ← m.here p,
        )

    lowest_replaced : lowest_row ws' records r ≡ with_sides ws' keyed (left_link rx) (right_link rx)
    unfolding lowest_row
    lowest_replaced = rw (ne_eqb x 0 (λ z. omega arith))

    risen_replaced : Risen ws (put ws' records (with_sides ws' keyed (left_link rx) (right_link rx))) txt w ℓ used
        (span txt (text_start r) (text_len r)) (value w txt r (what w ws txt) ℓ) records root (records + count)
        (records + 1)
    risen_replaced =
        put_risen ready (omega (arith, m.some)) keyed (keyed_length ws' r x ∙ twelve) keyed_branch (left_link rx) (right_link rx) left_ok' right_ok'
        (count - 1) x (omega (arith, m.some)) m.trail replaced_reads

  -- It replaces none.
  module _ (z : x ≡ 0) where
    placed_reads : StrBranch (span txt (text_start r) (text_len r)) (value w txt r (what w ws' txt) ℓ)
        (what w ws' txt 0 (tree ℓ)) (what w ws' txt 0 (tree ℓ))
        ≡ btree_insert_replace (what w ws txt x (tree ℓ)) (span txt (text_start r) (text_len r))
        (value w txt r (what w ws txt) ℓ)
    unfolding btree_insert_replace
    placed_reads = rw (value_stays ℓ g.new.holds, z, what_none w ws' txt, what_none w ws txt)

    lowest_placed : lowest_row ws' records r ≡ with_sides ws' r 0 0
    unfolding lowest_row
    lowest_placed = rw z

    risen_placed : Risen ws (put ws' records (with_sides ws' r 0 0)) txt w ℓ used
        (span txt (text_start r) (text_len r)) (value w txt r (what w ws txt) ℓ) records root (records + count)
        (records + 1)
    risen_placed =
        put_risen ready (omega (arith, m.some)) r twelve new_branch 0 0 none none (count - 1) x (omega (arith, m.some)) m.trail placed_reads

  sides : LinkOk ws' (records + 1) (left_in ws' x) (kind w (tree ℓ))
      × LinkOk ws' (records + 1) (right_in ws' x) (kind w (tree ℓ))
  sides =
      zero_some x
      (λ z. rw (z, stored_none ws' 3, stored_none ws' 4) (none, none))
      (λ p. rw (stored_some ws' x 3 p, stored_some ws' x 4 p) (left_ok' p, right_ok' p))

  pub lowest_ok : LowestOk ws' records r
  lowest_ok = record {
    few = omega (arith, g.few, m.some);
    room = omega (arith, g.room, m.stays.size, m.some);
    fits = link_fits ready.sound x_link;
    sides = depth_ok ready.sound w r ℓ new_branch sides.0 sides.1;
  }

  pub lowest_risen : {ws'' low : List ℕ} → low ≡ lowest_row ws' records r → ws'' ≡ put ws' records low
      → Risen ws ws'' txt w ℓ used (span txt (text_start r) (text_len r)) (value w txt r (what w ws txt) ℓ) records root
      (records + count) (records + 1)
  lowest_risen e q = rw (q, e) (zero_some x (λ z. rw (lowest_placed z) (risen_placed z)) (λ p. rw (lowest_replaced p) (risen_replaced p)))

-- ---- The loop

-- The same, of some table, level and insertion.
pub record AnyRisen (ws txt : List ℕ) (records root total n : ℕ) : Type 0 where
  pub base : List ℕ
  pub which : Which
  pub level : Level
  pub used : ℕ
  pub key : Str
  pub val : Value (Item which) level
  pub risen : Risen base ws txt which level used key val records root total n

-- From ws₀, where the lowest is put, to ws, where those before record number n are put.
pub record Rising (ws₀ txt : List ℕ) (records root total : ℕ) (ws : List ℕ) (n : ℕ) : Type 0 where
  pub any : AnyRisen ws txt records root total n
  pub says : (base : List ℕ) (w : Which) (ℓ : Level) (used : ℕ) (key : Str) (val : Value (Item w) ℓ)
      → Risen base ws₀ txt w ℓ used key val records root total (records + 1)
      → Risen base ws txt w ℓ used key val records root total n

pub rising_none : {base ws txt : List ℕ} {w : Which} {ℓ : Level} {used : ℕ} {key : Str} {val : Value (Item w) ℓ}
    {records root total : ℕ}
    → Risen base ws txt w ℓ used key val records root total (records + 1)
    → Rising ws txt records root total ws (records + 1)
rising_none {base} {w = w} {ℓ} {used} {key} {val} g = record {
  any = record { base = base; which = w; level = ℓ; used = used; key = key; val = val; risen = g };
  says = λ base w ℓ used key val g. g;
}

pub rising_up : {ws₀ txt : List ℕ} {records root total : ℕ} {ws : List ℕ} {n : ℕ}
    → Rising ws₀ txt records root total ws n → n < total
    → {ws' next : List ℕ} → next ≡ raised_row ws n → ws' ≡ put ws n next → Rising ws₀ txt records root total ws' (n + 1)
rising_up g h e q = record {
  any = record {
    base = g.any.base;
    which = g.any.which;
    level = g.any.level;
    used = g.any.used;
    key = g.any.key;
    val = g.any.val;
    risen = rw (q, e) (risen_up g.any.risen h);
  };
  says = λ base w v used key val s. rw (q, e) (risen_up (g.says base w v used key val s) h);
}

-- The last one is the new root.
pub all_risen : {base ws txt : List ℕ} {w : Which} {ℓ : Level} {used records root count n : ℕ} {r : List ℕ}
    → Risen base ws txt w ℓ used (span txt (text_start r) (text_len r)) (value w txt r (what w base txt) ℓ) records root
    (records + count) n → records + count ≤ n
    → Inserted base ws txt w ℓ records used root count r (records + count)
all_risen {records = records} {count = count} {n = n} g h =
    let e : records + count ≡ n = omega (arith, g.level) in
    record {
      last = refl;
      sound = rw e g.ready.sound;
      stays = g.ready.stays;
      rest = g.ready.rest;
      link = rw e g.link;
      reads = rw (e, ← trail_top g.trail (omega (arith, g.level))) g.reads;
    }
