-- The way down is noted: each branch that the search leaves, and the side taken.
use Prim.Native.Nat.{Ordering}
use Prim.Native.Nat.{ℕ, ◌+◌, ◌-◌, ◌*◌, ◌≤◌, ◌<◌}
use mathlib.Core.Path.{◌≡◌, refl, sym, ◌∙◌}
use mathlib.Core.List.{List}
use native.Mathlib.Omega.{arith}
use native.Mathlib.Numerals.{add-one}
use lib.ListN.{length, drop}
use Rattle.source.specs.Text.{Str, string_compare}
use Rattle.source.specs.Types.{Level, Tree, StrEmpty, StrBranch}
use Rattle.source.specs.Plans.{insert_branches}
use Rattle.memory.specs.Layout.{record_at, tree, what, key_at, left_link, right_link}
use Rattle.memory.specs.Grown.{Stays}
use Rattle.memory.proofs.Stays.{record_stays, stays_same, stays_on}
use Rattle.find_tree.specs.Tree.{AnyTree, Builds}
use Rattle.insert_copy.specs.Copies.{noted_link}
use Rattle.insert_tree.specs.Insert.{SideTaken, Trail, top, turn, NotePut, Marked}
use Rattle.find_tree.proofs.Placed.{Search, search_all, search_left, search_right, search_here, search_none}
use Rattle.find_tree.proofs.Past.{by_order}
use Rattle.insert_tree.proofs.Changed.{drop_more, key_stays, any_stays, trail_stays}

some_branches : {A : Type 0} {ℓ : Level} (bt : Tree A ℓ) (k : Str) → 0 < insert_branches bt k
unfolding insert_branches
some_branches StrEmpty k = omega arith
some_branches (StrBranch k' x lbt rbt) k =
    by_order k k' (λ e h. rw (insert_branches, e) (omega arith)) (λ e h. rw (insert_branches, e) (omega arith)) (λ e h. rw (insert_branches, e) (omega arith))

-- What the call asks.
pub record Asked (ws txt : List ℕ) (key : Str) (records root count : ℕ) : Type 0 where
  pub any : AnyTree ws txt root
  pub builds : Builds ws txt root key count
  pub within : root ≤ records
  pub room : (records + count) * 12 ≤ length ws
  pub few : records + count ≤ 65536

module _ {ws txt : List ℕ} {key : Str} {records root count : ℕ} (a : Asked ws txt key records root count) where
  pub some_count : 0 < count
  some_count =
      omega (arith, a.builds.says a.any.which a.any.level a.any.tree, some_branches (what a.any.which ws txt root (tree a.any.level)) key)

  -- A search that goes on has records left.
  search_room : {link c : ℕ} → Search ws txt root key link c → c ≤ count
  search_room {link} g =
      let s = g.says a.any.which a.any.level a.any.tree in
      omega (
        arith,
        a.builds.says a.any.which a.any.level a.any.tree,
        s.builds,
        some_branches (what a.any.which ws txt link (tree a.any.level)) key,
      )

  same_count : {c : ℕ} → Builds ws txt root key c → c ≡ count
  same_count b = b.says a.any.which a.any.level a.any.tree ∙ sym (a.builds.says a.any.which a.any.level a.any.tree)

-- The search stands at link, whose note goes to record number n; the d branches above it are noted.
pub record Marking (ws txt : List ℕ) (key : Str) (records root count : ℕ) (ws' : List ℕ) (n link : ℕ) : Type 0 where
  pub asked : Asked ws txt key records root count
  pub d : ℕ
  pub level : n + d + 1 ≡ records + count
  pub stays : Stays records ws ws'
  pub rest : drop ((records + count) * 12) ws' ≡ drop ((records + count) * 12) ws
  pub search : Search ws txt root key link (d + 1)
  pub trail : Trail ws' txt key root d (n + 1) link

pub mark_all : {ws txt : List ℕ} {key : Str} {records root count : ℕ} → Asked ws txt key records root count
    → Marking ws txt key records root count ws (records + count - 1) root
mark_all {ws} {records = records} a = record {
  asked = a;
  d = 0;
  level = omega (arith, some_count a);
  stays = stays_same records ws;
  rest = refl;
  search = search_all a.any;
  trail = top;
}

module _ {ws txt : List ℕ} {key : Str} {records root count : ℕ} {ws' : List ℕ} {n link : ℕ}
    (g : Marking ws txt key records root count ws' n link) where
  pub mark_within : link ≤ records
  mark_within = omega (arith, g.search.small, g.asked.within)

  pub mark_tree : AnyTree ws' txt link
  mark_tree = any_stays g.stays mark_within g.search.any

  pub mark_above : records ≤ n
  mark_above = omega (arith, search_room g.asked g.search, g.level)

  pub mark_fits : n * 12 + 12 ≤ length ws'
  mark_fits = omega (arith, g.asked.room, g.level, g.stays.size)

  -- The note of link is put.
  module _ {ws'' : List ℕ} {side : ℕ} (q : NotePut ws' ws'' n link side) where
    stays_more : Stays records ws ws''
    stays_more = stays_on mark_above g.stays q.changed.stays

    past : drop ((n + 1) * 12) ws'' ≡ drop ((n + 1) * 12) ws'
    past = let e : (n + 1) * 12 ≡ n * 12 + 12 = omega arith in rw e q.changed.rest

    rest_more : drop ((records + count) * 12) ws'' ≡ drop ((records + count) * 12) ws
    rest_more = drop_more ((n + 1) * 12) ((records + count) * 12) ws' ws'' (omega (arith, g.level)) past ∙ g.rest

    trail_more : Trail ws'' txt key root g.d (n + 1) (noted_link ws'' n)
    trail_more = rw q.of_link (trail_stays q.changed.stays (omega (arith, mark_above, g.asked.within)) (n + 1) (omega arith) past g.trail)

    -- The way goes on at j.
    mark_more : (j : ℕ) → 0 < link → Search ws txt root key j (g.d + 1 + 1) → SideTaken ws'' txt key root link side j
        → Marking ws txt key records root count ws'' (n - 1) j
    mark_more j p s t =
        let e : n - 1 + 1 ≡ n = omega (arith, search_room g.asked s, g.level) in
        record {
          asked = g.asked;
          d = g.d + 1;
          level = omega (arith, search_room g.asked s, g.level);
          stays = stays_more;
          rest = rest_more;
          search = s;
          trail = rw (add-one g.d, e) (turn {n = n} {link = j} (rw (q.of_link, q.of_side) t) trail_more);
        }

    -- The way ends.
    pub mark_end : Builds ws txt root key (g.d + 1)
        → (0 < link → Ordering.eq ≡ string_compare key (key_at ws' txt link))
        → Marked ws ws'' txt key records root count
    mark_end b h =
        let c : g.d + 1 ≡ count = same_count g.asked b in
        let z : n ≡ records = omega (arith, g.level) in
        let f : g.d ≡ count - 1 = omega arith in
        record {
          stays = stays_more;
          rest = rest_more;
          some = some_count g.asked;
          trail = rw (← z, ← f) trail_more;
          here = rw (← z, q.of_link)
              (λ p. rw (key_stays q.changed.stays txt link p (omega (arith, mark_within))) (h p));
        }

  module _ (p : 0 < link) where
    old_key : key_at ws' txt link ≡ key_at ws txt link
    old_key = key_stays g.stays txt link p mark_within

    old_record : record_at ws' link ≡ record_at ws link
    old_record = record_stays g.stays link p mark_within

    pub left_room : Ordering.lt ≡ string_compare key (key_at ws' txt link) → 0 < n
    left_room e = omega (arith, search_room g.asked (search_left g.search p (rw old_key at e) refl), g.level)

    pub right_room : Ordering.gt ≡ string_compare key (key_at ws' txt link) → 0 < n
    right_room e = omega (arith, search_room g.asked (search_right g.search p (rw old_key at e) refl), g.level)

    module _ {ws'' : List ℕ} {j : ℕ} where
      new_turn : {side : ℕ} → NotePut ws' ws'' n link side
          → (side ≡ 0 → (Ordering.lt ≡ string_compare key (key_at ws' txt link)) × (j ≡ left_link (record_at ws' link)))
          → ((side ≡ 0 → ⊥) → (Ordering.gt ≡ string_compare key (key_at ws' txt link))
          × (j ≡ right_link (record_at ws' link))) → SideTaken ws'' txt key root link side j
      new_turn q f h =
          let k = key_stays q.changed.stays txt link p (omega (arith, mark_within, mark_above)) in
          let r = record_stays q.changed.stays link p (omega (arith, mark_within, mark_above)) in
          record {
            some = p;
            within = omega (arith, g.search.small);
            left = λ z. rw (k, r) (f z);
            right = λ z. rw (k, r) (h z);
          }

      pub mark_left : Ordering.lt ≡ string_compare key (key_at ws' txt link) → j ≡ left_link (record_at ws' link)
          → NotePut ws' ws'' n link 0 → Marking ws txt key records root count ws'' (n - 1) j
      mark_left e i q = mark_more q j p (search_left g.search p (rw old_key at e) (rw old_record at i)) (new_turn q (λ _. (e, i)) (λ z. absurd (z refl)))

      pub mark_right : Ordering.gt ≡ string_compare key (key_at ws' txt link) → j ≡ right_link (record_at ws' link)
          → NotePut ws' ws'' n link 1 → Marking ws txt key records root count ws'' (n - 1) j
      mark_right e i q =
          mark_more q j p (search_right g.search p (rw old_key at e) (rw old_record at i)) (new_turn q (λ z. absurd (omega arith)) (λ _. (e, i)))

    pub mark_here : {ws'' : List ℕ} → Ordering.eq ≡ string_compare key (key_at ws' txt link) → NotePut ws' ws'' n link 0
        → Marked ws ws'' txt key records root count
    mark_here e q = mark_end q (search_here g.search p (rw old_key at e)).builds (λ _. e)

  pub mark_none : {ws'' : List ℕ} → link ≤ 0 → NotePut ws' ws'' n 0 0 → Marked ws ws'' txt key records root count
  mark_none h q =
      let z : link ≡ 0 = omega arith in
      mark_end {side = 0} (rw z q) (search_none g.search h).builds (λ p. absurd (omega arith))
