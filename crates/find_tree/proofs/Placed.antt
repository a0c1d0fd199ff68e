-- A search that goes down from the root: what the tree at hand says is what the whole says.
use Rattle.std.specs.Prelude.{Some, None}
use Prim.Native.Nat.{Ordering}
use Prim.Native.Nat.{ℕ, ◌+◌, ◌≤◌, ◌<◌}
use mathlib.Core.Path.{◌≡◌, refl, sym, ◌∙◌, subst}
use mathlib.Core.List.{List}
use native.Mathlib.Omega.{arith}
use native.Mathlib.Numerals.{add-one}
use borrow.Author.Tests.{ne_eqb}
use Rattle.source.specs.Text.{Str, string_compare}
use Rattle.source.specs.Types.{Level}
use Rattle.source.specs.Trees.{btree_find_exact}
use Rattle.source.proofs.Order.{View, compare_strings}
use Rattle.source.specs.Plans.{insert_branches}
use Rattle.memory.specs.Layout.{record_at, Which, tree, what, key_at, left_link, right_link}
use Rattle.memory.proofs.What.{what_none}
use Rattle.find_tree.specs.Tree.{AnyTree, Placed}
use Rattle.find_tree.proofs.Branches.{branch_reads, left_tree, right_tree, sides_earlier, any_left, any_right}
use Rattle.memory.specs.Sound.{At}

pub compare_eq_same : (s t : Str) → Ordering.eq ≡ string_compare s t → s ≡ t
compare_eq_same s t e = subst (View s t) (sym e) (compare_strings s t)

-- The same search in the whole tree and in that of link, for one table and level.
pub record SearchIn (ws txt : List ℕ) (w : Which) (ℓ : Level) (root : ℕ) (key : Str) (link count : ℕ) : Type 0 where
  pub here : At ws txt w (tree ℓ) link
  pub finds : btree_find_exact (what w ws txt root (tree ℓ)) key ≡ btree_find_exact (what w ws txt link (tree ℓ)) key
  pub builds : insert_branches (what w ws txt root (tree ℓ)) key + 1
      ≡ insert_branches (what w ws txt link (tree ℓ)) key + count

-- The search stands at link, and would build count branches if the key were there.
pub record Search (ws txt : List ℕ) (root : ℕ) (key : Str) (link count : ℕ) : Type 0 where
  pub some : 0 < count
  pub small : count + link ≤ root + 1
  pub any : AnyTree ws txt link
  pub says : (w : Which) (ℓ : Level) → At ws txt w (tree ℓ) root → SearchIn ws txt w ℓ root key link count

pub search_all : {ws txt : List ℕ} {root : ℕ} {key : Str} → AnyTree ws txt root → Search ws txt root key root 1
search_all a = record { some = omega arith; small = omega arith; any = a; says = λ w v t. record { here = t; finds = refl; builds = refl } }

module _ {ws txt : List ℕ} {root : ℕ} {key : Str} {link count : ℕ} (g : Search ws txt root key link count) where
  module _ (p : 0 < link) where
    -- The search goes on at the side x, which says what the branch says.
    search_on : (x : ℕ) → x < link → AnyTree ws txt x
        → ((w : Which) (ℓ : Level) → At ws txt w (tree ℓ) link
        → At ws txt w (tree ℓ) x
        × (btree_find_exact (what w ws txt link (tree ℓ)) key ≡ btree_find_exact (what w ws txt x (tree ℓ)) key)
        × (insert_branches (what w ws txt link (tree ℓ)) key ≡ insert_branches (what w ws txt x (tree ℓ)) key + 1))
        → Search ws txt root key x (count + 1)
    search_on x h a f = record {
      some = omega arith;
      small = omega (arith, g.small);
      any = a;
      says = λ w ℓ t.
          let s = g.says w ℓ t in
          let y = f w ℓ s.here in
          record { here = y.0; finds = s.finds ∙ y.1; builds = omega (arith, s.builds, y.2) };
    }

    pub search_left : {j : ℕ} → Ordering.lt ≡ string_compare key (key_at ws txt link)
        → j ≡ left_link (record_at ws link) → Search ws txt root key j (count + 1)
    unfolding btree_find_exact insert_branches
    search_left e q =
        rw q
        (search_on (left_link (record_at ws link)) (sides_earlier g.any p).0 (any_left g.any p)
        (λ w v t. (left_tree t p, rw (branch_reads t p, btree_find_exact, ← e), rw (branch_reads t p, insert_branches, ← e) (sym (add-one _)))))

    pub search_right : {j : ℕ} → Ordering.gt ≡ string_compare key (key_at ws txt link)
        → j ≡ right_link (record_at ws link) → Search ws txt root key j (count + 1)
    unfolding btree_find_exact insert_branches
    search_right e q =
        rw q
        (search_on (right_link (record_at ws link)) (sides_earlier g.any p).1 (any_right g.any p)
        (λ w v t. (right_tree t p, rw (branch_reads t p, btree_find_exact, ← e), rw (branch_reads t p, insert_branches, ← e) (sym (add-one _)))))

    pub search_here : Ordering.eq ≡ string_compare key (key_at ws txt link)
        → Placed ws txt root key (record { link = Some link; count = count })
    unfolding btree_find_exact insert_branches
    search_here e = record {
      nonzero = p;
      found = λ w ℓ t.
          let s = g.says w ℓ t in
          record {
            link = record { earlier = omega (arith, g.small, g.some); of_kind = s.here.link.of_kind };
            has_key = λ _. sym (compare_eq_same key (key_at ws txt link) e);
            says = s.finds ∙ rw (branch_reads s.here p, btree_find_exact, ← e, ne_eqb link 0 (λ z. omega arith));
          };
      builds = record {
        small = omega (arith, g.small);
        says = λ w ℓ t.
            let s = g.says w ℓ t in
            let n : insert_branches (what w ws txt link (tree ℓ)) key ≡ 1 = rw (branch_reads s.here p, insert_branches, ← e) in
            omega (arith, s.builds);
      };
    }

  pub search_none : link ≤ 0 → Placed ws txt root key (record { link = None; count = count })
  unfolding btree_find_exact insert_branches
  search_none h =
      let z : link ≡ 0 = omega arith in
      record {
        nonzero = tt;
        found = λ w ℓ t.
            let s = g.says w ℓ t in
            record {
              link = record { earlier = omega arith; of_kind = λ n. absurd (n refl) };
              has_key = λ l. absurd (omega arith);
              says = s.finds ∙ rw (z, what_none w ws txt);
            };
        builds = record {
          small = omega (arith, g.small);
          says = λ w ℓ t.
              let s = g.says w ℓ t in
              let n : insert_branches (what w ws txt link (tree ℓ)) key ≡ 1 = rw (z, what_none w ws txt) in
              omega (arith, s.builds);
        };
      }
