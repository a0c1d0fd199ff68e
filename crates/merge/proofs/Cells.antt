-- The cells of a merge: what their trees, heads and labels name, the next match of a cell, and how many are left.
use Prim.Native.Nat.{ℕ, zero, suc, ◌≤◌, ◌<◌}
use mathlib.Core.Path.{◌≡◌, refl, sym, ◌∙◌}
use mathlib.Core.List.{List, [], ◌∷◌}
use native.Mathlib.Omega.{arith}
use native.Mathlib.Decide.{ℕ_discrete}
use lib.ListN.{get_or}
use Rattle.source.specs.Text.{Str}
use Rattle.source.specs.Types.{Level}
use Rattle.source.specs.Heap.{Heap}
use Rattle.source.specs.Lists.{first, priority}
use Rattle.source.specs.Shared.{Allˡ}
use Rattle.memory.specs.Layout.{Which, tree, key_at, list}
use Rattle.memory.specs.Read.{TextIn}
use Rattle.memory.proofs.Seen.{link_later}
use Rattle.merge_heads.specs.Compare.{Heads, Stands}
use Rattle.find_tree.specs.Tree.{AnyTree}
use Rattle.find_tree.specs.Links.{matches}
use Rattle.std.specs.Prelude.{Some, slice_get}
use Rattle.std.proofs.lemmas.Option.{none-some, same_Some}
use Rattle.find_tree.proofs.Branches.{text_in}
use Rattle.find_tree.specs.Links.{BranchOf}
use Rattle.find_tree.proofs.After.{all_after, after_next}
use Rattle.find_tree.proofs.Matches.{MatchOf, matches_of, matches_increasing}
use Rattle.find_list.specs.Entries.{entry_key}
use Rattle.merge.specs.Stream.{State, later, run_at, left, remaining, Holding}
use Rattle.memory.specs.Sound.{At}
use Rattle.memory.proofs.At.{at_of}

-- ---- The next match

module _ {ws txt : List ℕ} {w : Which} {ℓ : Level} {root : ℕ} (t : At ws txt w (tree ℓ) root) (p : Str) (head : ℕ) where
  later_of : Allˡ (MatchOf ws txt w ℓ root p) (later ws txt p root head)
  later_of = all_after (key_at ws txt) (MatchOf ws txt w ℓ root p) (key_at ws txt head) (matches ws txt root p) (matches_of t p)

  -- The branch r is the next match.
  pub record Next (r : ℕ) : Type 0 where
    pub is_next : later ws txt p root head ≡ r ∷ later ws txt p root r
    pub match : MatchOf ws txt w ℓ root p r

  pub later_next : (r : ℕ) → Some r ≡ slice_get (later ws txt p root head) 0 → Next r
  later_next r e = go (later ws txt p root head) refl later_of e
    where
      go : (xs : List ℕ) → later ws txt p root head ≡ xs → Allˡ (MatchOf ws txt w ℓ root p) xs → Some r ≡ slice_get xs 0
          → Next r
      go [] q a e = absurd (none-some r (sym e))
      go (y ∷ xs) q a e = record {
        is_next = q ∙ rw (same_Some r y e, ← after_next (key_at ws txt) (key_at ws txt head) (matches ws txt root p) (matches_increasing t p) y xs q) refl;
        match = rw (same_Some r y e) a.0;
      }

-- ---- What a cell names
module _ {ws txt : List ℕ} {w : Which} {ℓ : Level} {x : ℕ} (here : At ws txt w (list ℓ) x) where
  pub cell_branch_tree : {y : ℕ} → BranchOf ws w ℓ x y → (0 < y) × AnyTree ws txt y
  cell_branch_tree o = (o.some, record { which = w; level = ℓ; tree = at_of here (tree _) (omega arith) o.link })

  pub branch_head : {y : ℕ} → BranchOf ws w ℓ x y → TextIn ws txt y
  branch_head o = let t = cell_branch_tree o in text_in t.1 t.0

module _ {ws txt : List ℕ} {w : Which} {ℓ : Level} {x : ℕ} {p : Str} {m : State} {h : Heap ℕ}
    (g : Holding ws txt w ℓ x p m h) where
  pub cell_tree : (j : ℕ) → j < m.n → At ws txt w (tree ℓ) (get_or m.roots j 0)
  cell_tree j l = at_of g.here (tree _) (omega arith) (g.cells j l).root_link

  pub heads_of : Heads ws txt m.heads m.beginnings m.n
  heads_of = record {
    few = g.few;
    each = λ j l. record {
      small = omega (arith, g.few);
      text_in = branch_head g.here (g.cells j l).branch;
      begun = g.begun j l;
    };
  }

-- The next match of a cell is a branch of the list's trees.
pub next_branch : {ws txt : List ℕ} {w : Which} {ℓ : Level} {x : ℕ} {p : Str} {m : State} {h : Heap ℕ}
    (g : Holding ws txt w ℓ x p m h) {j r : ℕ} (l : j < m.n)
    → Next (cell_tree g j l) p (get_or m.heads j 0) r → BranchOf ws w ℓ x r
next_branch g {j} l m = record { some = m.match.branch.some; link = link_later (omega (arith, (g.cells j l).root_link.earlier)) m.match.branch.link }

pub cell_stands : (ws txt : List ℕ) (p : Str) (roots heads labels : List ℕ) (j : ℕ)
    → Stands (entry_key ws txt) ws txt heads j (run_at ws txt p roots heads labels j)
unfolding run_at first priority
cell_stands ws txt p roots heads labels j = record { key_is = refl; priority_is = refl }

-- ---- How many are left
module _ (ws txt : List ℕ) (p : Str) (roots heads roots' heads' : List ℕ) (c : ℕ)
    (others : (j : ℕ) → j < 96 → (j ≡ c → ⊥)
    → (get_or roots' j 0 ≡ get_or roots j 0) × (get_or heads' j 0 ≡ get_or heads j 0)) where
  left_other : (j : ℕ) → j < 96 → (j ≡ c → ⊥)
      → left ws txt p (get_or roots' j 0) (get_or heads' j 0) ≡ left ws txt p (get_or roots j 0) (get_or heads j 0)
  left_other j l n = rw ((others j l n).0, (others j l n).1)

  remaining_before : (n : ℕ) → n ≤ 96 → n ≤ c → remaining ws txt p roots' heads' n ≡ remaining ws txt p roots heads n
  unfolding remaining
  remaining_before zero k h = refl
  remaining_before (suc n) k h = omega (arith, left_other n (omega arith) (λ e. omega arith), remaining_before n (omega arith) (omega arith))

  pub remaining_less : (n : ℕ) → n ≤ 96 → c < n
      → left ws txt p (get_or roots' c 0) (get_or heads' c 0) < left ws txt p (get_or roots c 0) (get_or heads c 0)
      → remaining ws txt p roots' heads' n < remaining ws txt p roots heads n
  unfolding remaining
  remaining_less zero k l f = absurd (omega arith)
  remaining_less (suc n) k l f =
      elim (ℕ_discrete n c) [
        | yes e ↦ rw e (omega (arith, remaining_before c (omega arith) (omega arith)))
        | no ne ↦ omega (arith, left_other n (omega arith) ne, remaining_less n (omega arith) (omega arith) f)
      ]
