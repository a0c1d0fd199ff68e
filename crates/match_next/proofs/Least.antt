-- The least branch of a tree, the least whose key is past a bound, and the one after another, each by one way down.
use Prim.Native.Nat.{ℕ, ◌≤◌, ◌<◌}
use mathlib.Core.Path.{◌≡◌, refl, sym, ◌∙◌}
use mathlib.Core.Bool.{Bool, true, false, true≢false}
use mathlib.Core.Logic.{⊎_elim}
use mathlib.Core.List.Memᴰ
use mathlib.Core.List.{List, [], ◌∷◌, ◌++◌, Memᴰ}
use native.Mathlib.Omega.{arith}
use native.Mathlib.Decide.{ℕ_discrete}
use Rattle.source.specs.Text.{Str}
use Rattle.source.specs.Types.{Level}
use Rattle.source.specs.Rules.{◌<ˢ◌}
use Rattle.memory.specs.Sound.{At}
use Rattle.memory.specs.Layout.{record_at, Which, tree, key_at, left_link, right_link}
use Rattle.memory.proofs.RecordOk.{zero_some}
use Rattle.find_tree.specs.Tree.{AnyTree}
use Rattle.find_tree.specs.Links.{branches, keep, past}
use Rattle.std.specs.Prelude.{Option, Some, None, slice_get}
use Rattle.find_tree.proofs.Branches.{any_left, any_right}
use Rattle.find_tree.proofs.Keep.{by_test, allˡ_at, keep_append, keep_none, keep_all}
use Rattle.find_tree.proofs.Links.{branches_none, branches_at, by_sides, all_before, all_beyond, among_branch}
use Rattle.find_tree.proofs.Past.{past_low, past_after, past_down, past_self}

-- The first element, d where there is none.
abbrev first : Option ℕ → List ℕ → Option ℕ
first d [] = d
first d (x ∷ l) = Some x

first_append : (d : Option ℕ) (xs m : List ℕ) → first d (xs ++ m) ≡ first (first d m) xs
first_append d [] m = refl
first_append d (x ∷ xs) m = refl

first_none : (xs : List ℕ) → first None xs ≡ slice_get xs 0
first_none [] = refl
first_none (x ∷ xs) = refl

-- A way down from root stands at link: the first of the root's list is the first of link's, or what was found where that is empty.
pub record Seeking (ws txt : List ℕ) (of : ℕ → List ℕ) (root link : ℕ) (found : Option ℕ) : Type 0 where
  pub any : AnyTree ws txt link
  pub says : slice_get (of root) 0 ≡ first found (of link)

pub seek_all : {ws txt : List ℕ} (of : ℕ → List ℕ) {root : ℕ} → AnyTree ws txt root → Seeking ws txt of root root None
seek_all of {root} a = record { any = a; says = sym (first_none (of root)) }

pub seek_end : {ws txt : List ℕ} {of : ℕ → List ℕ} {root link : ℕ} {found : Option ℕ}
    → Seeking ws txt of root link found → of 0 ≡ []
    → link ≤ 0 → found ≡ slice_get (of root) 0
seek_end {link = link} g e h = let z : link ≡ 0 = omega arith in sym (g.says ∙ rw (z, e))

-- ---- The least branch

module _ {ws txt : List ℕ} {root link : ℕ} {found : Option ℕ} (g : Seeking ws txt (branches ws) root link found)
    (p : 0 < link) where
  pub least_left : {k : ℕ} → k ≡ left_link (record_at ws link) → Seeking ws txt (branches ws) root k (Some link)
  least_left q =
      let left = left_link (record_at ws link) in
      record {
        any = rw q (any_left g.any p);
        says = g.says ∙ rw (branches_at g.any.tree p, q)
            (first_append found (branches ws left) (link ∷ branches ws (right_link (record_at ws link))));
      }

-- ---- The least past a bound

-- The branches of the tree x past the bound.
abbrev pub branches_past : (ws txt : List ℕ) (strict : Bool) (low : Str) → ℕ → List ℕ
branches_past ws txt strict low x = keep (key_at ws txt) (past strict low) (branches ws x)

pub past_none : (ws txt : List ℕ) (strict : Bool) (low : Str) → branches_past ws txt strict low 0 ≡ []
unfolding keep
past_none ws txt strict low = rw (branches_none ws)

module _ {ws txt : List ℕ} (strict : Bool) (low : Str) {root link : ℕ} {found : Option ℕ}
    (g : Seeking ws txt (branches_past ws txt strict low) root link found) (p : 0 < link) where
  abbrev left : ℕ
  left = left_link (record_at ws link)

  abbrev right : ℕ
  right = right_link (record_at ws link)

  here : first found (branches_past ws txt strict low link)
      ≡ first (first found (keep (key_at ws txt) (past strict low) (link ∷ branches ws right)))
      (branches_past ws txt strict low left)
  here = rw (branches_at g.any.tree p, keep_append (key_at ws txt) (past strict low) (branches ws left) (link ∷ branches ws right))
      (first_append found (branches_past ws txt strict low left) _)

  -- A branch that is past is found; what is to its left comes first.
  pub past_left : {k : ℕ} → past strict low (key_at ws txt link) ≡ true → k ≡ left
      → Seeking ws txt (branches_past ws txt strict low) root k (Some link)
  unfolding keep
  past_left e q = record { any = rw q (any_left g.any p); says = g.says ∙ here ∙ rw (e, q) }

  -- Nothing to the left of one that is not past is past.
  pub past_right : {k : ℕ} → past strict low (key_at ws txt link) ≡ false → k ≡ right
      → Seeking ws txt (branches_past ws txt strict low) root k found
  unfolding keep
  past_right e q = record {
    any = rw q (any_right g.any p);
    says = g.says ∙ here
        ∙ rw (
          e,
          q,
          keep_none (key_at ws txt) (past strict low) (branches ws left)
              (all_before g.any p (λ y. past strict low y ≡ false) (λ y. past_down strict low (key_at ws txt link) y e)),
        );
  }

-- ---- The branch after another

module _ {ws txt : List ℕ} {link at : ℕ} (a : AnyTree ws txt link) (m : Memᴰ at (branches ws link)) where
  pub among_some : 0 < link
  among_some = zero_some link (λ z. absurd (Memᴰ.not-nil (rw (z, branches_none ws) at m))) (λ p. p)

  among_earlier : at ≤ link
  among_earlier = omega (arith, (among_branch a.tree m).link.earlier)

module _ {ws txt : List ℕ} {link at : ℕ} (a : AnyTree ws txt link) (m : Memᴰ at (branches ws link))
    (n : link ≡ at → ⊥) where
  -- The branch is on the left and its key before that of link, or on the right and after it.
  by_side : {G : Type 0} → (Memᴰ at (branches ws (left_link (record_at ws link)))
      → past true (key_at ws txt at) (key_at ws txt link) ≡ true → G)
      → (Memᴰ at (branches ws (right_link (record_at ws link)))
      → past true (key_at ws txt at) (key_at ws txt link) ≡ false → G) → G
  by_side f g =
      let p = among_some a m in
      let k = key_at ws txt link in
      let left = left_link (record_at ws link) in
      let right = right_link (record_at ws link) in
      ⊎_elim
      (λ i. f i (past_after true (key_at ws txt at) k (allˡ_at (λ y. key_at ws txt y <ˢ k) (branches ws left) (all_before a p (λ y. y <ˢ k) (λ y z. z)) at i)))
      (λ i. ⊎_elim
      (λ e. absurd (n (sym e)))
      (λ j. g j (past_low true (key_at ws txt at) k (allˡ_at (λ y. k <ˢ key_at ws txt y) (branches ws right) (all_beyond a p (λ y. k <ˢ y) (λ y z. z)) at j)))
      (Memᴰ.cases_cons i))
      (Memᴰ.append_cases (branches ws left) (rw (branches_at a.tree p) at m))

  -- The sides' links tell.
  pub left_by : right_link (record_at ws link) < at → true ≡ past true (key_at ws txt at) (key_at ws txt link)
  left_by h = by_side (λ i e. sym e) (λ j e. absurd (omega (arith, among_earlier (any_right a (among_some a m)) j)))

  pub right_by : left_link (record_at ws link) < at → false ≡ past true (key_at ws txt at) (key_at ws txt link)
  right_by h = by_side (λ i e. absurd (omega (arith, among_earlier (any_left a (among_some a m)) i))) (λ j e. sym e)

  among_left : past true (key_at ws txt at) (key_at ws txt link) ≡ true
      → Memᴰ at (branches ws (left_link (record_at ws link)))
  among_left h = by_side (λ i e. i) (λ j e. absurd (true≢false (sym h ∙ e)))

  among_right : past true (key_at ws txt at) (key_at ws txt link) ≡ false
      → Memᴰ at (branches ws (right_link (record_at ws link)))
  among_right h = by_side (λ i e. absurd (true≢false (sym e ∙ h))) (λ j e. j)

-- A way down to the branch at stands at link.
pub record Nearing (ws txt : List ℕ) (root at link : ℕ) (found : Option ℕ) : Type 0 where
  pub among : Memᴰ at (branches ws link)
  pub seeking : Seeking ws txt (branches_past ws txt true (key_at ws txt at)) root link found

pub near_all : {ws txt : List ℕ} {root at : ℕ} → AnyTree ws txt root → Memᴰ at (branches ws root)
    → Nearing ws txt root at root None
near_all {ws} {txt} {at = at} a m = record { among = m; seeking = seek_all (branches_past ws txt true (key_at ws txt at)) a }

module _ {ws txt : List ℕ} {root at link : ℕ} {found : Option ℕ} (g : Nearing ws txt root at link found) where
  pub near_some : 0 < link
  near_some = among_some g.seeking.any g.among

  module _ (n : link ≡ at → ⊥) where
    pub near_left : {k : ℕ} → past true (key_at ws txt at) (key_at ws txt link) ≡ true
        → k ≡ left_link (record_at ws link) → Nearing ws txt root at k (Some link)
    near_left e q =
        record {
          among = rw q (among_left g.seeking.any g.among n e);
          seeking = past_left true (key_at ws txt at) g.seeking near_some e q;
        }

    pub near_right : {k : ℕ} → past true (key_at ws txt at) (key_at ws txt link) ≡ false
        → k ≡ right_link (record_at ws link) → Nearing ws txt root at k found
    near_right e q =
        record {
          among = rw q (among_right g.seeking.any g.among n e);
          seeking = past_right true (key_at ws txt at) g.seeking near_some e q;
        }

-- At the branch: what is to its right comes next.
near_here : {ws txt : List ℕ} {root at : ℕ} {found : Option ℕ} → Nearing ws txt root at at found
    → slice_get (branches_past ws txt true (key_at ws txt at) root) 0
    ≡ first found (branches ws (right_link (record_at ws at)))
near_here {ws} {txt} {at = at} g =
    let k = key_at ws txt at in
    (past_right true k g.seeking (near_some g) (past_self k) refl).says
    ∙ rw (keep_all (key_at ws txt) (past true k) (branches ws (right_link (record_at ws at)))
    (all_beyond g.seeking.any (near_some g) (λ y. past true k y ≡ true) (λ y. past_after true k y)))

pub near_end : {ws txt : List ℕ} {root at : ℕ} {found : Option ℕ} → Nearing ws txt root at at found
    → right_link (record_at ws at) ≡ 0 → found ≡ slice_get (branches_past ws txt true (key_at ws txt at) root) 0
near_end {ws} g e = sym (near_here g ∙ rw (e, branches_none ws))

-- Each way down to the branch reaches it.
near_at : {ws txt : List ℕ} {w : Which} {ℓ : Level} {root at : ℕ} (x : ℕ) → At ws txt w (tree ℓ) x → (found : Option ℕ)
    → Nearing ws txt root at x found → (f : Option ℕ) × Nearing ws txt root at at f
near_at {ws} {txt} {root = root} {at} =
    by_sides (λ x. (found : Option ℕ) → Nearing ws txt root at x found → (f : Option ℕ) × Nearing ws txt root at at f)
    (λ found g. absurd (omega (arith, near_some g)))
    (λ x t p left right found g.
    elim (ℕ_discrete x at) [
      | yes e ↦ (found, rw e at g)
      | no n ↦ by_test (past true (key_at ws txt at) (key_at ws txt x)) (λ e. left (Some x) (near_left g n e refl)) (λ e. right found (near_right g n e refl))
    ])

first_some : (d : Option ℕ) (xs m : List ℕ) (x : ℕ) → first d (xs ++ (x ∷ m)) ≡ slice_get (xs ++ (x ∷ m)) 0
first_some d [] m x = refl
first_some d (y ∷ xs) m x = refl

-- Where a branch has a right side, the least of it comes next.
pub right_next : {ws txt : List ℕ} {root at : ℕ} → AnyTree ws txt root → Memᴰ at (branches ws root)
    → 0 < right_link (record_at ws at)
    → slice_get (branches ws (right_link (record_at ws at))) 0
    ≡ slice_get (branches_past ws txt true (key_at ws txt at) root) 0
right_next {ws} {root = root} {at} a m q =
    let g = near_at root a.tree None (near_all a m) in
    let right = right_link (record_at ws at) in
    sym (near_here g.1 ∙ rw (branches_at (any_right g.1.seeking.any (near_some g.1)).tree q)
    (first_some g.0 (branches ws (left_link (record_at ws right))) (branches ws (right_link (record_at ws right))) right))
