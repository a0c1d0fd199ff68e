-- Of the branches past a bound only the first can be the next match.
use Prim.Native.Nat.{ℕ, ◌<◌}
use mathlib.Core.Path.{◌≡◌, refl, sym, ap, ◌∙◌}
use mathlib.Core.Bool.{Bool, true, false}
use mathlib.Core.List.{List, [], ◌∷◌}
use Rattle.source.specs.Text.{Str, starts_with}
use Rattle.source.specs.Rules.{◌<ˢ◌}
use Rattle.source.specs.Shared.{Allˡ}
use Rattle.source.proofs.Lookup.{Allˡ-map, Increasing}
use Rattle.memory.specs.Layout.{key_at}
use Rattle.find_tree.specs.Tree.{AnyTree}
use Rattle.find_tree.specs.Links.{branches, keep, matches, past}
use Rattle.std.specs.Prelude.{Option, Some, slice_get}
use Rattle.std.proofs.lemmas.Option.{none-some, same_Some}
use Rattle.find_tree.proofs.Keep.{by_test, keep_none, keep_swap, all_keep, kept_pass, keep_increasing}
use Rattle.find_tree.specs.Links.{BranchOf}
use Rattle.find_tree.proofs.Links.{branches_of, branch_tree}
use Rattle.find_tree.proofs.Past.{past_of_prefix, past_begun}
use Rattle.source.proofs.Order.{starts_self}
use Rattle.find_tree.proofs.Matches.{branches_increasing, matches_past}
use Rattle.match_next.specs.Begun.{begun}

-- Of ascending keys past p those that begin with it come first.
first_begun : (key : ℕ → Str) (p : Str) (xs : List ℕ) → Increasing key xs
    → Allˡ (λ y. past false p (key y) ≡ true) xs
    → slice_get (keep key (λ k. starts_with k p) xs) 0 ≡ begun key p (slice_get xs 0)
unfolding keep begun
first_begun key p [] i a = refl
first_begun key p (x ∷ xs) i a =
    by_test (starts_with (key x) p)
    (λ e. rw e)
    (λ e. rw e
    (ap (λ m. slice_get m 0) (keep_none key (λ k. starts_with k p) xs
    (Allˡ-map {P = λ y. key x <ˢ key y} {Q = λ y. starts_with (key y) p ≡ false} xs (λ y. past_begun p (key x) (key y) a.0 e) i.0))))

module _ {ws txt : List ℕ} {root : ℕ} (a : AnyTree ws txt root) where
  -- The branches past a bound are branches.
  past_of : (strict : Bool) (low : Str)
      → Allˡ (BranchOf ws a.which a.level root) (keep (key_at ws txt) (past strict low) (branches ws root))
  past_of strict low =
      all_keep (key_at ws txt) (BranchOf ws a.which a.level root) (past strict low) (branches ws root)
      (Allˡ-map {P = BranchOf ws a.which a.level root} {Q = λ y. past strict low (key_at ws txt y) ≡ true → BranchOf ws a.which a.level root y}
      (branches ws root) (λ y o _. o) (branches_of root a.tree))

  -- The first of them is a tree.
  pub first_tree : (strict : Bool) (low : Str) {x : ℕ}
      → Some x ≡ slice_get (keep (key_at ws txt) (past strict low) (branches ws root)) 0 → (0 < x) × AnyTree ws txt x
  first_tree strict low e = go (keep (key_at ws txt) (past strict low) (branches ws root)) (past_of strict low) e
    where
      go : {x : ℕ} (xs : List ℕ) → Allˡ (BranchOf ws a.which a.level root) xs → Some x ≡ slice_get xs 0
          → (0 < x) × AnyTree ws txt x
      go [] o e = absurd (none-some _ (sym e))
      go (y ∷ xs) o e = rw (same_Some _ _ e) (o.0.some, branch_tree a.tree o.0)

  -- The first match past a bound is the first branch past it, or there is none.
  pub next_is : (strict : Bool) (low p : Str) → starts_with low p ≡ true → {o : Option ℕ}
      → o ≡ slice_get (keep (key_at ws txt) (past strict low) (branches ws root)) 0
      → begun (key_at ws txt) p o ≡ slice_get (keep (key_at ws txt) (past strict low) (matches ws txt root p)) 0
  unfolding matches
  next_is strict low p s e =
      let b = past strict low in
      let l = keep (key_at ws txt) b (branches ws root) in
      ap (begun (key_at ws txt) p) e
      ∙ sym (first_begun (key_at ws txt) p l (keep_increasing (key_at ws txt) b (branches ws root) (branches_increasing a.tree))
      (Allˡ-map {P = λ y. b (key_at ws txt y) ≡ true} {Q = λ y. past false p (key_at ws txt y) ≡ true} l
      (λ y h. past_of_prefix strict low p (key_at ws txt y) s h) (kept_pass (key_at ws txt) b (branches ws root))))
      ∙ ap (λ m. slice_get m 0) (keep_swap (key_at ws txt) (λ k. starts_with k p) b (branches ws root))

  -- The first match is the first branch past the prefix, or there is none.
  pub first_is : (p : Str) {o : Option ℕ} → o ≡ slice_get (keep (key_at ws txt) (past false p) (branches ws root)) 0
      → begun (key_at ws txt) p o ≡ slice_get (matches ws txt root p) 0
  first_is p e = next_is false p p (starts_self p) e ∙ ap (λ m. slice_get m 0) (matches_past ws txt p root)
