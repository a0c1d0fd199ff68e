-- Lists that are as they were except from a place up to another.
use Prim.Native.Nat.{ℕ, ◌+◌, ◌-◌, ◌≤◌, ◌<◌}
use mathlib.Core.Path.{◌≡◌, refl, sym, ap, ◌∙◌}
use mathlib.Core.List.{List}
use native.Mathlib.Omega.{arith}
use lib.ListN.{get_or, set, take, drop, length-set}
use lib.Seq.{take-take, drop-drop, take-set-le, drop-set-lt, get_or-take, get_or-drop}
use Rattle.source.specs.Lent.{Outside}

pub outside_none : {a b : ℕ} (xs : List ℕ) → Outside a b xs xs
outside_none xs = record { before = refl; after = refl; size = refl }

pub outside_set : {a b i : ℕ} (xs : List ℕ) (v : ℕ) → a ≤ i → i < b → Outside a b xs (set xs i v)
outside_set {a} {b} {i} xs v h g = record { before = take-set-le a xs i v h; after = drop-set-lt b xs i v g; size = length-set xs i v }

pub outside_then : {a b : ℕ} {xs ys zs : List ℕ} → Outside a b xs ys → Outside a b ys zs → Outside a b xs zs
outside_then p q = record { before = q.before ∙ p.before; after = q.after ∙ p.after; size = q.size ∙ p.size }

drop_more : (b c : ℕ) (xs : List ℕ) → b ≤ c → drop c xs ≡ drop (c - b) (drop b xs)
drop_more b c xs h = let e : b + (c - b) ≡ c = omega arith in rw (drop-drop, e)

pub outside_wider : {a b : ℕ} (a' b' : ℕ) {xs m : List ℕ} → a' ≤ a → b ≤ b' → Outside a b xs m → Outside a' b' xs m
outside_wider {a} {b} a' b' {xs} {m} h g p = record {
  before = sym (take-take a' a m h) ∙ ap (take a') p.before ∙ take-take a' a xs h;
  after = drop_more b b' m g ∙ ap (drop (b' - b)) p.after ∙ sym (drop_more b b' xs g);
  size = p.size;
}

-- One part, then the next.
pub outside_next : {a b c : ℕ} {xs ys zs : List ℕ} → a ≤ b → b ≤ c → Outside a b xs ys → Outside b c ys zs
    → Outside a c xs zs
outside_next h g p q = outside_then (outside_wider _ _ (omega arith) g p) (outside_wider _ _ h (omega arith) q)

module _ {a b : ℕ} {xs m : List ℕ} (p : Outside a b xs m) (k : ℕ) where
  pub getD_before : k < a → get_or m k 0 ≡ get_or xs k 0
  getD_before h = sym (get_or-take a m k 0 h) ∙ ap (λ (x : List ℕ). get_or x k 0) p.before ∙ get_or-take a xs k 0 h

  at_after : (x : List ℕ) → b ≤ k → get_or (drop b x) (k - b) 0 ≡ get_or x k 0
  at_after x h = let e : b + (k - b) ≡ k = omega arith in get_or-drop b x (k - b) 0 ∙ ap (λ (j : ℕ). get_or x j 0) e

  pub get_d_after : b ≤ k → get_or m k 0 ≡ get_or xs k 0
  get_d_after h = sym (at_after m h) ∙ ap (λ (x : List ℕ). get_or x (k - b) 0) p.after ∙ at_after xs h
