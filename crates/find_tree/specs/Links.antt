-- The branches of a tree as links: those whose keys begin with a prefix, and what is left of them after a key.
use Prim.Native.Nat.{ℕ, zero, suc, ◌+◌, ◌<◌, Ordering}
use Rattle.std.specs.Prelude.{Bool, true, false, cond, not, List, [], ◌∷◌, ◌++◌, eqb}
use Rattle.std.proofs.Math.Option.{Option}
use Rattle.source.specs.Text.{Str, string_compare, starts_with}
use Rattle.source.specs.Types.{Level, Value}
use Rattle.source.specs.Trees.{PrefixMatch}
use Rattle.memory.specs.Layout.{record_at, left_link, right_link, Which, Item, tree, kind, key_at}
use Rattle.memory.specs.Sound.{LinkOk}
use Rattle.find_tree.specs.Tree.{held}

-- The links of the branches of the tree of link l, in order, among the first n records.
unfoldable pub branches_among : List ℕ → ℕ → ℕ → List ℕ
branches_among ws zero l = []
branches_among ws (suc n) l =
    cond (eqb l (suc n))
    (branches_among ws n (left_link (record_at ws (suc n)))
    ++ (suc n ∷ branches_among ws n (right_link (record_at ws (suc n)))))
    (branches_among ws n l)

-- The links of the branches of the tree of link l, in order.
unfoldable pub branches : List ℕ → ℕ → List ℕ
branches ws l = branches_among ws l l

-- The elements whose keys pass the test.
unfoldable pub keep : (ℕ → Str) → (Str → Bool) → List ℕ → List ℕ
keep key b [] = []
keep key b (x ∷ l) = cond (b (key x)) (x ∷ keep key b l) (keep key b l)

-- The links of the branches whose keys begin with p.
unfoldable pub matches : List ℕ → List ℕ → ℕ → Str → List ℕ
matches ws txt root p = keep (key_at ws txt) (λ k. starts_with k p) (branches ws root)

-- Whether the order of low and k says that k is past low: after it, or equal where strict is false.
unfoldable pub past_by : Bool → Ordering → Bool
past_by strict Ordering.lt = true
past_by strict Ordering.eq = not strict
past_by strict Ordering.gt = false

-- Whether k is past low.
unfoldable pub past : Bool → Str → Str → Bool
past strict low k = past_by strict (string_compare low k)

-- The elements whose keys are after k.
abbrev pub after : (ℕ → Str) → Str → List ℕ → List ℕ
after key k xs = keep key (past true k) xs

-- The first link, 0 where there is none.
abbrev pub head0 : List ℕ → ℕ
head0 [] = 0
head0 (x ∷ l) = x

-- The row of btree_find_prefix that the branch of link l gives.
unfoldable pub row_at : (w : Which) → List ℕ → List ℕ → (ℓ : Level) → Option Str → ℕ → PrefixMatch × Value (Item w) ℓ
row_at w ws txt ℓ p l = (record { prefix = p; completion = key_at ws txt l }, held w ws txt ℓ l)

-- A branch of the tree of link root.
pub record BranchOf (ws : List ℕ) (w : Which) (ℓ : Level) (root x : ℕ) : Type 0 where
  pub some : 0 < x
  pub link : LinkOk ws (root + 1) x (kind w (tree ℓ))
