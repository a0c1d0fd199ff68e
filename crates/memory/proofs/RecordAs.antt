-- A record with right parts is right, kind by kind.
use Prim.Native.Nat.{ℕ, ◌<◌}
use mathlib.Core.List.{List}
use native.Mathlib.Omega.{arith}
use Rattle.source.specs.Types.{Level}
use Rattle.source.specs.Rules.{◌<ˢ◌, AllKeys, Ordered}
use Rattle.memory.specs.Layout.{word, key_of, Which, tree, kind, row, what}
use Rattle.memory.specs.Sound.{LinkOk, BranchOk, RecordOk}
use Rattle.memory.proofs.What.{what_none}
use Rattle.memory.proofs.RecordOk.{zero_some, ordered_at}

module _ {ws txt : List ℕ} {used l : ℕ} (rows : (j : ℕ) → 0 < j → j < l → RecordOk ws txt used j) (w : Which) where
  -- The keys of a tree that a link names ascend.
  pub link_ordered : (ℓ : Level) (x : ℕ) → LinkOk ws l x (kind w (tree ℓ)) → Ordered (what w ws txt x (tree ℓ))
  link_ordered ℓ x h =
      zero_some x
      (λ e. rw (e, what_none w ws txt) tt)
      (λ p. ordered_at (rows x p h.earlier) w ℓ (h.of_kind (λ q. omega arith)))

  module _ {r : List ℕ} where
    pub branch_ordered : {ℓ : Level} → BranchOk ws txt used l w r ℓ
        → AllKeys (λ x. x <ˢ key_of txt r) (what w ws txt (word r 3) (tree ℓ))
        → AllKeys (λ x. key_of txt r <ˢ x) (what w ws txt (word r 4) (tree ℓ))
        → Ordered (row w txt r (what w ws txt) (tree ℓ))
    branch_ordered {ℓ} o a b = (a, b, link_ordered ℓ (word r 3) o.left, link_ordered ℓ (word r 4) o.right)
