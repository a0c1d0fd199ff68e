-- A branch of a tree: what it reads as, its key, and its two sides.
use Prim.Native.Nat.{ℕ, ◌+◌, ◌*◌, ◌≤◌, ◌<◌}
use mathlib.Core.Path.{◌≡◌}
use mathlib.Core.List.{List}
use native.Mathlib.Omega.{arith}
use lib.ListN.{length}
use Rattle.source.specs.Types.{Level, StrBranch}
use Rattle.source.specs.Rules.{Ordered}
use Rattle.memory.specs.Layout.{record_at, Which, tree, what, key_at, left_link, right_link, text_len, text_start}
use Rattle.memory.specs.Read.{TextIn}
use Rattle.memory.specs.Sound.{BranchOk, At}
use Rattle.memory.proofs.RecordOk.{links_earlier, branch_at, ordered_at}
use Rattle.memory.proofs.Seen.{link_fits, link_ok, link_what}
use Rattle.find_tree.specs.Tree.{held, AnyTree}
use Rattle.memory.proofs.At.{at_of}

pub any_tree : {ws txt : List ℕ} {w : Which} {ℓ : Level} {x : ℕ} → At ws txt w (tree ℓ) x → AnyTree ws txt x
any_tree {w = w} {ℓ} t = record { which = w; level = ℓ; tree = t }

module _ {ws txt : List ℕ} {w : Which} {ℓ : Level} {x : ℕ} (t : At ws txt w (tree ℓ) x) where
  module _ (p : 0 < x) where
    pub branch_right : BranchOk ws txt t.used x w (record_at ws x) ℓ
    branch_right = branch_at (link_ok t.sound t.link p) w ℓ (t.link.of_kind (λ e. omega arith))

    pub branch_tree_ordered : Ordered (what w ws txt x (tree ℓ))
    branch_tree_ordered = ordered_at (link_ok t.sound t.link p) w ℓ (t.link.of_kind (λ e. omega arith))

    pub branch_reads : what w ws txt x (tree ℓ)
        ≡ StrBranch (key_at ws txt x) (held w ws txt ℓ x) (what w ws txt (left_link (record_at ws x)) (tree ℓ))
        (what w ws txt (right_link (record_at ws x)) (tree ℓ))
    unfolding key_at held
    branch_reads = link_what t.sound w (tree ℓ) t.link p

    pub left_tree : At ws txt w (tree ℓ) (left_link (record_at ws x))
    left_tree = at_of t (tree ℓ) (omega arith) branch_right.left

    pub right_tree : At ws txt w (tree ℓ) (right_link (record_at ws x))
    right_tree = at_of t (tree ℓ) (omega arith) branch_right.right

module _ {ws txt : List ℕ} {x : ℕ} (a : AnyTree ws txt x) where
  pub tree_fits : x * 12 ≤ length ws
  tree_fits = link_fits a.tree.sound a.tree.link

  module _ (p : 0 < x) where
    pub key_inside : text_start (record_at ws x) + text_len (record_at ws x) ≤ length txt
    key_inside = omega (arith, (branch_right a.tree p).key.inside, a.tree.sound.text_fits)

    pub text_in : TextIn ws txt x
    text_in = record { some = p; within = tree_fits; inside = key_inside }

    pub sides_earlier : (left_link (record_at ws x) < x) × (right_link (record_at ws x) < x)
    sides_earlier = links_earlier (link_ok a.tree.sound a.tree.link p)

    pub any_left : AnyTree ws txt (left_link (record_at ws x))
    any_left = any_tree (left_tree a.tree p)

    pub any_right : AnyTree ws txt (right_link (record_at ws x))
    any_right = any_tree (right_tree a.tree p)
