-- A tree of the record memory by the link of its root, and what the searches on its keys answer.
use Rattle.std.specs.Prelude.{ℕ, ◌+◌, ◌<◌, ◌≤◌, ◌≡◌, List, eqb, IfSome}
use Rattle.std.specs.Option.{unwrap_or}
use Rattle.std.proofs.Math.Option.{none, some}
use Rattle.source.specs.Text.{Str}
use Rattle.source.specs.Types.{Level, Value}
use Rattle.source.specs.Trees.{btree_find_exact}
use Rattle.source.specs.Plans.{insert_branches}
use Rattle.memory.specs.Layout.{key_at, record_at, pick, Which, Item, tree, kind, value, what}
use Rattle.memory.specs.Sound.{LinkOk, At}
use Rattle.find_tree.specs.declared.Place.{Place}

-- What that key stands for.
unfoldable pub held : (w : Which) → List ℕ → List ℕ → (ℓ : Level) → ℕ → Value (Item w) ℓ
held w ws txt ℓ l = value w txt (record_at ws l) (what w ws txt) ℓ

-- The same, of some table and level.
pub record AnyTree (ws txt : List ℕ) (x : ℕ) : Type 0 where
  pub which : Which
  pub level : Level
  pub tree : At ws txt which (tree level) x

-- The link r is that of the branch that has the key, 0 for none.
pub record FindsBranchIn (ws txt : List ℕ) (w : Which) (ℓ : Level) (root : ℕ) (key : Str) (r : ℕ) : Type 0 where
  pub link : LinkOk ws (root + 1) r (kind w (tree ℓ))
  pub has_key : 0 < r → key_at ws txt r ≡ key
  pub says : btree_find_exact (what w ws txt root (tree ℓ)) key ≡ pick (eqb r 0) none (some (held w ws txt ℓ r))

-- btree_find_exact, for any table and level that the tree is of.
abbrev pub FindsBranch : (ws txt : List ℕ) (root : ℕ) (key : Str) (r : ℕ) → Type 0
FindsBranch ws txt root key r = (w : Which) (ℓ : Level) → At ws txt w (tree ℓ) root
    → FindsBranchIn ws txt w ℓ root key r

-- How many branches btree_insert_replace builds, for any table and level that the tree is of.
pub record Builds (ws txt : List ℕ) (root : ℕ) (key : Str) (r : ℕ) : Type 0 where
  pub small : r ≤ root + 1
  pub says : (w : Which) (ℓ : Level) → At ws txt w (tree ℓ) root → r ≡ insert_branches (what w ws txt root (tree ℓ)) key

-- Both, of the place of a key. A link that it has is not 0.
pub record Placed (ws txt : List ℕ) (root : ℕ) (key : Str) (p : Place) : Type 0 where
  pub nonzero : IfSome p.link (λ link. 0 < link)
  pub found : FindsBranch ws txt root key (unwrap_or p.link 0)
  pub builds : Builds ws txt root key p.count
