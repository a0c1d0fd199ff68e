-- A list that is one tree.
use Rattle.std.specs.Prelude.{ℕ, ◌+◌, ◌≡◌, List, Option, Some, None}
use Rattle.source.specs.Types.{Level, []ᴺ, Names}
use Rattle.memory.specs.Layout.{Which, tree, list, kind, what}
use Rattle.memory.specs.Sound.{LinkOk, At}

-- The tree of root r is all that the list x has.
pub record SingleIn (ws txt : List ℕ) (w : Which) (ℓ : Level) (x r : ℕ) : Type 0 where
  pub link : LinkOk ws (x + 1) r (kind w (tree ℓ))
  pub reads : what w ws txt x (list ℓ) ≡ Names (what w ws txt r (tree ℓ)) []ᴺ

-- The same of an answer, where there is one, for any text, table and level that the list is of.
abbrev pub Single : (ws : List ℕ) (x : ℕ) → Option ℕ → Type 0
Single ws x None = Unit
Single ws x (Some r) = (txt : List ℕ) (w : Which) (ℓ : Level) → At ws txt w (list ℓ) x → SingleIn ws txt w ℓ x r
