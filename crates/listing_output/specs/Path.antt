-- The path to a trie, as links: the branches of namespaces from the root on.
use Rattle.std.specs.Prelude.{ℕ, zero, suc, ◌<◌, List, [], ◌∷◌, ◌++◌, get_or}
use Rattle.source.specs.Text.{Str, dot}
use Rattle.source.specs.Types.{Level}
use Rattle.memory.specs.Layout.{Which, tree, key_at}
use Rattle.memory.specs.Sound.{At}

-- The keys of the first n links, each with a dot after it.
unfoldable pub joined : (ws txt links : List ℕ) → ℕ → Str
joined ws txt links zero = []
joined ws txt links (suc n) = joined ws txt links n ++ (key_at ws txt (get_or links n 0) ++ (dot ∷ []))

-- Link x is that of a branch of the level v.
pub record BranchAt (ws txt : List ℕ) (w : Which) (ℓ : Level) (x : ℕ) : Type 0 where
  pub some : 0 < x
  pub at : At ws txt w (tree ℓ) x
