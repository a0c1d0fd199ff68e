-- Plans step by step.
use mathlib.Core.Path.{◌≡◌, refl}
use mathlib.Core.List.{[]}
use Rattle.source.specs.Text.{Str, Query}
use Rattle.source.specs.Types.{Trie}
use Rattle.source.specs.Plans.{along}

module _ {A B : Type 0} (op : B → B → B) (step : Trie A → Str → Query → B) (end : Trie A → B) where
  pub along_host : (tr : Trie A) → along op step end tr [] ≡ end tr
  unfolding along
  along_host tr = refl
