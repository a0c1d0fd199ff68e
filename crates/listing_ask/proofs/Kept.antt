-- What a filter keeps, by the sort of the symbol and whether it is loaded.
use mathlib.Core.Path.{◌≡◌, refl}
use mathlib.Core.Bool.{Bool, true, false, not}
use Rattle.source.specs.Text.{Str}
use Rattle.source.specs.Table.{Module, Namespace}
use Rattle.source.specs.Calls as C
use Rattle.source.specs.Calls.{Loaded, ModulesOnly, NamespacesOnly, keeps}
use Rattle.memory.specs.Layout.{pick}

module _ (m loaded : Bool) (name path : Str) where
  abbrev kept : C.Filter → Bool
  kept f = keeps f (pick m (Module name path loaded) (Namespace name loaded))

module _ (loaded : Bool) (name path : Str) where
  pub keeps_loaded : (m : Bool) → loaded ≡ kept m loaded name path Loaded
  unfolding keeps
  keeps_loaded true = refl
  keeps_loaded false = refl

  pub keeps_modules : (m : Bool) → m ≡ kept m loaded name path ModulesOnly
  unfolding keeps
  keeps_modules true = refl
  keeps_modules false = refl

  pub keeps_namespaces : (m : Bool) → not m ≡ kept m loaded name path NamespacesOnly
  unfolding keeps
  keeps_namespaces true = refl
  keeps_namespaces false = refl
