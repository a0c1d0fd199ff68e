-- The trie at a query (host_of): descending by scope_of, where a missing namespace gives the empty trie and all below it is empty.
use mathlib.Core.Path.{◌≡◌, refl, sym}
use mathlib.Core.List.{[], ◌∷◌}
use mathlib.Core.Option.{Option, none, some}
use Rattle.source.specs.Text.{Str, Query}
use Rattle.source.specs.Types.{Trie, namespaces, trie_empty}
use Rattle.source.specs.Tries.{dflt, bind_option, names_find_exact, trie_descend_exact, scope_of, included}
use Rattle.source.specs.Plans.{host_of}

module _ {A : Type 0} where
  pub host_of_step : (tr : Trie A) (s : Str) (q : Query) → host_of tr (s ∷ q) ≡ host_of (scope_of (namespaces tr) s) q
  unfolding host_of
  host_of_step tr s q = refl

  pub scope_of_empty : (s : Str) → scope_of (namespaces (trie_empty {A = A})) s ≡ trie_empty
  unfolding scope_of namespaces trie_empty names_find_exact dflt
  scope_of_empty s = refl

  pub host_of_empty : (q : Query) → host_of (trie_empty {A = A}) q ≡ trie_empty
  unfolding host_of
  host_of_empty [] = refl
  host_of_empty (s ∷ q) = rw scope_of_empty (host_of_empty q)

  -- The included trie is the host of its query: a walk by scope_of need not remember that a namespace was missing.
  pub included_host : (tr : Trie A) (q : Query) → included tr q ≡ host_of tr q
  unfolding included trie_descend_exact host_of scope_of dflt bind_option
  included_host tr [] = refl
  included_host tr (s ∷ q) = go (names_find_exact (namespaces tr) s) (λ scope. included_host scope q)
    where
      go : (o : Option (Trie A)) → ((scope : Trie A) → included scope q ≡ host_of scope q)
          → dflt trie_empty (bind_option o (λ scope. trie_descend_exact scope q)) ≡ host_of (dflt trie_empty o) q
      go none h = sym (host_of_empty q)
      go (some scope) h = h scope
