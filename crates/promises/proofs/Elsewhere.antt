-- A change at a host leaves the look-ups alone that do not pass through it.
use mathlib.Core.Path.{◌≡◌, refl, sym, ap, ◌∙◌}
use mathlib.Core.Logic.{◌⊎◌, inl, inr}
use mathlib.Core.List.{[], ◌∷◌, ◌++◌}
use mathlib.Core.Option.{Option, none, some}
use Rattle.source.specs.Text.{Str, Query}
use Rattle.source.specs.Types.{Value, Trie, NameList, bind, ns, trie, bindings, namespaces, trie_empty}
use Rattle.source.specs.Tries.{dflt, bind_option, names_find_exact, names_insert, scope_of, trie_find_exact, trie_mutate, trie_mutate_leaf}
use Rattle.source.specs.Plans.{host_of}
use Rattle.source.proofs.Imports.{names_find_inserted}
use Rattle.source.proofs.Elsewhere.{key_same_or_not, names_find_other}

module _ {A : Type 0} where
  find_empty : (q : Query) → trie_find_exact {A = A} trie_empty q ≡ none
  unfolding trie_find_exact trie_empty bindings namespaces bind_option names_find_exact
  find_empty [] = refl
  find_empty (s ∷ []) = refl
  find_empty (s ∷ (t ∷ q)) = refl

  pub find_scope : (nl : NameList A ns) (s : Str) (q : Query)
      → trie_find_exact (scope_of nl s) q ≡ bind_option (names_find_exact nl s) (λ scope. trie_find_exact scope q)
  unfolding scope_of dflt bind_option
  find_scope nl s q = go (names_find_exact nl s)
    where
      go : (o : Option (Trie A))
          → trie_find_exact (dflt trie_empty o) q ≡ bind_option o (λ scope. trie_find_exact scope q)
      go none = find_empty q
      go (some scope) = refl

  -- Where the change at the host leaves the rest of the look-up alone, it leaves the look-up alone.
  elsewhere : (leaf : Trie A → Trie A) (tr : Trie A) (host rev q : Query)
      → ((rest : Query) → q ≡ host ++ rest
      → trie_find_exact (leaf (host_of tr host)) rest ≡ trie_find_exact (host_of tr host) rest)
      → trie_find_exact (trie_mutate tr host rev (λ tr _ _ _ n. trie (bindings tr) n) (λ at _. leaf at)) q
      ≡ trie_find_exact tr q
  unfolding trie_mutate trie_find_exact host_of bindings namespaces bind_option
  elsewhere leaf tr [] rev q d = d q refl
  elsewhere leaf tr (h ∷ host) rev [] d = refl
  elsewhere leaf tr (h ∷ host) rev (s ∷ []) d = refl
  elsewhere leaf tr (h ∷ host) rev (s ∷ (t ∷ q)) d =
      go (key_same_or_not s h) (λ n. elsewhere leaf (scope_of (namespaces tr) h) host (h ∷ rev) (t ∷ q) n)
    where
      below : Trie A
      below = trie_mutate (scope_of (namespaces tr) h) host (h ∷ rev) (λ tr _ _ _ n. trie (bindings tr) n) (λ at _. leaf at)

      on : Trie A → Option (Value A bind)
      on scope = trie_find_exact scope (t ∷ q)

      new : NameList A ns
      new = names_insert (namespaces tr) h below

      go : (s ≡ h) ⊎ (s ≡ h → ⊥)
          → (((rest : Query) → t ∷ q ≡ host ++ rest
          → trie_find_exact (leaf (host_of tr (h ∷ host))) rest ≡ trie_find_exact (host_of tr (h ∷ host)) rest)
          → on below ≡ on (scope_of (namespaces tr) h))
          → bind_option (names_find_exact new s) on ≡ bind_option (names_find_exact (namespaces tr) s) on
      go (inl e) ih =
          ap (λ k. bind_option (names_find_exact new k) on) e
          ∙ ap (λ o. bind_option o on) (names_find_inserted (namespaces tr) h below) ∙ ih (λ rest f. d rest (cc)) ∙ find_scope (namespaces tr) h (t ∷ q)
          ∙ ap (λ k. bind_option (names_find_exact (namespaces tr) k) on) (sym e)
      go (inr n) ih = ap (λ o. bind_option o on) (names_find_other (namespaces tr) h s below n)

  pub leaf_elsewhere : (leaf : Trie A → Trie A) (tr : Trie A) (host q : Query)
      → ((rest : Query) → q ≡ host ++ rest
      → trie_find_exact (leaf (host_of tr host)) rest ≡ trie_find_exact (host_of tr host) rest)
      → trie_find_exact (trie_mutate_leaf tr host (λ at _. leaf at)) q ≡ trie_find_exact tr q
  unfolding trie_mutate_leaf
  leaf_elsewhere leaf tr host q d = elsewhere leaf tr host [] q d
