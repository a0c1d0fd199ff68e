-- What the parts of a listing give, joined: a trie is entered, then its bindings are listed, then its namespaces.
use Prim.Native.Nat.{ℕ, suc, ◌+◌}
use mathlib.Core.Path.{◌≡◌, refl, sym, ap, ap₂, ◌∙◌}
use mathlib.Core.List.{List, [], ◌∷◌, ◌++◌, flat_map, tail}
use native.Mathlib.Omega.{arith}
use Rattle.source.specs.Text.{Query}
use Rattle.source.specs.Types.{Value, Trie, bind, ns, bindings, namespaces}
use Rattle.source.specs.Trees.{PathElem}
use Rattle.source.specs.Listing.{PathOf, ns_search_term, bindings_search_term}
use Rattle.source.specs.Shared.{sumˡ}
use Rattle.source.specs.Forward.{entered}
use Rattle.source.specs.Forward.{found}
use Rattle.source.specs.Forward.{line, made}
use Rattle.source.proofs.Lines.{made_is, entered_is}
use Rattle.memory.specs.Layout.{Item}
use Rattle.listing_ask.specs.Ask.{asked, line_for}
use Rattle.listing_line.specs.Goes.{Result, ◌⊕◌}
use Rattle.listing_ask.specs.declared.Ask.{Ask}
use Rattle.listing_trie.specs.Runs.{trie_gives, elements_give}

-- One trie entered, with no line.
abbrev pub once : {A : Type 0} → Result A
once = record { lines = []; entered = 1 }

module _ (a : Ask) (n : ℕ) (path : PathOf) (q : Query) where
  bind_lines : (xs : List (PathElem × Value (Item (asked a)) bind))
      → (elements_give a bind n path q xs).lines ≡ flat_map (λ x. line_for a (line path x)) xs
  unfolding elements_give flat_map ◌⊕◌
  bind_lines [] = refl
  bind_lines (x ∷ xs) = ap (λ l. line_for a (line path x) ++ l) (bind_lines xs)

  pub bind_entered : (xs : List (PathElem × Value (Item (asked a)) bind))
      → (elements_give a bind n path q xs).entered ≡ 0
  unfolding elements_give ◌⊕◌
  bind_entered [] = refl
  bind_entered (x ∷ xs) = omega (arith, bind_entered xs)

  ns_lines : (xs : List (PathElem × Trie (Item (asked a))))
      → (elements_give a ns n path q xs).lines ≡ flat_map (λ x. made (line_for a) n x.1 (x.0 ∷ path) q) xs
  unfolding elements_give flat_map ◌⊕◌
  ns_lines [] = refl
  ns_lines (x ∷ xs) = ap (λ l. made (line_for a) n x.1 (x.0 ∷ path) q ++ l) (ns_lines xs)

  ns_entered : (xs : List (PathElem × Trie (Item (asked a))))
      → (elements_give a ns n path q xs).entered ≡ sumˡ (λ x. entered n x.1 q) xs
  unfolding elements_give ◌⊕◌
  ns_entered [] = refl
  ns_entered (x ∷ xs) = ap (λ l. entered n x.1 q + l) (ns_entered xs)

pub trie_gives_is : (a : Ask) (n : ℕ) (tr : Trie (Item (asked a))) (path : PathOf) (q : Query)
    → trie_gives a (suc n) tr path q
    ≡ once ⊕ (elements_give a bind n path (tail q)
    (found (bindings tr) (bindings_search_term q)) ⊕ elements_give a ns n path (tail q)
    (found (namespaces tr) (ns_search_term q)))
unfolding ◌⊕◌
trie_gives_is a n tr path q =
    ap₂ (λ l e. record { lines = l; entered = e })
    (made_is (line_for a) n tr path q
    ∙ sym (ap₂ ◌++◌ (bind_lines a n path (tail q) (found (bindings tr) (bindings_search_term q)))
    (ns_lines a n path (tail q) (found (namespaces tr) (ns_search_term q)))))
    (omega (
      arith,
      entered_is n tr q,
      bind_entered a n path (tail q) (found (bindings tr) (bindings_search_term q)),
      ns_entered a n path (tail q) (found (namespaces tr) (ns_search_term q)),
    ))
