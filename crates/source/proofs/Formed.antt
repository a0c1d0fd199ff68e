-- Formed lists are ordered, and the rows that a search finds in them are formed.
use mathlib.Core.Path.{◌≡◌, refl}
use Rattle.source.specs.Text.{Str}
use Rattle.source.specs.Types.{Level, Trie, Tree, NameList, trie, StrEmpty, StrBranch, []ᴺ, Names, ImportedNames, bindings, namespaces}
use Rattle.source.specs.Terms.{depth, depth_names}
use Rattle.source.specs.Listing.{SearchTerm, elem_key, names_find_rev_first}
use Rattle.source.specs.Rules.{Ordered, Formed, FormedTree, FormedNames}
use Rattle.source.specs.Shared.{Allˡ}
use Rattle.source.proofs.Rows.{AllBranches, AllNamed, names_find_first_all}
use Rattle.source.proofs.Names.{OrderedN}

module _ {A : Type 0} (Key Label : Str → Type 0) (Item : A → Type 0) where
  pub formed_ordered : {ℓ : Level} (bt : Tree A ℓ) → FormedTree Key Label Item bt → Ordered bt
  formed_ordered StrEmpty g = tt
  formed_ordered (StrBranch k v lbt rbt) g = (g.2, g.3, formed_ordered lbt g.4, formed_ordered rbt g.5)

  pub formed_orderedN : {ℓ : Level} (nl : NameList A ℓ) → FormedNames Key Label Item nl → OrderedN nl
  formed_orderedN []ᴺ g = tt
  formed_orderedN (Names bt tl) g = (formed_ordered bt g.0, formed_orderedN tl g.1)
  formed_orderedN (ImportedNames label inner tl) g = (formed_orderedN inner g.1, formed_orderedN tl g.2)

  -- each row of a formed list is formed
  formed_branches : {ℓ : Level} (bt : Tree A ℓ) → FormedTree Key Label Item bt
      → AllBranches (λ k v. Key k × Formed Key Label Item v) bt
  formed_branches StrEmpty g = tt
  formed_branches (StrBranch k v lbt rbt) g = ((g.0, g.1), formed_branches lbt g.4, formed_branches rbt g.5)

  pub formed_named : {ℓ : Level} (nl : NameList A ℓ) → FormedNames Key Label Item nl
      → AllNamed (λ k v. Key k × Formed Key Label Item v) nl
  formed_named []ᴺ g = tt
  formed_named (Names bt tl) g = (formed_branches bt g.0, formed_named tl g.1)
  formed_named (ImportedNames label inner tl) g = (formed_named inner g.1, formed_named tl g.2)

  pub formed_parts : (tr : Trie A) → Formed Key Label Item tr
      → FormedNames Key Label Item (bindings tr) × FormedNames Key Label Item (namespaces tr)
      × (depth tr ≡ depth_names (namespaces tr))
  unfolding bindings namespaces depth
  formed_parts (trie b n) g = (g.0, g.1, refl)

  pub rows_formed : {ℓ : Level} (nl : NameList A ℓ) (term : SearchTerm) → FormedNames Key Label Item nl
      → Allˡ (λ y. Key (elem_key y) × Formed Key Label Item y.1) (names_find_rev_first nl term)
  rows_formed nl term g = names_find_first_all (λ k v. Key k × Formed Key Label Item v) nl term (formed_named nl g)
