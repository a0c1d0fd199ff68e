-- The requirements' terms of lists and tries: flattening, holder, weight, depth, the walk.
use Rattle.std.specs.Prelude.{ℕ, suc, ◌+◌, max, List, [], ◌∷◌, ◌++◌}
use Rattle.std.proofs.Math.Option.{Option, none, some}
use Rattle.source.specs.Text.{Str, Query}
use Rattle.source.specs.Types.{Level, Value, Trie, Tree, NameList, bind, item, trie, StrEmpty, StrBranch, []ᴺ, Names, ImportedNames, bindings, namespaces}
use Rattle.source.specs.Trees.{btree_find_exact}
use Rattle.source.specs.Tries.{bind_option}

unfoldable pub first_of : {B : Type 0} → List B → Option B
first_of [] = none
first_of (b ∷ bs) = some b

module _ {A : Type 0} where
  -- Flattening: an imported list, itself flattened, stands at its collection's place.
  unfoldable pub flatten : {ℓ : Level} → NameList A ℓ → List (Tree A ℓ)
  flatten []ᴺ = []
  flatten (Names bt tl) = bt ∷ flatten tl
  flatten (ImportedNames label inner tl) = flatten inner ++ flatten tl

  unfoldable pub found_onto : {ℓ : Level} → Option (Value A ℓ) → List (Value A ℓ) → List (Value A ℓ)
  found_onto none vs = vs
  found_onto (some v) vs = v ∷ vs

  -- Holders of a name, in flattened order, by what they give.
  unfoldable pub holders : {ℓ : Level} → List (Tree A ℓ) → Str → List (Value A ℓ)
  holders [] k = []
  holders (bt ∷ bts) k = found_onto (btree_find_exact bt k) (holders bts k)

  -- Weight of a list: one for each collection, plus the weight of each imported list.
  unfoldable pub weight : {ℓ : Level} → NameList A ℓ → ℕ
  weight []ᴺ = 0
  weight (Names bt tl) = suc (weight tl)
  weight (ImportedNames label inner tl) = suc (weight inner + weight tl)

  -- The weight of the heaviest list.
  unfoldable mutual
    pub heaviest : {ℓ : Level} → Value A ℓ → ℕ
    heaviest (item a) = 0
    heaviest (trie b n) = max (heaviest_names b) (heaviest_names n)

    pub heaviest_tree : {ℓ : Level} → Tree A ℓ → ℕ
    heaviest_tree StrEmpty = 0
    heaviest_tree (StrBranch k v lbt rbt) = max (heaviest v) (max (heaviest_tree lbt) (heaviest_tree rbt))

    pub heaviest_names : {ℓ : Level} → NameList A ℓ → ℕ
    heaviest_names []ᴺ = 0
    heaviest_names (Names bt tl) = max (weight (Names bt tl)) (max (heaviest_tree bt) (heaviest_names tl))
    heaviest_names (ImportedNames label inner tl) =
        max (weight (ImportedNames label inner tl)) (max (heaviest_names inner) (heaviest_names tl))

  -- Depth of a trie: 0 if no namespace tree of its flattened list holds a key, else one more than the deepest trie held there.
  unfoldable mutual
    pub depth : {ℓ : Level} → Value A ℓ → ℕ
    depth (item a) = 0
    depth (trie b n) = depth_names n

    pub depth_tree : {ℓ : Level} → Tree A ℓ → ℕ
    depth_tree StrEmpty = 0
    depth_tree (StrBranch k v lbt rbt) = max (suc (depth v)) (max (depth_tree lbt) (depth_tree rbt))

    pub depth_names : {ℓ : Level} → NameList A ℓ → ℕ
    depth_names []ᴺ = 0
    depth_names (Names bt tl) = max (depth_tree bt) (depth_names tl)
    depth_names (ImportedNames label inner tl) = max (depth_names inner) (depth_names tl)

  -- The walk for a full name takes at each step the first holder in the flattened list: of the namespaces for each segment but the last,
  -- of the bindings for the last.
  unfoldable pub walk_first : Trie A → Query → Option (Value A bind)
  walk_first tr [] = none
  walk_first tr (s ∷ []) = first_of (holders (flatten (bindings tr)) s)
  walk_first tr (s ∷ (t ∷ q)) =
      bind_option (first_of (holders (flatten (namespaces tr)) s)) (λ scope. walk_first scope (t ∷ q))
