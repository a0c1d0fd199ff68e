-- The trees of a list of collections that have a match, in flattened order, one to a cell.
use Rattle.std.specs.Prelude.{ℕ, suc, ◌+◌, ◌<◌, ◌≤◌, ◌≡◌, List, [], ◌∷◌, map, length, get_or}
use Rattle.std.proofs.Math.Option.{Option}
use Rattle.source.specs.Limits.{heaviest_list}
use Rattle.source.specs.Text.{Str}
use Rattle.source.specs.Types.{Level, Value}
use Rattle.source.specs.Trees.{PathElem}
use Rattle.source.specs.Lists.{nonempty}
use Rattle.source.specs.Listing.{SearchTerm, with_imports}
use Rattle.source.specs.Table.{last_opt}
use Rattle.source.specs.Forward.{tree_matches}
use Rattle.source.specs.Forward.{flat_in}
use Rattle.memory.specs.Layout.{Which, Item, tree, list, kind, what}
use Rattle.memory.specs.Sound.{LinkOk, At}
use Rattle.merge_heads.specs.declared.Cell.{Cell}
use Rattle.merge_heads.specs.Compare.{roots, labels, heads, beginnings, Begun}
use Rattle.find_tree.specs.Links.{matches, row_at}
use Rattle.find_list.specs.Entries.{label_at, Asks, LabelOk}

-- A tree, the collection of its outermost label, 0 for none, and its imports.
pub record TreePart (ws txt : List ℕ) : Type 0 where
  pub root : ℕ
  pub label : ℕ
  pub imports : List Str
  pub labelled : label_at ws txt label ≡ last_opt imports

-- The tree's matches with its imports.
unfoldable pub elements : (w : Which) (ws txt : List ℕ) (ℓ : Level) → Option Str → Str → TreePart ws txt
    → List (PathElem × Value (Item w) ℓ)
elements w ws txt ℓ q p c = with_imports (c.imports, map (row_at w ws txt ℓ q) (matches ws txt c.root p))

-- There are 96 of each.
pub record Full (roots heads beginnings labels : List ℕ) : Type 0 where
  pub of_roots : length roots ≡ heaviest_list
  pub of_heads : length heads ≡ heaviest_list
  pub of_beginnings : length beginnings ≡ heaviest_list
  pub of_labels : length labels ≡ heaviest_list

-- The cell i is as it was.
pub record SameCell (roots heads beginnings labels roots' heads' beginnings' labels' : List ℕ) (i : ℕ) : Type 0 where
  pub root : get_or roots' i 0 ≡ get_or roots i 0
  pub head : get_or heads' i 0 ≡ get_or heads i 0
  pub beginning : get_or beginnings' i 0 ≡ get_or beginnings i 0
  pub label : get_or labels' i 0 ≡ get_or labels i 0

module _ (ws txt : List ℕ) (w : Which) (ℓ : Level) (l : ℕ) (p : Str) (roots heads beginnings labels : List ℕ) where
  -- The cell i has the tree of c, its first match with the beginning of its key, and its label. Their links are no later than l.
  pub record HasPart (i : ℕ) (c : TreePart ws txt) : Type 0 where
    pub root_is : get_or roots i 0 ≡ c.root
    pub label_is : get_or labels i 0 ≡ c.label
    pub others : List ℕ
    pub first_is : matches ws txt c.root p ≡ get_or heads i 0 ∷ others
    pub begun : Begun ws txt heads beginnings i
    pub root_link : LinkOk ws (l + 1) c.root (kind w (tree ℓ))
    pub label_ok : LabelOk ws w ℓ l c.label

  -- The cells from i on have these parts.
  pub data HasParts : ℕ → List (TreePart ws txt) → Type 0 where
    no_more : {i : ℕ} → HasParts i []
    more : {i : ℕ} {c : TreePart ws txt} {cs : List (TreePart ws txt)} → HasPart i c → HasParts (suc i) cs
        → HasParts i (c ∷ cs)

-- Each tree's matches below some imports, the empty ones left out.
abbrev pub match_lists_in : (w : Which) (ws txt : List ℕ) (ℓ : Level) → SearchTerm → List Str → ℕ
    → List (List (PathElem × Value (Item w) ℓ))
match_lists_in w ws txt ℓ term imports x =
    nonempty (map (λ u. with_imports (u.0, tree_matches term u.1)) (flat_in imports (what w ws txt x (list ℓ))))

module _ (ws txt : List ℕ) (p : Str) (x label i r : ℕ)
    (roots heads beginnings labels roots' heads' beginnings' labels' : List ℕ) where
  -- The cells from i to r have the trees of the list x that have a match; those before i are as they were.
  pub record CollectedIn (w : Which) (ℓ : Level) (l : ℕ) (imports : List Str) : Type 0 where
    pub parts : List (TreePart ws txt)
    pub count : r ≡ i + length parts
    pub has : HasParts ws txt w ℓ l p roots' heads' beginnings' labels' i parts
    pub lists : (term : SearchTerm) (q : Option Str) → Asks term p q
        → match_lists_in w ws txt ℓ term imports x ≡ map (elements w ws txt ℓ q p) parts

  -- The same for any table, level, imports with that label, and later link.
  pub record Collected : Type 0 where
    pub from : i ≤ r
    pub full : Full roots' heads' beginnings' labels'
    pub kept : (j : ℕ) → j < i → SameCell roots heads beginnings labels roots' heads' beginnings' labels' j
    pub says : (w : Which) (ℓ : Level) (l : ℕ) (imports : List Str) → At ws txt w (list ℓ) x → x ≤ l
        → LabelOk ws w ℓ l label
        → label_at ws txt label ≡ last_opt imports → CollectedIn w ℓ l imports

-- The same, of the cells.
abbrev pub Collects : (ws txt : List ℕ) (p : Str) (x label i r : ℕ) → List Cell → List Cell → Type 0
Collects ws txt p x label i r cells cells' =
    Collected ws txt p x label i r (roots cells) (heads cells) (beginnings cells) (labels cells)
    (roots cells') (heads cells') (beginnings cells') (labels cells')
