-- What a completion finds in a list: branches, each with the collection of its outermost label, and what they show of the path elements that are found.
use Rattle.std.specs.Prelude.{ℕ, ◌+◌, ◌<◌, ◌≡◌, List, [], eqb}
use Rattle.std.proofs.Math.Option.{Option, none, some}
use Rattle.source.specs.Text.{Str}
use Rattle.source.specs.Types.{Level, Value}
use Rattle.source.specs.Trees.{PrefixMatch, PathElem}
use Rattle.source.specs.Listing.{SearchTerm, NSTAll, NSTPrefix}
use Rattle.source.specs.Table.{last_opt}
use Rattle.memory.specs.Layout.{record_at, sort_word, pick, Which, Item, list, kind, key_at}
use Rattle.memory.specs.Sound.{LinkOk}
use Rattle.find_tree.specs.Links.{row_at}

-- The link of a branch, and of the collection that has its outermost label, 0 for none.
pub record Entry : Type 0 where
  pub branch : ℕ
  pub label : ℕ

-- The key of an entry's branch.
abbrev pub entry_key : List ℕ → List ℕ → Entry → Str
entry_key ws txt e = key_at ws txt e.branch

-- The label of the collection of link l, none for 0. A collection has its label where a branch has its key.
abbrev pub label_at : List ℕ → List ℕ → ℕ → Option Str
label_at ws txt l = pick (eqb l 0) none (some (key_at ws txt l))

-- What an entry shows: the outermost label, the segment with the prefix field q, the value.
unfoldable pub shown : (w : Which) → List ℕ → List ℕ → (ℓ : Level) → Option Str → Entry
    → Option Str × (PrefixMatch × Value (Item w) ℓ)
shown w ws txt ℓ q e = (label_at ws txt e.label, row_at w ws txt ℓ q e.branch)

-- The same of a path element and its value: of the imports the outermost counts.
unfoldable pub outer : {A : Type 0} {ℓ : Level} → PathElem × Value A ℓ → Option Str × (PrefixMatch × Value A ℓ)
outer x = (last_opt x.0.imports, (x.0.segment, x.1))

-- A search term, the prefix that its keys begin with, and the prefix field of what it finds.
pub data Asks : SearchTerm → Str → Option Str → Type 0 where
  by_prefix : {p : Str} → Asks (NSTPrefix p) p (some p)
  by_all : Asks NSTAll [] none

-- The collection of a label: none, or one that imports a list, no later than link l.
pub record LabelOk (ws : List ℕ) (w : Which) (ℓ : Level) (l label : ℕ) : Type 0 where
  pub link : LinkOk ws (l + 1) label (kind w (list ℓ))
  pub imports : 0 < label → sort_word (record_at ws label) ≡ 1
