-- A list of collections of the record memory by its link, and what its readers answer.
use Rattle.std.specs.Prelude.{ℕ, ◌+◌, ◌<◌, ◌≤◌, ◌≡◌, List, eqb, Option, IfSome}
use Rattle.std.specs.Option.{unwrap_or}
use Rattle.std.proofs.Math.Option.{none, some}
use Rattle.source.specs.Text.{Str}
use Rattle.source.specs.Types.{Level, Value, NameList, []ᴺ, Names, ImportedNames}
use Rattle.source.specs.Tries.{names_find_exact, names_insert}
use Rattle.source.specs.Terms.{weight}
use Rattle.source.specs.Plans.{insert_branches, first_tree}
use Rattle.memory.specs.Layout.{pick, Which, Item, tree, list, kind, what, key_at}
use Rattle.memory.specs.Sound.{LinkOk, At}
use Rattle.find_tree.specs.Tree.{held}

-- What names_insert puts the first tree in front of.
unfoldable pub first_rest : {A : Type 0} {ℓ : Level} → NameList A ℓ → NameList A ℓ
first_rest []ᴺ = []ᴺ
first_rest (Names bt tl) = tl
first_rest (ImportedNames label inner tl) = ImportedNames label inner tl

-- The same, of some table and level.
pub record AnyList (ws txt : List ℕ) (x : ℕ) : Type 0 where
  pub which : Which
  pub level : Level
  pub list : At ws txt which (list level) x

-- The links of the first tree and of the rest.
pub record LedIn (ws txt : List ℕ) (w : Which) (ℓ : Level) (x first rest : ℕ) : Type 0 where
  pub first_link : LinkOk ws (x + 1) first (kind w (tree ℓ))
  pub rest_link : LinkOk ws (x + 1) rest (kind w (list ℓ))
  pub first_reads : first_tree (what w ws txt x (list ℓ)) ≡ what w ws txt first (tree ℓ)
  pub rest_reads : first_rest (what w ws txt x (list ℓ)) ≡ what w ws txt rest (list ℓ)

-- The same, for any text, table and level that the list is of.
abbrev pub Led : (ws : List ℕ) (x first rest : ℕ) → Type 0
Led ws x first rest = (txt : List ℕ) (w : Which) (ℓ : Level) → At ws txt w (list ℓ) x → LedIn ws txt w ℓ x first rest

-- The link r is that of the first holder's branch, 0 for none.
pub record HolderIn (ws txt : List ℕ) (w : Which) (ℓ : Level) (x : ℕ) (key : Str) (r : ℕ) : Type 0 where
  pub link : LinkOk ws (x + 1) r (kind w (tree ℓ))
  pub has_key : 0 < r → key_at ws txt r ≡ key
  pub says : names_find_exact (what w ws txt x (list ℓ)) key ≡ pick (eqb r 0) none (some (held w ws txt ℓ r))

-- names_find_exact, for any table and level that the list is of.
abbrev pub Holder : (ws txt : List ℕ) (x : ℕ) (key : Str) (r : ℕ) → Type 0
Holder ws txt x key r = (w : Which) (ℓ : Level) → At ws txt w (list ℓ) x → HolderIn ws txt w ℓ x key r

-- The branches that names_insert builds, and the weight of what it gives.
pub record InsertIn (ws txt : List ℕ) (w : Which) (ℓ : Level) (x : ℕ) (key : Str) (count wt : ℕ) : Type 0 where
  pub builds : count ≡ insert_branches (first_tree (what w ws txt x (list ℓ))) key
  pub weighs : (a : Value (Item w) ℓ) → wt ≡ weight (names_insert (what w ws txt x (list ℓ)) key a)

-- The first holder, whose link is not 0, and the insertion for any table and level that the list is of.
pub record NamesPlaced (ws txt : List ℕ) (x : ℕ) (key : Str) (holder : Option ℕ) (count wt : ℕ) : Type 0 where
  pub nonzero : IfSome holder (λ link. 0 < link)
  pub found : Holder ws txt x key (unwrap_or holder 0)
  pub small : count ≤ x + 1
  pub light : wt ≤ 97
  pub inserts : (w : Which) (ℓ : Level) → At ws txt w (list ℓ) x → InsertIn ws txt w ℓ x key count wt
