-- Insertion into a list: what it asks and what it leaves.
use Rattle.std.specs.Prelude.{ℕ, ◌+◌, ◌≤◌, ◌≡◌, List}
use Rattle.source.specs.Limits.{heaviest_list}
use Rattle.source.specs.Types.{Level, NameList}
use Rattle.source.specs.Tries.{names_insert}
use Rattle.source.specs.Terms.{weight}
use Rattle.source.specs.Plans.{insert_branches, first_tree}
use Rattle.memory.specs.Layout.{span, Which, Item, list, kind, value, what, text_len, text_start}
use Rattle.memory.specs.Sound.{LinkOk, Used}
use Rattle.insert_tree.specs.Insert.{NewBranch}
use Rattle.insert_record.specs.Made.{Room, Made}

-- names_insert of the key and the value of a new branch r into the list of link x.
abbrev pub inserted : (w : Which) (ws txt : List ℕ) (ℓ : Level) (x : ℕ) (r : List ℕ) → NameList (Item w) ℓ
inserted w ws txt ℓ x r =
    names_insert (what w ws txt x (list ℓ)) (span txt (text_start r) (text_len r)) (value w txt r (what w ws txt) ℓ)

-- The new branch r goes into the list of link x; count is that of the branches it builds, after which one collection is put.
pub record NamesInsertion (ws txt : List ℕ) (w : Which) (ℓ : Level) (records used x count : ℕ)
    (r : List ℕ) : Type 0 where
  pub sound : Used ws txt records used
  pub link : LinkOk ws (records + 1) x (kind w (list ℓ))
  pub new : NewBranch ws txt used (records + 1) w r ℓ
  pub counted : count ≡ insert_branches (first_tree (what w ws txt x (list ℓ))) (span txt (text_start r) (text_len r))
  pub light : weight (inserted w ws txt ℓ x r) ≤ heaviest_list
  pub room : Room ws records (count + 1)

-- The same, of some table and level and some text used.
pub record AnyNamesInsertion (ws txt : List ℕ) (records x count : ℕ) (r : List ℕ) : Type 0 where
  pub which : Which
  pub level : Level
  pub used : ℕ
  pub insertion : NamesInsertion ws txt which level records used x count r

-- names_insert, for any table, level and text used that the insertion is of.
abbrev pub NamesInserts : (ws ws' txt : List ℕ) (records x count : ℕ) (r : List ℕ) (link : ℕ) → Type 0
NamesInserts ws ws' txt records x count r link =
    (w : Which) (ℓ : Level) (used : ℕ) → NamesInsertion ws txt w ℓ records used x count r
    → Made ws ws' txt records (records + count + 1) used w (list ℓ) link (inserted w ws txt ℓ x r)
