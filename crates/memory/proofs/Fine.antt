-- What the links of a sound memory read as is formed, no list weighs over 96, and no trie is deeper than 16.
use Prim.Native.Nat.{ℕ, ◌+◌, ◌≤◌}
use mathlib.Core.Path.{sym, subst}
use mathlib.Core.List.{List}
use native.Mathlib.Omega.{arith}
use native.Mathlib.Nat.{max-le}
use Rattle.source.specs.Types.{Level, bind, ns}
use Rattle.source.specs.Terms.{weight, depth, depth_names, heaviest, heaviest_tree, heaviest_names}
use Rattle.source.specs.Rules.{IsKey, IsLabel, NameItem, ModItem, Ordered, Formed, FormedTree, FormedNames}
use Rattle.memory.specs.Layout.{record_at, word, Which, names, modules, Item, item_of, Sort, tree, list, trieˢ, Of, kind, value, row, what}
use Rattle.memory.specs.Sound.{LinkOk, BranchOk, CollectionOk, ItemOk, RecordAs, Used}
use Rattle.memory.proofs.What.{what_none, what_row}
use Rattle.memory.proofs.RecordOk.{zero_one, zero_some, as_earlier, record_as, by_links}

abbrev pub IsItem : (w : Which) → Item w → Type 0
IsItem names = NameItem
IsItem modules = ModItem

-- Formed, and no list weighs over 96.
abbrev pub Fine : (w : Which) (so : Sort) → Of (Item w) so → Type 0
Fine w (tree ℓ) v = FormedTree IsKey IsLabel (IsItem w) v × (heaviest_tree v ≤ 96)
Fine w (list ℓ) v = FormedNames IsKey IsLabel (IsItem w) v × (heaviest_names v ≤ 96)
Fine w trieˢ v = Formed IsKey IsLabel (IsItem w) v × (heaviest v ≤ 96)

none_fine : (ws txt : List ℕ) (w : Which) (so : Sort) → Fine w so (what w ws txt 0 so)
unfolding heaviest heaviest_tree heaviest_names
none_fine ws txt w (tree ℓ) = rw (what_none w ws txt) (tt, omega arith)
none_fine ws txt w (list ℓ) = rw (what_none w ws txt) (tt, omega arith)
none_fine ws txt w trieˢ = rw (what_none w ws txt) ((tt, tt), omega arith)

pub item_fine : (txt : List ℕ) (used : ℕ) (w : Which) (r : List ℕ) → ItemOk txt used w r → IsItem w (item_of w txt r)
item_fine txt used names r o = tt
item_fine txt used modules r o =
    zero_one (word r 5) o.sort (λ z. rw z (o.name.keeps, (o.path z).keeps)) (λ z. rw z o.name.keeps)

module _ (ws txt : List ℕ) (used l : ℕ) (w : Which) (r : List ℕ)
    (ih : (x : ℕ) (so : Sort) → LinkOk ws l x (kind w so) → Fine w so (what w ws txt x so)) where
  branch_fine : (ℓ : Level) → BranchOk ws txt used l w r ℓ → Ordered (row w txt r (what w ws txt) (tree ℓ))
      → Formed IsKey IsLabel (IsItem w) (value w txt r (what w ws txt) ℓ)
      → heaviest (value w txt r (what w ws txt) ℓ) ≤ 96 → Fine w (tree ℓ) (row w txt r (what w ws txt) (tree ℓ))
  unfolding heaviest_tree
  branch_fine ℓ o a f h =
      let i = ih (word r 3) (tree ℓ) o.left in
      let j = ih (word r 4) (tree ℓ) o.right in
      ((o.key.keeps, f, a.0, a.1, i.0, j.0), max-le h (max-le i.1 j.1))

  collection_fine : (ℓ : Level) → CollectionOk ws txt used l w r ℓ → weight (row w txt r (what w ws txt) (list ℓ)) ≤ 96
      → Fine w (list ℓ) (row w txt r (what w ws txt) (list ℓ))
  unfolding heaviest_names
  collection_fine ℓ o h =
      let j = ih (word r 4) (list ℓ) o.rest in
      zero_one (word r 5) o.sort
      (λ z. let i = ih (word r 3) (tree ℓ) (o.own z) in rw z ((i.0, j.0), max-le (rw z at h) (max-le i.1 j.1)))
      (λ z. let i = ih (word r 3) (list ℓ) (o.imported z) in rw z (((o.label z).keeps, i.0, j.0), max-le (rw z at h) (max-le i.1 j.1)))

  row_fine : (so : Sort) → RecordAs ws txt used l w so r (row w txt r (what w ws txt) so)
      → Fine w so (row w txt r (what w ws txt) so)
  unfolding heaviest
  row_fine (tree bind) a = branch_fine bind a.0 a.1 (item_fine txt used w r a.2) (omega arith)
  row_fine (tree ns) a = let h = ih (word r 5) trieˢ a.2 in branch_fine ns a.0 a.1 h.0 h.1
  row_fine (list bind) a = collection_fine bind a.0 a.1.light
  row_fine (list ns) a = collection_fine ns a.0 a.1.light
  row_fine trieˢ a =
      let i = ih (word r 3) (list bind) a.0.bindings in
      let j = ih (word r 4) (list ns) a.0.namespaces in
      ((i.0, j.0), max-le i.1 j.1)

module _ {ws txt : List ℕ} {n used : ℕ} (o : Used ws txt n used) where
  -- Of every link of a sound memory.
  pub link_fine : (w : Which) (so : Sort) {l x : ℕ} → l ≤ n + 1 → LinkOk ws l x (kind w so)
      → Fine w so (what w ws txt x so)
  link_fine =
      by_links o.rows (λ w so x. Fine w so (what w ws txt x so)) (none_fine ws txt)
      (λ w so l p r ih.
      let e = what_row w ws txt so l p (as_earlier ws txt used l w so (record_at ws l) (what w ws txt l so) r) in
      subst (Fine w so) (sym e)
      (row_fine ws txt used l w (record_at ws l) ih so (subst (λ (v : Of (Item w) so). RecordAs ws txt used l w so (record_at ws l) v) e r)))

  pub link_shallow : (w : Which) {l x : ℕ} → l ≤ n + 1 → LinkOk ws l x (kind w trieˢ)
      → depth (what w ws txt x trieˢ) ≤ 16
  unfolding depth depth_names
  link_shallow w {x = x} h i =
      zero_some x
      (λ e. rw (e, what_none w ws txt) (omega arith))
      (λ p. (record_as (o.rows x p (omega (arith, i.earlier))) w trieˢ (i.of_kind (λ z. omega arith))).2)
