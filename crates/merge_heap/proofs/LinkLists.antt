-- The links of the cells as two lists, when one is read and when one is changed.
use Prim.Native.Nat.{ℕ}
use mathlib.Core.Path.{◌≡◌, refl}
use mathlib.Core.List.{List}
use lib.ListN.{get_or, get_or-map, set}
use lib.Seq.{map-set, map-set_same}
use Rattle.merge_heap.specs.declared.Links.{Links}
use Rattle.merge_heap.specs.Cells.{children, nexts}

abbrev pub none : Links
none = record { child = 0; next = 0 }

-- The links of the cell v, with another first child or another next sibling.
abbrev pub with_child : List Links → ℕ → ℕ → List Links
with_child links v x = set links v (record { child = x; next = (get_or links v none).next })

abbrev pub with_next : List Links → ℕ → ℕ → List Links
with_next links v x = set links v (record { child = (get_or links v none).child; next = x })

module _ (links : List Links) (v : ℕ) where
  pub child_at : get_or (children links) v 0 ≡ (get_or links v none).child
  child_at = get_or-map (λ l. l.child) links v none

  pub next_at : get_or (nexts links) v 0 ≡ (get_or links v none).next
  next_at = get_or-map (λ l. l.next) links v none

  module _ (x : ℕ) where
    pub child_set : children (with_child links v x) ≡ set (children links) v x
    child_set = map-set (λ l. l.child) links v _

    pub child_kept : nexts (with_child links v x) ≡ nexts links
    child_kept = map-set_same (λ l. l.next) links v _ none refl

    pub next_set : nexts (with_next links v x) ≡ set (nexts links) v x
    next_set = map-set (λ l. l.next) links v _

    pub next_kept : children (with_next links v x) ≡ children links
    next_kept = map-set_same (λ l. l.child) links v _ none refl
