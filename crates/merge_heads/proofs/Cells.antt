-- The cells as four lists, when one is read and when one is changed.
use Prim.Native.Nat.{ℕ}
use mathlib.Core.Path.{◌≡◌, refl, ap, ◌∙◌}
use mathlib.Core.List.{List}
use lib.ListN.{get_or, get_or-map, set}
use lib.Seq.{map-set, map-set_same}
use Rattle.merge_heads.specs.declared.Cell.{Cell}
use Rattle.merge_heads.specs.Compare.{roots, labels, heads, beginnings, with_beginning, HeadSet}
use Rattle.merge_heads.proofs.Heads.{empty}

module _ (cells : List Cell) (c : ℕ) where
  pub root_at : get_or (roots cells) c 0 ≡ (get_or cells c empty).root
  root_at = get_or-map (λ x. x.root) cells c empty

  pub label_at : get_or (labels cells) c 0 ≡ (get_or cells c empty).label
  label_at = get_or-map (λ x. x.label) cells c empty

  pub head_at : get_or (heads cells) c 0 ≡ (get_or cells c empty).head
  head_at = get_or-map (λ x. x.head) cells c empty

-- The cell c with another tree, and with another label.
abbrev pub with_root : List Cell → (c r : ℕ) → List Cell
with_root cells c r =
    let k = get_or cells c empty in
    set cells c (record { root = r; label = k.label; head = k.head; beginning = k.beginning })

abbrev pub with_label : List Cell → (c l : ℕ) → List Cell
with_label cells c l =
    let k = get_or cells c empty in
    set cells c (record { root = k.root; label = l; head = k.head; beginning = k.beginning })

module _ (cells : List Cell) (c r : ℕ) where
  pub root_set : roots (with_root cells c r) ≡ set (roots cells) c r
  root_set = map-set (λ x. x.root) cells c _

  pub root_labels : labels (with_root cells c r) ≡ labels cells
  root_labels = map-set_same (λ x. x.label) cells c _ empty refl

  pub root_heads : heads (with_root cells c r) ≡ heads cells
  root_heads = map-set_same (λ x. x.head) cells c _ empty refl

  pub root_beginnings : beginnings (with_root cells c r) ≡ beginnings cells
  root_beginnings = map-set_same (λ x. x.beginning) cells c _ empty refl

module _ (cells : List Cell) (c l : ℕ) where
  label_set : labels (with_label cells c l) ≡ set (labels cells) c l
  label_set = map-set (λ x. x.label) cells c _

  label_roots : roots (with_label cells c l) ≡ roots cells
  label_roots = map-set_same (λ x. x.root) cells c _ empty refl

  label_heads : heads (with_label cells c l) ≡ heads cells
  label_heads = map-set_same (λ x. x.head) cells c _ empty refl

  label_beginnings : beginnings (with_label cells c l) ≡ beginnings cells
  label_beginnings = map-set_same (λ x. x.beginning) cells c _ empty refl

-- The cell c is given a tree, its label and the branch x.
pub record Placed (ws txt : List ℕ) (cells cells' : List Cell) (c r l x : ℕ) : Type 0 where
  pub roots_are : roots cells' ≡ set (roots cells) c r
  pub labels_are : labels cells' ≡ set (labels cells) c l
  pub heads_are : heads cells' ≡ set (heads cells) c x
  pub beginnings_are : beginnings cells' ≡ with_beginning ws txt (beginnings cells) c x

pub placed : {ws txt : List ℕ} (cells : List Cell) {cells' : List Cell} {c r l x : ℕ}
    → HeadSet ws txt (with_label (with_root cells c r) c l) cells' c x → Placed ws txt cells cells' c r l x
placed {ws} {txt} cells {cells'} {c} {r} {l} {x} b = record {
  roots_are = b.roots_are ∙ label_roots (with_root cells c r) c l ∙ root_set cells c r;
  labels_are = b.labels_are ∙ label_set (with_root cells c r) c l ∙ ap (λ (s : List ℕ). set s c l) (root_labels cells c r);
  heads_are = b.heads_are ∙ ap (λ (s : List ℕ). set s c x) (label_heads (with_root cells c r) c l ∙ root_heads cells c r);
  beginnings_are = b.beginnings_are
      ∙ ap (λ (s : List ℕ). with_beginning ws txt s c x) (label_beginnings (with_root cells c r) c l ∙ root_beginnings cells c r);
}
