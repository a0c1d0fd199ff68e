-- The trees of a list that have a match, collected one collection after another.
use Prim.Native.Nat.{ℕ, zero, suc, ◌+◌, ◌<◌, ◌≤◌}
use mathlib.Core.Path.{◌≡◌, refl, sym, ap, ap₂, ◌∙◌}
use mathlib.Core.List.{List, [], ◌∷◌, ◌++◌, map, map-append}
use mathlib.Core.Option.{Option, none, some}
use native.Mathlib.Numerals.{add-one}
use native.Mathlib.Omega.{arith}
use lib.ListN.{length, length-map, set, length-append}
use lib.Seq.{get_or-set_same, get_or-set_other}
use borrow.Author.Tests.{ne_eqb}
use Rattle.source.specs.Text.{Str}
use Rattle.source.specs.Types.{Level, Value}
use Rattle.source.specs.Trees.{PathElem}
use Rattle.source.specs.Tries.{dflt}
use Rattle.source.specs.Terms.{weight}
use Rattle.source.specs.Lists.{nonempty}
use Rattle.source.specs.Listing.{SearchTerm, NSTPrefix, with_imports}
use Rattle.source.specs.Table.{last_opt}
use Rattle.source.specs.Forward.{tree_matches}
use Rattle.source.proofs.Forward.{nonempty_append}
use Rattle.source.specs.Forward.{flat_in}
use Rattle.source.proofs.Flat.{last_import}
use Rattle.memory.specs.Layout.{record_at, span, Which, Item, tree, list, what, key_at, own_link, rest_link, sort_word, text_len, text_start}
use Rattle.memory.specs.Stored.{weight_in}
use Rattle.memory.specs.Read.{TextIn}
use Rattle.memory.proofs.What.{what_none}
use Rattle.memory.proofs.Seen.{link_later}
use Rattle.merge_heads.specs.declared.Cell.{Cell}
use Rattle.merge_heads.specs.Compare.{roots, labels, heads, beginnings, with_beginning}
use Rattle.merge_heads.proofs.Heads.{head_begun}
use Rattle.find_tree.specs.Tree.{AnyTree}
use Rattle.find_tree.specs.Links.{matches, row_at}
use Rattle.std.specs.Prelude.{Some, None, slice_get}
use Rattle.std.proofs.lemmas.Option.{none-some, same_Some}
use Rattle.find_tree.proofs.Branches.{text_in}
use Rattle.find_tree.proofs.Matches.{matches_of, prefix_rows, all_rows}
use Rattle.find_list.specs.Names.{AnyList}
use Rattle.find_list.proofs.Collections.{any_imported, any_own, collection_right, sort_tree, rest_list, own_tree, names_reads, imported_list, imported_reads}
use Rattle.find_list.proofs.Collections.{list_weight, rest_lighter}
use Rattle.find_list.specs.Entries.{label_at, Asks, by_prefix, by_all}
use Rattle.find_list.specs.Entries.{LabelOk}
use Rattle.merge_collect.specs.Lists.{TreePart, elements, Full, SameCell, HasParts, no_more, more, match_lists_in, CollectedIn, Collected}
use Rattle.memory.specs.Sound.{At}
use Rattle.memory.proofs.At.{at_of}

-- ---- What a tree's matches are
module _ {ws txt : List ℕ} {w : Which} {ℓ : Level} {root : ℕ} (t : At ws txt w (tree ℓ) root) where
  rows_prefix : (p : Str) → tree_matches (NSTPrefix p) (what w ws txt root (tree ℓ))
      ≡ map (row_at w ws txt ℓ (some p)) (matches ws txt root p)
  unfolding tree_matches
  rows_prefix [] = sym (all_rows t (some []))
  rows_prefix (b ∷ p) = sym (prefix_rows t (b ∷ p))

  pub term_rows : {term : SearchTerm} {p : Str} {q : Option Str} → Asks term p q
      → tree_matches term (what w ws txt root (tree ℓ)) ≡ map (row_at w ws txt ℓ q) (matches ws txt root p)
  unfolding tree_matches
  term_rows (by_prefix {p}) = rows_prefix p
  term_rows by_all = sym (all_rows t none)

-- Where there is no first one there is none.
pub no_first : (xs : List ℕ) → None ≡ slice_get xs 0 → xs ≡ []
no_first [] e = refl
no_first (y ∷ xs) e = absurd (none-some y e)

head_tail : (xs : List ℕ) (r : ℕ) → Some r ≡ slice_get xs 0 → (tl : List ℕ) × (xs ≡ r ∷ tl)
head_tail [] r e = absurd (none-some r (sym e))
head_tail (y ∷ xs) r e = (xs, rw (same_Some r y e) refl)

-- ---- The outermost label
-- The outermost label, once the collection x is entered.
abbrev pub outermost : (label x : ℕ) → ℕ
outermost zero x = x
outermost (suc l) x = suc l

module _ {ws txt : List ℕ} {w : Which} {ℓ : Level} {l x : ℕ} (t : At ws txt w (list ℓ) x) (p : 0 < x) (h : x ≤ l)
    (e : sort_word (record_at ws x) ≡ 1) where
  outermost_ok : (label : ℕ) → LabelOk ws w ℓ l label → LabelOk ws w ℓ l (outermost label x)
  outermost_ok zero o = record { link = record { earlier = omega arith; of_kind = t.link.of_kind }; imports = λ _. e }
  outermost_ok (suc label) o = o

  outermost_at : (label : ℕ) (imports : List Str) → label_at ws txt label ≡ last_opt imports
      → label_at ws txt (outermost label x)
      ≡ last_opt (span txt (text_start (record_at ws x)) (text_len (record_at ws x)) ∷ imports)
  unfolding dflt key_at
  outermost_at zero imports q = rw (last_import _ imports, ← q, ne_eqb x 0 (λ z. omega arith))
  outermost_at (suc label) imports q = rw (last_import _ imports, ← q, ne_eqb (suc label) 0 (λ z. omega arith))

pub outermost_none : (label x : ℕ) → label ≡ 0 → x ≡ outermost label x
outermost_none label x e = rw e

pub outermost_some : (label x : ℕ) → (label ≡ 0 → ⊥) → label ≡ outermost label x
outermost_some zero x n = absurd (n refl)
outermost_some (suc l) x n = refl

-- ---- The first collection of a list, as collect reads it
pub record Seen (ws txt : List ℕ) (x own rest sort : ℕ) : Type 0 where
  pub any : AnyList ws txt x
  pub some : 0 < x
  pub own_is : own ≡ own_link (record_at ws x)
  pub rest_is : rest ≡ rest_link (record_at ws x)
  pub sort_is : sort ≡ sort_word (record_at ws x)

module _ {ws txt : List ℕ} {x own rest sort : ℕ} (s : Seen ws txt x own rest sort) where
  pub seen_rest : AnyList ws txt rest
  seen_rest = record { which = s.any.which; level = s.any.level; list = rw s.rest_is (rest_list s.any.list s.some) }

  pub rest_less : weight_in ws rest < weight_in ws x
  rest_less = rw s.rest_is (rest_lighter s.any.list s.some)

  module _ (e : sort ≡ 1) where
    of_list : sort_word (record_at ws x) ≡ 1
    of_list = sym s.sort_is ∙ e

    pub seen_list : AnyList ws txt own
    seen_list = any_imported s.any s.some s.own_is of_list

    pub both_less : weight_in ws own + weight_in ws rest < weight_in ws x
    unfolding weight
    both_less =
        let t = s.any.list in
        rw (
          s.own_is,
          s.rest_is,
          list_weight t,
          imported_reads t s.some of_list,
          list_weight (imported_list t s.some of_list),
          list_weight (rest_list t s.some),
        ) (omega arith)

  pub seen_tree : (sort ≡ 1 → ⊥) → AnyTree ws txt own
  seen_tree n = any_own s.any s.some s.own_is (λ e. n (s.sort_is ∙ e))

  -- The first match of the tree has its key in the text.
  pub first_in : (sort ≡ 1 → ⊥) → (p : Str) {first : ℕ} → Some first ≡ slice_get (matches ws txt own p) 0
      → TextIn ws txt first
  first_in n p {first} e =
      let a = seen_tree n in
      let b = (rw (head_tail (matches ws txt own p) first e).1 at (matches_of a.tree p)).0.branch in
      text_in (record { which = a.which; level = a.level; tree = at_of a.tree (tree _) (omega arith) b.link }) b.some

  -- Of any table and level that the list is of.
  module _ {w : Which} {ℓ : Level} (t : At ws txt w (list ℓ) x) where
    rest_at : At ws txt w (list ℓ) rest
    rest_at = rw s.rest_is (rest_list t s.some)

    rest_before : rest < x
    rest_before = omega (arith, s.rest_is, (collection_right t s.some).rest.earlier)

    module _ (n : sort ≡ 1 → ⊥) where
      of_tree : sort_word (record_at ws x) ≡ 0
      of_tree = sort_tree t s.some (λ e. n (s.sort_is ∙ e))

      own_at : At ws txt w (tree ℓ) own
      own_at = rw s.own_is (own_tree t s.some of_tree)

-- ---- Cells that have parts
module _ {ws txt : List ℕ} {w : Which} {ℓ : Level} {l : ℕ} {p : Str}
    {roots heads beginnings labels roots' heads' beginnings' labels' : List ℕ} where
  has_kept : (i r : ℕ) (cs : List (TreePart ws txt)) → r ≡ i + length cs
      → ((j : ℕ) → j < r → SameCell roots heads beginnings labels roots' heads' beginnings' labels' j)
      → HasParts ws txt w ℓ l p roots heads beginnings labels i cs
      → HasParts ws txt w ℓ l p roots' heads' beginnings' labels' i cs
  has_kept i r [] e k no_more = no_more
  has_kept i r (c ∷ cs) e k (more b a) =
      let s = k i (omega arith) in
      more
      (record {
        root_is = s.root ∙ b.root_is;
        label_is = s.label ∙ b.label_is;
        others = b.others;
        first_is = rw s.head b.first_is;
        begun = rw (s.beginning, s.head) b.begun;
        root_link = b.root_link;
        label_ok = b.label_ok;
      })
      (has_kept (suc i) r cs (omega arith) k a)

has_append : {ws txt : List ℕ} {w : Which} {ℓ : Level} {l : ℕ} {p : Str} {roots heads beginnings labels : List ℕ}
    (i j : ℕ)
    (cs ds : List (TreePart ws txt)) → j ≡ i + length cs
    → HasParts ws txt w ℓ l p roots heads beginnings labels i cs
    → HasParts ws txt w ℓ l p roots heads beginnings labels j ds
    → HasParts ws txt w ℓ l p roots heads beginnings labels i (cs ++ ds)
has_append i j [] ds e no_more b = let f : j ≡ i = omega arith in rw f at b
has_append i j (c ∷ cs) ds e (more h a) b = more h (has_append (suc i) j cs ds (omega arith) a b)

-- The lists of 96 cells.
pub full_cells : (cells : List Cell) → length cells ≡ 96
    → Full (roots cells) (heads cells) (beginnings cells) (labels cells)
full_cells cells e = record {
  of_roots = length-map cells (λ x. x.root) ∙ e;
  of_heads = length-map cells (λ x. x.head) ∙ e;
  of_beginnings = length-map cells (λ x. x.beginning) ∙ e;
  of_labels = length-map cells (λ x. x.label) ∙ e;
}

-- ---- One collection
pub collected_none : {ws txt : List ℕ} {p : Str} {x label i : ℕ} {roots heads beginnings labels : List ℕ} → x ≡ 0
    → Full roots heads beginnings labels
    → Collected ws txt p x label i i roots heads beginnings labels roots heads beginnings labels
unfolding flat_in nonempty
collected_none {ws} {txt} e f = record {
  from = omega arith;
  full = f;
  kept = λ j l. record { root = refl; head = refl; beginning = refl; label = refl };
  says = λ w v l imports t h o q. record { parts = []; count = omega arith; has = no_more; lists = λ term q a. rw (e, what_none w ws txt) };
}

-- What the first collection adds.
module _ {ws txt : List ℕ} {w : Which} {ℓ : Level} {x own rest sort : ℕ} (s : Seen ws txt x own rest sort)
    (t : At ws txt w (list ℓ) x) (imports : List Str) where
  lists_imported : sort_word (record_at ws x) ≡ 1 → (term : SearchTerm) → match_lists_in w ws txt ℓ term imports x
      ≡ match_lists_in w ws txt ℓ term (span txt (text_start (record_at ws x)) (text_len (record_at ws x)) ∷ imports)
      own ++ match_lists_in w ws txt ℓ term imports rest
  unfolding flat_in
  lists_imported e term =
      rw (imported_reads t s.some e, s.own_is, s.rest_is)
      (ap nonempty (map-append (λ c. with_imports (c.0, tree_matches term c.1)) (flat_in _ (what w ws txt _ (list ℓ)))
      (flat_in imports (what w ws txt _ (list ℓ)))) ∙ nonempty_append _ _)

  module _ (n : sort ≡ 1 → ⊥) {term : SearchTerm} {p : Str} {q : Option Str} (asks : Asks term p q) where
    lists_skip : matches ws txt own p ≡ []
        → match_lists_in w ws txt ℓ term imports x ≡ match_lists_in w ws txt ℓ term imports rest
    unfolding flat_in nonempty with_imports
    lists_skip e = rw (names_reads t s.some (of_tree s t n), ← s.own_is, ← s.rest_is, term_rows (own_at s t n) asks, e)

    lists_cell : {first : ℕ} {others : List ℕ} → matches ws txt own p ≡ first ∷ others
        → match_lists_in w ws txt ℓ term imports x
        ≡ with_imports (imports, map (row_at w ws txt ℓ q) (matches ws txt own p))
        ∷ match_lists_in w ws txt ℓ term imports rest
    unfolding flat_in nonempty with_imports
    lists_cell e = rw (names_reads t s.some (of_tree s t n), ← s.own_is, ← s.rest_is, term_rows (own_at s t n) asks, e)

module _ {ws txt : List ℕ} {p : Str} {x own rest sort label i r : ℕ}
    {roots heads beginnings labels roots' heads' beginnings' labels' : List ℕ}
    (s : Seen ws txt x own rest sort) where
  -- An imported list, and then the rest.
  module _ {mid inner : ℕ} {roots₁ heads₁ beginnings₁ labels₁ : List ℕ} (e : sort ≡ 1) where
    imported_in : {w : Which} {ℓ : Level} {l : ℕ} {imports : List Str} → At ws txt w (list ℓ) x
        → ((j : ℕ) → j < mid → SameCell roots₁ heads₁ beginnings₁ labels₁ roots' heads' beginnings' labels' j)
        → CollectedIn ws txt p own inner i mid roots heads beginnings labels roots₁ heads₁ beginnings₁ labels₁ w ℓ l
        (span txt (text_start (record_at ws x)) (text_len (record_at ws x)) ∷ imports)
        → CollectedIn ws txt p rest label mid r roots₁ heads₁ beginnings₁ labels₁ roots' heads' beginnings' labels' w ℓ
        l imports
        → CollectedIn ws txt p x label i r roots heads beginnings labels roots' heads' beginnings' labels' w ℓ l imports
    imported_in {w} {ℓ} {l} {imports} t kept a b = record {
      parts = a.parts ++ b.parts;
      count = omega (arith, a.count, b.count, length-append a.parts b.parts);
      has = has_append i mid a.parts b.parts a.count (has_kept i mid a.parts a.count kept a.has) b.has;
      lists = λ term q asks.
          lists_imported s t imports (of_list s e) term ∙ ap₂ ◌++◌ (a.lists term q asks) (b.lists term q asks)
          ∙ sym (map-append (elements w ws txt ℓ q p) a.parts b.parts);
    }

    pub collected_imported : inner ≡ outermost label x
        → Collected ws txt p own inner i mid roots heads beginnings labels roots₁ heads₁ beginnings₁ labels₁
        → Collected ws txt p rest label mid r roots₁ heads₁ beginnings₁ labels₁ roots' heads' beginnings' labels'
        → Collected ws txt p x label i r roots heads beginnings labels roots' heads' beginnings' labels'
    collected_imported f a b = record {
      from = omega (arith, a.from, b.from);
      full = b.full;
      kept = λ j l.
          let k = a.kept j l in
          let t = b.kept j (omega (arith, a.from)) in
          record { root = t.root ∙ k.root; head = t.head ∙ k.head; beginning = t.beginning ∙ k.beginning; label = t.label ∙ k.label };
      says = λ w v l imports t h o q.
          imported_in t b.kept
          (a.says w v l (_ ∷ imports) (rw s.own_is (imported_list t s.some (of_list s e)))
          (omega (arith, s.own_is, ((collection_right t s.some).imported (of_list s e)).earlier))
          (rw f (outermost_ok t s.some h (of_list s e) label o)) (rw f (outermost_at t s.some h (of_list s e) label imports q)))
          (b.says w v l imports (rest_at s t) (omega (arith, rest_before s t)) o q);
    }

  module _ (n : sort ≡ 1 → ⊥) where
    -- A tree without a match.
    pub collected_skip : None ≡ slice_get (matches ws txt own p) 0
        → Collected ws txt p rest label i r roots heads beginnings labels roots' heads' beginnings' labels'
        → Collected ws txt p x label i r roots heads beginnings labels roots' heads' beginnings' labels'
    collected_skip z b = record {
      from = b.from;
      full = b.full;
      kept = b.kept;
      says = λ w v l imports t h o q. skip_in t (b.says w v l imports (rest_at s t) (omega (arith, rest_before s t)) o q);
    }
      where
        skip_in : {w : Which} {ℓ : Level} {l : ℕ} {imports : List Str} → At ws txt w (list ℓ) x
            → CollectedIn ws txt p rest label i r roots heads beginnings labels roots' heads' beginnings' labels' w ℓ l
            imports
            → CollectedIn ws txt p x label i r roots heads beginnings labels roots' heads' beginnings' labels' w ℓ l
            imports
        skip_in {imports = imports} t b = record {
          parts = b.parts;
          count = b.count;
          has = b.has;
          lists = λ term q asks. lists_skip s t imports n asks (no_first (matches ws txt own p) z)
              ∙ b.lists term q asks;
        }

    -- A tree with one.
    module _ {first : ℕ} (e : Some first ≡ slice_get (matches ws txt own p) 0) (f : Full roots heads beginnings labels)
        (small : i < 96) where
      cell_in : {w : Which} {ℓ : Level} {l : ℕ} {imports : List Str} → At ws txt w (list ℓ) x → x ≤ l
          → LabelOk ws w ℓ l label → label_at ws txt label ≡ last_opt imports
          → SameCell (set roots i own) (set heads i first) (with_beginning ws txt beginnings i first)
          (set labels i label) roots' heads' beginnings' labels' i
          → CollectedIn ws txt p rest label (i + 1) r (set roots i own) (set heads i first)
          (with_beginning ws txt beginnings i first)
          (set labels i label) roots' heads' beginnings' labels' w ℓ l imports
          → CollectedIn ws txt p x label i r roots heads beginnings labels roots' heads' beginnings' labels' w ℓ l
          imports
      unfolding elements
      cell_in {w} {ℓ} {l} {imports} t h o labelled y b =
          let m = head_tail (matches ws txt own p) first e in
          record {
            parts = record { root = own; label = label; imports = imports; labelled = labelled } ∷ b.parts;
            count = omega (arith, b.count);
            has = more
                (record {
                  root_is = y.root ∙ get_or-set_same roots i own 0 (omega (arith, f.of_roots));
                  label_is = y.label ∙ get_or-set_same labels i label 0 (omega (arith, f.of_labels));
                  others = m.0;
                  first_is = m.1 ∙ rw (y.head, get_or-set_same heads i first 0 (omega (arith, f.of_heads)));
                  begun = rw (y.beginning, y.head)
                      (head_begun ws txt heads beginnings i first (omega (arith, f.of_heads))
                      (omega (arith, f.of_beginnings)) i
                      (λ n. absurd (n refl)));
                  root_link =
                      rw s.own_is (link_later (omega arith) ((collection_right t s.some).own (of_tree s t n)));
                  label_ok = o;
                })
                (rw (add-one i) at b.has);
            lists = λ term q asks.
                lists_cell s t imports n asks m.1
                ∙ ap (λ (ls : List (List (PathElem × Value (Item w) ℓ))). with_imports
                (imports, map (row_at w ws txt ℓ q) (matches ws txt own p)) ∷ ls) (b.lists term q asks);
          }

      pub collected_cell : Collected ws txt p rest label (i + 1) r (set roots i own) (set heads i first)
          (with_beginning ws txt beginnings i first)
          (set labels i label) roots' heads' beginnings' labels'
          → Collected ws txt p x label i r roots heads beginnings labels roots' heads' beginnings' labels'
      collected_cell b = record {
        from = omega (arith, b.from);
        full = b.full;
        kept = λ j l.
            let y = b.kept j (omega arith) in
            record {
              root = y.root ∙ get_or-set_other roots i j own 0 (λ q. omega arith);
              head = y.head ∙ get_or-set_other heads i j first 0 (λ q. omega arith);
              beginning = y.beginning ∙ get_or-set_other beginnings i j _ 0 (λ q. omega arith);
              label = y.label ∙ get_or-set_other labels i j label 0 (λ q. omega arith);
            };
        says = λ w v l imports t h o q.
            cell_in t h o q (b.kept i (omega arith)) (b.says w v l imports (rest_at s t) (omega (arith, rest_before s t)) o q);
      }
