-- Depth and weight of what look-ups find and insertions make.
use Prim.Native.Nat.{ℕ, suc, pred, ◌+◌, ◌≤◌, max, Ordering}
use mathlib.Core.Path.{◌≡◌, refl, sym, ◌∙◌}
use mathlib.Core.Bool.{Bool, true, false, ◌||◌}
use mathlib.Core.List.{[], ◌∷◌}
use mathlib.Core.Option.{Option, none, some}
use native.Mathlib.Omega.{arith}
use lib.Dec.{ltb}
use lib.ListN.{length}
use borrow.Author.Tests.{ltb-true, ltb-false, lt-ltb, le-ltb}
use Rattle.source.specs.Text.{Str, Query, string_compare}
use Rattle.source.specs.Types.{Level, Value, Trie, Tree, NameList, ns, trie, StrEmpty, StrBranch, []ᴺ, Names, ImportedNames, bindings, namespaces}
use Rattle.source.specs.Types.{trie_empty}
use Rattle.source.specs.Trees.{btree_insert_replace, btree_find_exact}
use Rattle.source.specs.Tries.{or_else, dflt, names_find_exact, names_insert, scope_of}
use Rattle.source.specs.Terms.{weight, heaviest, heaviest_tree, heaviest_names, depth, depth_tree, depth_names}
use Rattle.source.specs.Plans.{host_of}
use Rattle.source.specs.Plans.{inserted_weight}

-- ---- Numbers that are equal over m: max m x ≡ max m y
pub over_right : (m x y : ℕ) → x ≤ m → max m (max x y) ≡ max m y
over_right m x y h = omega arith

pub over_left : (m x y : ℕ) → y ≤ m → max m (max x y) ≡ max m x
over_left m x y h = omega arith

pub over_both : (m x x' y y' : ℕ) → max m x ≡ max m x' → max m y ≡ max m y' → max m (max x y) ≡ max m (max x' y')
over_both m x x' y y' p q = rw (sym (over_max m x y), p, q, over_max m x' y')
  where
    over_max : (m x y : ℕ) → max (max m x) (max m y) ≡ max m (max x y)
    over_max m x y = omega arith

pub over_ltb : (m x y : ℕ) → max m x ≡ max m y → ltb m x ≡ ltb m y
over_ltb m x y e = go (ltb m y) refl
  where
    go : (b : Bool) → ltb m y ≡ b → ltb m x ≡ b
    go true h = lt-ltb m x (omega (arith, ltb-true m y h))
    go false h = le-ltb m x (omega (arith, ltb-false m y h))

pub ltb_max : (m x y : ℕ) → ltb m (max x y) ≡ ltb m x || ltb m y
ltb_max m x y = go (ltb m x) (ltb m y) refl refl
  where
    go : (a b : Bool) → ltb m x ≡ a → ltb m y ≡ b → ltb m (max x y) ≡ a || b
    go true b p q = lt-ltb m _ (omega (arith, ltb-true m x p))
    go false true p q = lt-ltb m _ (omega (arith, ltb-true m y q))
    go false false p q = le-ltb m _ (omega (arith, ltb-false m x p, ltb-false m y q))

-- A choice by an order, case by case.
by_order : {B : Type 0} (P : B → Type 0) (o : Ordering) {x y z : B} → P x → P y → P z
    → P (elim o [ Ordering.lt ↦ x | Ordering.eq ↦ y | Ordering.gt ↦ z ])
by_order P Ordering.lt p q r = p
by_order P Ordering.eq p q r = q
by_order P Ordering.gt p q r = r

-- ---- The greatest f of a tree's values
module _ {A : Type 0} {ℓ : Level} (f : Value A ℓ → ℕ) where
  greatest : Tree A ℓ → ℕ
  greatest StrEmpty = 0
  greatest (StrBranch k v lbt rbt) = max (f v) (max (greatest lbt) (greatest rbt))

  -- f of what was found, or 0.
  abbrev of_found : Option (Value A ℓ) → ℕ
  of_found none = 0
  of_found (some v) = f v

  or_else_found : (x y : Option (Value A ℓ)) → of_found (or_else x y) ≤ max (of_found x) (of_found y)
  unfolding or_else
  or_else_found none y = omega arith
  or_else_found (some v) y = omega arith

  tree_found : (bt : Tree A ℓ) (k : Str) → of_found (btree_find_exact bt k) ≤ greatest bt
  unfolding btree_find_exact greatest
  tree_found StrEmpty k = omega arith
  tree_found (StrBranch k' v lbt rbt) k =
      by_order (λ o. of_found o ≤ max (f v) (max (greatest lbt) (greatest rbt))) (string_compare k k')
      (omega (arith, tree_found lbt k)) (omega arith) (omega (arith, tree_found rbt k))

  -- Over a number that no value of the tree is over, an insertion counts as its value.
  tree_inserted : (m : ℕ) (bt : Tree A ℓ) (k : Str) (v : Value A ℓ) → greatest bt ≤ m
      → max m (greatest (btree_insert_replace bt k v)) ≡ max m (f v)
  unfolding btree_insert_replace greatest
  tree_inserted m StrEmpty k v h = omega arith
  tree_inserted m (StrBranch k' v' lbt rbt) k v h =
      by_order (λ bt. max m (greatest bt) ≡ max m (f v)) (string_compare k k')
      (over_right m _ _ (omega arith) ∙ over_left m _ _ (omega arith) ∙ tree_inserted m lbt k v (omega arith))
      (over_left m _ _ (omega arith))
      (over_right m _ _ (omega arith) ∙ over_right m _ _ (omega arith) ∙ tree_inserted m rbt k v (omega arith))

-- ---- Depth
module _ {A : Type 0} where
  -- The depth that a value gives its tree.
  abbrev level : {ℓ : Level} → Value A ℓ → ℕ
  level v = suc (depth v)

  depth_greatest : {ℓ : Level} (bt : Tree A ℓ) → depth_tree bt ≡ greatest level bt
  unfolding depth_tree greatest
  depth_greatest StrEmpty = refl
  depth_greatest (StrBranch k v lbt rbt) = rw (depth_greatest lbt, depth_greatest rbt)

  names_found_depth : {ℓ : Level} (nl : NameList A ℓ) (k : Str)
      → of_found level (names_find_exact nl k) ≤ depth_names nl
  unfolding names_find_exact depth_names
  names_found_depth []ᴺ k = omega arith
  names_found_depth (Names bt tl) k =
      omega (
        arith,
        or_else_found level (btree_find_exact bt k) (names_find_exact tl k),
        tree_found level bt k,
        depth_greatest bt,
        names_found_depth tl k,
      )
  names_found_depth (ImportedNames label inner tl) k =
      omega (
        arith,
        or_else_found level (names_find_exact inner k) (names_find_exact tl k),
        names_found_depth inner k,
        names_found_depth tl k,
      )

  dflt_depth : (o : Option (Trie A)) → depth (dflt trie_empty o) ≤ pred (of_found level o)
  unfolding dflt trie_empty depth_names
  dflt_depth none = omega arith
  dflt_depth (some tr) = omega arith

  pub scope_of_depth : (nl : NameList A ns) (s : Str) → depth (scope_of nl s) ≤ pred (depth_names nl)
  unfolding scope_of
  scope_of_depth nl s = omega (arith, dflt_depth (names_find_exact nl s), names_found_depth nl s)

  pub depth_namespaces : (tr : Trie A) → depth tr ≡ depth_names (namespaces tr)
  unfolding depth namespaces
  depth_namespaces (trie b n) = refl

  pub host_of_depth : (tr : Trie A) (q : Query) → length q + depth (host_of tr q) ≤ max (depth tr) (length q)
  unfolding host_of
  host_of_depth tr [] = omega arith
  host_of_depth tr (s ∷ q) =
      omega (arith, host_of_depth (scope_of (namespaces tr) s) q, scope_of_depth (namespaces tr) s, depth_namespaces tr)

  tree_insert_depth : {ℓ : Level} (m : ℕ) (bt : Tree A ℓ) (k : Str) (v : Value A ℓ) → depth_tree bt ≤ m
      → max m (depth_tree (btree_insert_replace bt k v)) ≡ max m (suc (depth v))
  tree_insert_depth m bt k v h = rw depth_greatest (tree_inserted level m bt k v (rw depth_greatest at h))

  pub names_insert_depth : {ℓ : Level} (m : ℕ) (nl : NameList A ℓ) (k : Str) (v : Value A ℓ) → depth_names nl ≤ m
      → max m (depth_names (names_insert nl k v)) ≡ max m (suc (depth v))
  unfolding names_insert depth_tree
  names_insert_depth m []ᴺ k v h = over_left m _ 0 (omega arith) ∙ tree_insert_depth m StrEmpty k v (omega arith)
  names_insert_depth m (Names bt tl) k v h = over_left m _ _ (omega arith) ∙ tree_insert_depth m bt k v (omega arith)
  names_insert_depth m (ImportedNames label inner tl) k v h = over_left m _ _ h ∙ tree_insert_depth m StrEmpty k v (omega arith)

-- ---- Weight
module _ {A : Type 0} where
  heaviest_greatest : {ℓ : Level} (bt : Tree A ℓ) → heaviest_tree bt ≡ greatest heaviest bt
  unfolding heaviest_tree greatest
  heaviest_greatest StrEmpty = refl
  heaviest_greatest (StrBranch k v lbt rbt) = rw (heaviest_greatest lbt, heaviest_greatest rbt)

  names_found_heaviest : {ℓ : Level} (nl : NameList A ℓ) (k : Str)
      → of_found heaviest (names_find_exact nl k) ≤ heaviest_names nl
  unfolding names_find_exact heaviest_names
  names_found_heaviest []ᴺ k = omega arith
  names_found_heaviest (Names bt tl) k =
      omega (
        arith,
        or_else_found heaviest (btree_find_exact bt k) (names_find_exact tl k),
        tree_found heaviest bt k,
        heaviest_greatest bt,
        names_found_heaviest tl k,
      )
  names_found_heaviest (ImportedNames label inner tl) k =
      omega (
        arith,
        or_else_found heaviest (names_find_exact inner k) (names_find_exact tl k),
        names_found_heaviest inner k,
        names_found_heaviest tl k,
      )

  dflt_heaviest : (o : Option (Trie A)) → heaviest (dflt trie_empty o) ≤ of_found heaviest o
  unfolding dflt trie_empty heaviest_names
  dflt_heaviest none = omega arith
  dflt_heaviest (some tr) = omega arith

  pub heaviest_lists : (tr : Trie A) → heaviest tr ≡ max (heaviest_names (bindings tr)) (heaviest_names (namespaces tr))
  unfolding heaviest bindings namespaces
  heaviest_lists (trie b n) = refl

  pub scope_of_heaviest : (nl : NameList A ns) (s : Str) → heaviest (scope_of nl s) ≤ heaviest_names nl
  unfolding scope_of
  scope_of_heaviest nl s = omega (arith, dflt_heaviest (names_find_exact nl s), names_found_heaviest nl s)

  pub host_of_heaviest : (tr : Trie A) (q : Query) → heaviest (host_of tr q) ≤ heaviest tr
  unfolding host_of
  host_of_heaviest tr [] = omega arith
  host_of_heaviest tr (s ∷ q) =
      omega (arith, host_of_heaviest (scope_of (namespaces tr) s) q, scope_of_heaviest (namespaces tr) s, heaviest_lists tr)

  tree_insert_heaviest : {ℓ : Level} (m : ℕ) (bt : Tree A ℓ) (k : Str) (v : Value A ℓ) → heaviest_tree bt ≤ m
      → max m (heaviest_tree (btree_insert_replace bt k v)) ≡ max m (heaviest v)
  tree_insert_heaviest m bt k v h = rw heaviest_greatest (tree_inserted heaviest m bt k v (rw heaviest_greatest at h))

  pub names_insert_heaviest : {ℓ : Level} (m : ℕ) (nl : NameList A ℓ) (k : Str) (v : Value A ℓ) → heaviest_names nl ≤ m
      → max m (heaviest_names (names_insert nl k v)) ≡ max m (max (inserted_weight nl) (heaviest v))
  unfolding names_insert heaviest_tree inserted_weight weight
  names_insert_heaviest m []ᴺ k v h = over_both m 1 1 _ _ refl (over_left m _ 0 (omega arith) ∙ tree_insert_heaviest m StrEmpty k v (omega arith))
  names_insert_heaviest m (Names bt tl) k v h =
      over_both m _ _ _ _ refl (over_left m _ _ (omega arith) ∙ tree_insert_heaviest m bt k v (omega arith))
  names_insert_heaviest m (ImportedNames label inner tl) k v h =
      over_both m _ _ _ _ refl (over_left m _ _ h ∙ tree_insert_heaviest m StrEmpty k v (omega arith))
