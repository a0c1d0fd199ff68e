-- The same by the lines' texts: names without dots are told by their text.
use Prim.Native.Nat.{ℕ, zero, suc}
use mathlib.Core.Path.{◌≡◌, refl, sym, ap, ◌∙◌}
use mathlib.Core.Logic.{◌≢◌}
use mathlib.Core.Bool.{Bool, true, false, cond, true≢false}
use mathlib.Core.List.{List, [], ◌∷◌, ◌++◌, reverse, reverse_aux, tail, nil≢cons, head-eq_of_cons-eq, tail-eq_of_cons-eq}
use Rattle.source.specs.Text.{Str, Query, query_to_string, dot}
use Rattle.source.specs.Types.{Value, Trie, bind, ns, the_item, bindings, namespaces}
use Rattle.source.specs.Trees.{PathElem}
use Rattle.source.specs.Terms.{depth}
use Rattle.source.specs.Listing.{PathOf, Finder, fold_left, rev_map_onto, elem_key, ns_search_term, bindings_search_term, find_prefix_fuel, trie_find_prefix'}
use Rattle.source.specs.Table.{string_of_path}
use Rattle.source.specs.Rules.{Formed}
use Rattle.source.specs.Shared.{same, Allˡ}
use Rattle.source.proofs.Lookup.{same_self, same_ne, Allˡ-map}
use Rattle.promises.proofs.Listed.{Finds, same_names, same_names_eq, same_names_self, keys_reverse, named, along, listed_named}
use Rattle.source.proofs.Paths.{keys}
use Rattle.source.proofs.Formed.{formed_parts}

-- ---- names without dots: the text tells the segments
abbrev pub NoDot : Str → Type 0
NoDot [] = Unit {0}
NoDot (c ∷ s) = (c ≢ dot) × NoDot s

split_dot : (s t x y : Str) → NoDot s → NoDot t → s ++ (dot ∷ x) ≡ t ++ (dot ∷ y) → (s ≡ t) × (x ≡ y)
split_dot [] [] x y a b e = (refl, tail-eq_of_cons-eq e)
split_dot [] (d ∷ t) x y a b e = absurd (b.0 (sym (head-eq_of_cons-eq e)))
split_dot (c ∷ s) [] x y a b e = absurd (a.0 (head-eq_of_cons-eq e))
split_dot (c ∷ s) (d ∷ t) x y a b e =
    let h : c ≡ d = head-eq_of_cons-eq e in
    let r : (s ≡ t) × (x ≡ y) = split_dot s t x y a.1 b.1 (tail-eq_of_cons-eq e) in
    let i : s ≡ t = r.0 in
    (cc, r.1)

no_dot : (s t y : Str) → NoDot s → s ≡ t ++ (dot ∷ y) → ⊥
no_dot [] [] y a e = nil≢cons e
no_dot [] (d ∷ t) y a e = nil≢cons e
no_dot (c ∷ s) [] y a e = a.0 (head-eq_of_cons-eq e)
no_dot (c ∷ s) (d ∷ t) y a e = no_dot s t y a.1 (tail-eq_of_cons-eq e)

pub text_injective : (s : Str) (a : Query) (t : Str) (b : Query) → Allˡ NoDot (s ∷ a) → Allˡ NoDot (t ∷ b)
    → query_to_string (s ∷ a) ≡ query_to_string (t ∷ b) → Path Query (s ∷ a) (t ∷ b)
unfolding query_to_string
text_injective s [] t [] p q e = cc
text_injective s [] t (u ∷ b) p q e = absurd (no_dot s t (query_to_string (u ∷ b)) p.0 e)
text_injective s (r ∷ a) t [] p q e = absurd (no_dot t s (query_to_string (r ∷ a)) q.0 (sym e))
text_injective s (r ∷ a) t (u ∷ b) p q e =
    let h : (s ≡ t) × (query_to_string (r ∷ a) ≡ query_to_string (u ∷ b)) = split_dot s t (query_to_string (r ∷ a)) (query_to_string (u ∷ b)) p.0 q.0 e in
    let i : s ≡ t = h.0 in
    let j : Path Query (r ∷ a) (u ∷ b) = text_injective r a u b p.1 q.1 h.1 in
    cc

-- ---- the paths of lines
onto_all : (P : Str → Type 0) (p : List Str) (k : Str) (m : List Str) → Allˡ P p → Allˡ P (k ∷ m)
    → (k' : Str) × (m' : List Str) × (reverse_aux p (k ∷ m) ≡ k' ∷ m') × Allˡ P (k' ∷ m')
onto_all P [] k m a b = (k, m, refl, b)
onto_all P (x ∷ p) k m a b = onto_all P p x (k ∷ m) a.1 (a.0, b)

-- What holds of every element of an accumulator holds of it once a list is folded onto it.
module _ {B C : Type 0} (P : C → Type 0) where
  pub rev_map_all : (g : B → C) (m : List B) (acc : List C) → Allˡ (λ y. P (g y)) m → Allˡ P acc
      → Allˡ P (rev_map_onto g m acc)
  unfolding rev_map_onto
  rev_map_all g [] acc a b = b
  rev_map_all g (y ∷ m) acc a b = rev_map_all g m (g y ∷ acc) a.1 (a.0, b)

  pub fold_all : (f : List C → B → List C) (Q : B → Type 0) (m : List B) (acc : List C)
      → ((acc : List C) (y : B) → Q y → Allˡ P acc → Allˡ P (f acc y)) → Allˡ Q m → Allˡ P acc
      → Allˡ P (fold_left f acc m)
  unfolding fold_left
  fold_all f Q [] acc h a b = b
  fold_all f Q (y ∷ m) acc h a b = fold_all f Q m (f acc y) h a.1 (h acc y a.0 b)

module _ {A : Type 0} (Key Label : Str → Type 0) (Item : A → Type 0) (find : Finder A)
    (finds : Finds Key Label Item find) where
  -- a line's path: not empty, each key fine
  abbrev pub LineOk : PathOf × A → Type 0
  LineOk x = (k : Str) × (m : List Str) × (keys x.0 ≡ k ∷ m) × Allˡ Key (k ∷ m)

  pub lines_ok : (n : ℕ) (tr : Trie A) (path : PathOf) (q : Query) (acc : List (PathOf × A)) → Formed Key Label Item tr
      → Allˡ Key (keys path) → Allˡ LineOk acc
      → Allˡ LineOk (find_prefix_fuel find n tr path q acc)
  unfolding find_prefix_fuel elem_key
  lines_ok zero tr path q acc g p a = a
  lines_ok (suc n) tr path q acc g p a =
      rev_map_all LineOk _ (find bind (bindings tr) (bindings_search_term q)) _
      (Allˡ-map (find bind (bindings tr) (bindings_search_term q)) line
      (finds.formed bind (bindings tr) (bindings_search_term q) (formed_parts Key Label Item tr g).0))
      (fold_all LineOk _ (λ y. Key (elem_key y) × Formed Key Label Item y.1) (find ns (namespaces tr) (ns_search_term q)) acc
      (λ acc y f b. lines_ok n y.1 (y.0 ∷ path) (tail q) acc f.1 (f.0, p) b)
      (finds.formed ns (namespaces tr) (ns_search_term q) (formed_parts Key Label Item tr g).1) a)
    where
      line : (y : PathElem × Value A bind) → Key (elem_key y) × Formed Key Label Item y.1
          → LineOk (reverse (y.0 ∷ path), the_item y.1)
      line y f = let r : (k' : Str) × (m' : List Str) × (reverse_aux (keys path) (elem_key y ∷ []) ≡ k' ∷ m')
          × Allˡ Key (k' ∷ m') = onto_all Key (keys path) (elem_key y) [] p (f.0, tt) in
          (r.0, r.1, keys_reverse path (y.0 ∷ []) ∙ r.2, r.3)

module _ {A : Type 0} where
  -- the lines with that text
  unfoldable pub with_text : Str → List (PathOf × A) → List (PathOf × A)
  with_text t [] = []
  with_text t (x ∷ ls) = cond (same (string_of_path x.0) t) (x ∷ with_text t ls) (with_text t ls)

module _ {A : Type 0} (Key Label : Str → Type 0) (Item : A → Type 0) (no_dots : (k : Str) → Key k → NoDot k)
    (find : Finder A) (finds : Finds Key Label Item find) where
  pub same_test : (s : Str) (name : Query) (x : PathOf × A) → Allˡ NoDot (s ∷ name) → LineOk Key Label Item find finds x
      → same (string_of_path x.0) (query_to_string (s ∷ name)) ≡ same_names (keys x.0) (s ∷ name)
  unfolding string_of_path
  same_test s name x a o = go (same_names (keys x.0) (s ∷ name)) refl
    where
      go : (b : Bool) → same_names (keys x.0) (s ∷ name) ≡ b
          → same (query_to_string (keys x.0)) (query_to_string (s ∷ name)) ≡ b
      go true e = rw (same_names_eq (keys x.0) (s ∷ name) e) (same_self (query_to_string (s ∷ name)))
      go false e = same_ne _ _ (λ i. true≢false (sym (ap (λ k. same_names k (s ∷ name))
          (o.2 ∙ text_injective o.0 o.1 s name (Allˡ-map (o.0 ∷ o.1) no_dots o.3) a (ap query_to_string (sym o.2) ∙ i))
          ∙ same_names_self (s ∷ name)) ∙ e))

  by_text : (s : Str) (name : Query) (ls : List (PathOf × A)) → Allˡ NoDot (s ∷ name)
      → Allˡ (LineOk Key Label Item find finds) ls
      → with_text (query_to_string (s ∷ name)) ls ≡ named (s ∷ name) ls
  unfolding with_text named
  by_text s name [] a o = refl
  by_text s name (x ∷ ls) a o = rw (same_test s name x a o.0, by_text s name ls a o.1)

  pub listed_text : (tr : Trie A) (q : Query) (s : Str) (name : Query) → Formed Key Label Item tr
      → Allˡ NoDot (s ∷ name)
      → with_text (query_to_string (s ∷ name)) (trie_find_prefix' find tr [] q []) ≡ along find tr [] q s name
  unfolding trie_find_prefix'
  listed_text tr q s name g a =
      by_text s name (find_prefix_fuel find (suc (depth tr)) tr [] q []) a (lines_ok Key Label Item find finds (suc (depth tr)) tr [] q [] g tt tt)
      ∙ listed_named find Key Label Item finds tr q s name g
