-- The listing without an accumulator, forward: bindings ascending, then each namespace ascending with its own listing.
-- What is counted of it, as sums: tries entered, lines, bytes of the output text.
use Prim.Native.Nat.{ℕ, zero, suc, ◌+◌}
use mathlib.Core.Path.{◌≡◌, refl, sym, ap, ap₂, subst, ◌∙◌}
use mathlib.Core.Bool.{Bool, true, false, cond}
use mathlib.Core.List.{List, [], ◌∷◌, ◌++◌, map, flat_map, reverse, tail, append_assoc, append-nil, reverse-cons, map-append}
use mathlib.Core.Option.{some}
use native.Mathlib.Omega.{arith}
use lib.ListN.{length, length-append}
use Rattle.source.specs.Text.{Query}
use Rattle.source.specs.Types.{Trie, bindings, namespaces}
use Rattle.source.specs.Terms.{depth}
use Rattle.source.specs.Listing.{PathOf, fold_left, rev_map_onto, ns_search_term, bindings_search_term, names_find_rev_first, by_first, find_prefix_fuel}
use Rattle.source.specs.Listing.{trie_find_prefix', trie_find_prefix_first}
use Rattle.source.specs.Table.{Table, ModSymbol, Line, completion_result_of_lid, completion_result_of_ns_or_mod, autocomplete_lid_first}
use Rattle.source.specs.Table.{autocomplete_mod_or_ns_first}
use Rattle.source.specs.Forward.{entered}
use Rattle.source.specs.Calls.{output_text, output_lines, kept}
use Rattle.source.specs.Shared.{sumˡ}
use Rattle.source.specs.Forward.{found}
use Rattle.source.specs.Forward.{line, lines, made, kept_line}
use Rattle.source.specs.declared.LidSymbol.{LidSymbol}
use Rattle.source.proofs.Filters.{all_listed}
use Rattle.source.proofs.Lookup.{sumˡ_reverse}

-- ---- lists
module _ {A B : Type 0} where
  pub flatMap_append : (f : A → List B) (xs m : List A) → flat_map f (xs ++ m) ≡ flat_map f xs ++ flat_map f m
  unfolding flat_map
  flatMap_append f [] m = refl
  flatMap_append f (a ∷ xs) m = rw (flatMap_append f xs m) (sym (append_assoc (f a) (flat_map f xs) (flat_map f m)))

  rev_map_onto_is : (f : A → B) (xs : List A) (acc : List B) → rev_map_onto f xs acc ≡ map f (reverse xs) ++ acc
  unfolding rev_map_onto
  rev_map_onto_is f [] acc = refl
  rev_map_onto_is f (a ∷ xs) acc =
      rev_map_onto_is f xs (f a ∷ acc)
      ∙ sym (rw (reverse-cons a xs, map-append f (reverse xs) (a ∷ [])) (append_assoc (map f (reverse xs)) (f a ∷ []) acc))

  -- A fold that puts lists in front.
  fold_left_is : (g : List B → A → List B) (f : A → List B) (xs : List A) (acc : List B)
      → ((acc : List B) (x : A) → g acc x ≡ f x ++ acc)
      → fold_left g acc xs ≡ flat_map f (reverse xs) ++ acc
  unfolding fold_left flat_map
  fold_left_is g f [] acc h = refl
  fold_left_is g f (a ∷ xs) acc h =
      fold_left_is g f xs (g acc a) h
      ∙ rw (h acc a, reverse-cons a xs, flatMap_append f (reverse xs) (a ∷ []), append-nil (f a)) (sym (append_assoc (flat_map f (reverse xs)) (f a) acc))

  pub flatMap_map : {C : Type 0} (g : B → List C) (f : A → B) (xs : List A)
      → flat_map g (map f xs) ≡ flat_map (λ x. g (f x)) xs
  unfolding flat_map
  flatMap_map g f [] = refl
  flatMap_map g f (a ∷ xs) = ap (λ r. g (f a) ++ r) (flatMap_map g f xs)

flatMap_flatMap : {A B C : Type 0} (g : B → List C) (f : A → List B) (xs : List A)
    → flat_map g (flat_map f xs) ≡ flat_map (λ x. flat_map g (f x)) xs
unfolding flat_map
flatMap_flatMap g f [] = refl
flatMap_flatMap g f (a ∷ xs) = flatMap_append g (f a) (flat_map f xs) ∙ ap (λ r. flat_map g (f a) ++ r) (flatMap_flatMap g f xs)

-- ---- the listing
module _ {A : Type 0} where
  pub listing_is : (n : ℕ) (tr : Trie A) (path : PathOf) (q : Query) (acc : List (PathOf × A))
      → find_prefix_fuel by_first n tr path q acc ≡ lines n tr path q ++ acc
  unfolding find_prefix_fuel lines found
  listing_is zero tr path q acc = refl
  listing_is (suc n) tr path q acc =
      ap (rev_map_onto (line path) (names_find_rev_first (bindings tr) (bindings_search_term q)))
      (fold_left_is _ (λ x. lines n x.1 (x.0 ∷ path) (tail q)) (names_find_rev_first (namespaces tr) (ns_search_term q)) acc
      (λ acc x. listing_is n x.1 (x.0 ∷ path) (tail q) acc))
      ∙ rev_map_onto_is (line path) (names_find_rev_first (bindings tr) (bindings_search_term q)) _
      ∙ sym (append_assoc (map (line path) (reverse (names_find_rev_first (bindings tr) (bindings_search_term q)))) _ acc)

  pub trie_find_prefix_is : (tr : Trie A) (q : Query) → trie_find_prefix_first tr q ≡ lines (suc (depth tr)) tr [] q
  unfolding trie_find_prefix_first trie_find_prefix'
  trie_find_prefix_is tr q = listing_is (suc (depth tr)) tr [] q [] ∙ append-nil (lines (suc (depth tr)) tr [] q)

  -- Tries entered: one more than in the found namespaces.
  pub entered_is : (n : ℕ) (tr : Trie A) (q : Query)
      → entered (suc n) tr q ≡ suc (sumˡ (λ x. entered n x.1 (tail q)) (found (namespaces tr) (ns_search_term q)))
  unfolding entered found
  entered_is n tr q = omega (arith, sumˡ_reverse (λ x. entered n x.1 (tail q)) (names_find_rev_first (namespaces tr) (ns_search_term q)) [])

  module _ {B : Type 0} (mk : PathOf × A → List B) (n : ℕ) (tr : Trie A) (path : PathOf) (q : Query) where
    pub made_is : made mk (suc n) tr path q
        ≡ flat_map (λ x. mk (line path x)) (found (bindings tr) (bindings_search_term q))
        ++ flat_map (λ x. made mk n x.1 (x.0 ∷ path) (tail q)) (found (namespaces tr) (ns_search_term q))
    unfolding made lines
    made_is =
        flatMap_append mk (map (line path) (found (bindings tr) (bindings_search_term q))) _
        ∙ ap₂ ◌++◌ (flatMap_map mk (line path) (found (bindings tr) (bindings_search_term q)))
        (flatMap_flatMap mk (λ x. lines n x.1 (x.0 ∷ path) (tail q)) (found (namespaces tr) (ns_search_term q)))

-- ---- the output
module _ {B : Type 0} where
  pub output_text_append : (xs ys : List (Line B)) → output_text (xs ++ ys) ≡ output_text xs ++ output_text ys
  unfolding output_text
  output_text_append [] ys = refl
  output_text_append (x ∷ xs) ys = simp (output_text_append xs ys, append_assoc)

  pub output_lines_append : (at : ℕ) (xs ys : List (Line B))
      → output_lines at (xs ++ ys) ≡ output_lines at xs ++ output_lines (at + length (output_text xs)) ys
  unfolding output_lines output_text
  output_lines_append at [] ys = let e : at ≡ at + 0 = omega arith in ap (λ i. output_lines i ys) e
  output_lines_append at (x ∷ xs) ys =
      let e : at + length x.candidate + length x.annotation + length (output_text xs) ≡ at + length (x.candidate ++ (x.annotation ++ output_text xs)) =
      simp length-append (omega arith) in
      rw (output_lines_append (at + length x.candidate + length x.annotation) xs ys, e)

  pub output_lines_length : (at : ℕ) (xs : List (Line B)) → length (output_lines at xs) ≡ length xs
  unfolding output_lines
  output_lines_length at [] = refl
  output_lines_length at (x ∷ xs) = ap suc (output_lines_length (at + length x.candidate + length x.annotation) xs)

-- ---- the two completions

-- The lines that are kept of a listing.
kept_made : {A : Type 0} (result : PathOf × A → Line A) → ((x : PathOf × A) → (result x).item_of ≡ x.1)
    → (keep : A → Bool) (xs : List (PathOf × A))
    → kept keep (map result xs) ≡ flat_map (kept_line result keep) xs
unfolding kept flat_map kept_line
kept_made result h keep [] = refl
kept_made result h keep (x ∷ xs) =
    subst (λ b. cond (keep (result x).item_of) (result x ∷ kept keep (map result xs)) (kept keep (map result xs))
    ≡ cond b (result x ∷ []) [] ++ flat_map (kept_line result keep) xs)
    (ap keep (h x)) (go (keep (result x).item_of) (kept_made result h keep xs))
  where
    go : (b : Bool) → kept keep (map result xs) ≡ flat_map (kept_line result keep) xs
        → cond b (result x ∷ kept keep (map result xs)) (kept keep (map result xs))
        ≡ cond b (result x ∷ []) [] ++ flat_map (kept_line result keep) xs
    go true e = ap (◌∷◌ (result x)) e
    go false e = e

pub autocomplete_lid_is : (tbl : Table) (q : Query) (keep : LidSymbol → Bool)
    → kept keep (autocomplete_lid_first tbl q)
    ≡ made (kept_line completion_result_of_lid keep) (suc (depth tbl.tbl_lids)) tbl.tbl_lids [] q
unfolding autocomplete_lid_first made completion_result_of_lid
autocomplete_lid_is tbl q keep =
    ap (λ l. kept keep (map completion_result_of_lid l)) (trie_find_prefix_is tbl.tbl_lids q) ∙ kept_made completion_result_of_lid (λ x. refl) keep _

pub autocomplete_mod_or_ns_is : (tbl : Table) (q : Query) (keep : ModSymbol → Bool)
    → kept keep (autocomplete_mod_or_ns_first tbl q some)
    ≡ made (kept_line completion_result_of_ns_or_mod keep) (suc (depth tbl.tbl_mods)) tbl.tbl_mods [] q
unfolding made completion_result_of_ns_or_mod
autocomplete_mod_or_ns_is tbl q keep =
    ap (kept keep) (all_listed tbl q ∙ ap (map completion_result_of_ns_or_mod) (trie_find_prefix_is tbl.tbl_mods q))
    ∙ kept_made completion_result_of_ns_or_mod (λ x. refl) keep _
