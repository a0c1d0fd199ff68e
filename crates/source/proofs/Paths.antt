-- What a line says of its path, where the path is kept innermost first and grows by one element: candidate, match length, import.
use Prim.Native.Nat.{ℕ, zero, suc, ◌+◌, ◌-◌, ◌≤◌}
use mathlib.Core.Path.{◌≡◌, refl, sym, ap, ◌∙◌}
use mathlib.Core.List.{List, [], ◌∷◌, ◌++◌, map, reverse, reverse_aux, reverse-cons, append_assoc, map-append}
use mathlib.Core.Option.{none, some}
use native.Mathlib.Omega.{arith}
use lib.IntN.{ℤ, pos, negsuc, ◌+ℤ◌, ◌-ℤ◌}
use borrow.Author.Tests.{le-ltb}
use lib.ListN.{length, length-append}
use Rattle.source.specs.Text.{Str, Query, dot, query_to_string, string_length}
use Rattle.source.specs.Trees.{PathElem}
use Rattle.source.specs.Listing.{PathOf, fold_left}
use Rattle.source.specs.Table.{Matched, match_elem, match_length_of_path, string_of_path, first_import_of_path, last_opt}
use Rattle.source.specs.Shared.{Allˡ}
use Rattle.source.specs.Forward.{base}

abbrev pub keys : PathOf → List Str
keys p = map (λ el. el.segment.completion) p

-- ---- candidate
pub base_length : (el : PathElem) (path : PathOf)
    → length (base (el ∷ path)) ≡ length (base path) + length el.segment.completion + 1
unfolding base
base_length el path = simp length-append (omega arith)

-- The segments, each with a dot after it.
dotted : Query → Str
dotted [] = []
dotted (s ∷ q) = s ++ (dot ∷ dotted q)

to_string_last : (q : Query) (s : Str) → query_to_string (q ++ (s ∷ [])) ≡ dotted q ++ s
unfolding query_to_string dotted
to_string_last [] s = refl
to_string_last (t ∷ []) s = sym (append_assoc t (dot ∷ []) s)
to_string_last (t ∷ (u ∷ q)) s = ap (λ r. t ++ (dot ∷ r)) (to_string_last (u ∷ q) s) ∙ sym (append_assoc t (dot ∷ dotted (u ∷ q)) s)

dotted_last : (q : Query) (s : Str) → dotted (q ++ (s ∷ [])) ≡ dotted q ++ (s ++ (dot ∷ []))
unfolding dotted
dotted_last [] s = refl
dotted_last (t ∷ q) s = ap (λ r. t ++ (dot ∷ r)) (dotted_last q s) ∙ sym (append_assoc t (dot ∷ dotted q) (s ++ (dot ∷ [])))

keys_last : (el : PathElem) (path : PathOf)
    → keys (reverse (el ∷ path)) ≡ keys (reverse path) ++ (el.segment.completion ∷ [])
keys_last el path = ap keys (reverse-cons el path) ∙ map-append (λ el. el.segment.completion) (reverse path) (el ∷ [])

base_is : (path : PathOf) → dotted (keys (reverse path)) ≡ base path
unfolding dotted base
base_is [] = refl
base_is (el ∷ path) =
    ap dotted (keys_last el path) ∙ dotted_last (keys (reverse path)) el.segment.completion
    ∙ ap (λ r. r ++ (el.segment.completion ++ (dot ∷ []))) (base_is path)

pub candidate_is : (el : PathElem) (path : PathOf)
    → string_of_path (reverse (el ∷ path)) ≡ base path ++ el.segment.completion
unfolding string_of_path
candidate_is el path =
    ap query_to_string (keys_last el path) ∙ to_string_last (keys (reverse path)) el.segment.completion
    ∙ ap (λ r. r ++ el.segment.completion) (base_is path)

-- ---- match length
-- The fold of match_length_of_path, outermost first.
unfoldable pub matched : PathOf → Matched
matched [] = record { so_far = 0; last_prefix = []; last_completion = 0 }
matched (el ∷ path) = match_elem (matched path) el

fold_left_last : {A B : Type 0} (f : B → A → B) (b : B) (xs : List A) (a : A)
    → fold_left f b (xs ++ (a ∷ [])) ≡ f (fold_left f b xs) a
unfolding fold_left
fold_left_last f b [] a = refl
fold_left_last f b (x ∷ xs) a = fold_left_last f (f b x) xs a

matched_is : (path : PathOf)
    → fold_left match_elem (record { so_far = 0; last_prefix = []; last_completion = 0 }) (reverse path) ≡ matched path
unfolding matched fold_left
matched_is [] = refl
matched_is (el ∷ path) =
    ap (fold_left match_elem _) (reverse-cons el path) ∙ fold_left_last match_elem _ (reverse path) el ∙ ap (λ m. match_elem m el) (matched_is path)

abbrev length_of : Matched → ℤ
length_of m = pos m.so_far -ℤ pos 1 -ℤ pos m.last_completion +ℤ pos (string_length m.last_prefix)

length_is : (path : PathOf) → match_length_of_path (reverse path) ≡ length_of (matched path)
unfolding match_length_of_path
length_is path = ap length_of (matched_is path)

module _ (el : PathElem) (path : PathOf) where
  matched_none : el.segment.prefix ≡ none → matched (el ∷ path) ≡ matched path
  unfolding matched match_elem
  matched_none e = rw e

  matched_some : (p : Str) → el.segment.prefix ≡ some p → matched (el ∷ path)
      ≡ record {
        so_far = (matched path).so_far + 1 + string_length el.segment.completion;
        last_prefix = p;
        last_completion = string_length el.segment.completion;
      }
  unfolding matched match_elem
  matched_some p e = rw e

pos_sub : (a b : ℕ) → b ≤ a → pos a -ℤ pos b ≡ pos (a - b)
pos_sub a zero h = let e : a + 0 ≡ a - 0 = omega arith in ap pos e
pos_sub a (suc b) h = rw (le-ltb a (suc b) h)

length_matched : (x k m : ℕ) → pos (x + 1 + k) -ℤ pos 1 -ℤ pos k +ℤ pos m ≡ pos (x + m)
length_matched x k m =
    let e : x + 1 + k - 1 - k + m ≡ x + m = omega arith in
    ap (λ z. z -ℤ pos k +ℤ pos m) (pos_sub (x + 1 + k) 1 (omega arith)) ∙ ap (λ z. z +ℤ pos m) (pos_sub (x + 1 + k - 1) k (omega arith)) ∙ ap pos e

module _ (el : PathElem) (path : PathOf) where
  -- An element that was not matched adds nothing.
  pub match_length_skip : el.segment.prefix ≡ none
      → match_length_of_path (reverse (el ∷ path)) ≡ match_length_of_path (reverse path)
  match_length_skip e = length_is (el ∷ path) ∙ ap length_of (matched_none el path e) ∙ sym (length_is path)

  -- At a matched one it is the length so far and the prefix's.
  pub match_length_some : (p : Str) → el.segment.prefix ≡ some p
      → match_length_of_path (reverse (el ∷ path)) ≡ pos ((matched path).so_far + length p)
  unfolding string_length
  match_length_some p e =
      length_is (el ∷ path) ∙ ap length_of (matched_some el path p e) ∙ length_matched (matched path).so_far (length el.segment.completion) (length p)

-- Nothing matched: -1.
pub match_length_none : (path : PathOf) → Allˡ (λ el. el.segment.prefix ≡ none) path
    → match_length_of_path (reverse path) ≡ negsuc 0
unfolding match_length_of_path fold_left string_length
match_length_none [] a = refl
match_length_none (el ∷ path) a = match_length_skip el path a.0 ∙ match_length_none path a.1

-- Where each element was matched, the length so far is the candidate's before the next key.
pub so_far_is : (path : PathOf) → Allˡ (λ el. (p : Str) × (el.segment.prefix ≡ some p)) path
    → (matched path).so_far ≡ length (base path)
unfolding string_length matched base
so_far_is [] a = refl
so_far_is (el ∷ path) a =
    omega (arith, ap (λ m. m.so_far) (matched_some el path a.0.0 a.0.1), base_length el path, so_far_is path a.1)

-- ---- import: the last one of the outermost element
pub first_import_one : (el : PathElem) → first_import_of_path (reverse (el ∷ [])) ≡ last_opt el.imports
unfolding first_import_of_path
first_import_one el = refl

first_import_onto : (path : PathOf) (el : PathElem) (xs ys : PathOf)
    → first_import_of_path (reverse_aux path (el ∷ xs)) ≡ first_import_of_path (reverse_aux path (el ∷ ys))
unfolding first_import_of_path
first_import_onto [] el xs ys = refl
first_import_onto (x ∷ path) el xs ys = first_import_onto path x (el ∷ xs) (el ∷ ys)

pub first_import_more : (el outer : PathElem) (path : PathOf)
    → first_import_of_path (reverse (el ∷ (outer ∷ path))) ≡ first_import_of_path (reverse (outer ∷ path))
first_import_more el outer path = first_import_onto path outer (el ∷ []) []
