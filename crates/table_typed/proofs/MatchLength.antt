-- The match lengths of a sound table's lines: -1 or at most 543, so that 32 bits with a sign hold them.
use Prim.Native.Nat.{ℕ, zero, suc, ◌+◌, ◌*◌, ◌≤◌, ◌<◌}
use mathlib.Core.Path.{◌≡◌, refl, sym, ◌∙◌, subst}
use mathlib.Core.Bool.{Bool, true, false, cond, ◌||◌, true≢false}
use mathlib.Core.List.{List, [], ◌∷◌, ◌++◌, map, flat_map, reverse, tail}
use mathlib.Core.Option.{Option, none, some}
use native.Mathlib.Omega.{arith}
use lib.Dec.{is_le, ltb}
use borrow.Author.Tests.{ltb-true, ltb-false}
use lib.IntN.{ℤ, pos, negsuc}
use lib.ListN.{length}
use Rattle.source.specs.Text.{Str, Query, segments, string_compare, starts_with, string_length}
use Rattle.source.specs.Types.{Level, Value, Trie, Tree, NameList, StrEmpty, StrBranch, []ᴺ, Names, ImportedNames, bindings, namespaces}
use Rattle.source.specs.Trees.{PrefixMatch, PathElem, find_prefix_onto, btree_find_prefix, btree_fold, btree_find_all}
use Rattle.source.specs.Terms.{depth}
use Rattle.source.specs.Listing.{PathOf, SearchTerm, NSTAll, NSTNone, NSTPrefix, ns_search_term, bindings_search_term, revmap_onto, names_revmap}
use Rattle.source.specs.Listing.{matching_values, with_imports, elem_key, names_find_rev_first}
use Rattle.source.specs.Table.{Table, ModSymbol, Line, Matched, match_elem, match_length_of_path, completion_result_of_lid, completion_result_of_ns_or_mod}
use Rattle.source.specs.Rules.{IsKey, IsLabel, NameItem, ModItem, Formed, FormedNames, SoundTrie, SoundTable}
use Rattle.source.specs.Calls.{Completed, listed, refused, Output, completed, completion_rows, first_row, complete, complete_modules, keeps_kind, keeps}
use Rattle.source.specs.Shared.{Allˡ}
use Rattle.source.proofs.Lookup.{Allˡ-map, Allˡ-zip, Allˡ-reverse}
use Rattle.source.proofs.Lists.{merge_all}
use Rattle.source.proofs.Formed.{rows_formed, formed_parts}
use Rattle.source.specs.Forward.{found}
use Rattle.source.specs.Forward.{line, lines, made, kept_line}
use Rattle.source.specs.declared.LidSymbol.{LidSymbol}
use Rattle.source.proofs.Lines.{autocomplete_lid_is, autocomplete_mod_or_ns_is}
use Rattle.source.proofs.Paths.{matched, match_length_skip, match_length_some, match_length_none}
use Rattle.text.proofs.Texts.{starts_short}
use Rattle.listing_ask.specs.Ask.{filter_in}
use Rattle.listing_ask.specs.declared.Ask.{Ask}
use Rattle.listing_ask.specs.declared.Ask.TheVariants as Asks
use Rattle.table.specs.Completions.{completion}

-- -1, or at most 543: 17 keys of 31 bytes with their dots.
abbrev pub Held : ℤ → Type 0
Held (pos m) = m ≤ 543
Held (negsuc m) = m ≡ 0

-- ---- lists
module _ {A : Type 0} (P : A → Type 0) where
  all_append : (xs m : List A) → Allˡ P xs → Allˡ P m → Allˡ P (xs ++ m)
  all_append [] m a b = b
  all_append (x ∷ xs) m a b = (a.0, all_append xs m a.1 b)

  pub all_flatMap : {B : Type 0} (Q : B → Type 0) (f : B → List A) → ((b : B) → Q b → Allˡ P (f b)) → (xs : List B)
      → Allˡ Q xs → Allˡ P (flat_map f xs)
  unfolding flat_map
  all_flatMap Q f h [] a = tt
  all_flatMap Q f h (b ∷ xs) a = all_append (f b) (flat_map f xs) (h b a.0) (all_flatMap Q f h xs a.1)

  all_of_map : {B : Type 0} (f : B → A) (xs : List B) → Allˡ (λ b. P (f b)) xs → Allˡ P (map f xs)
  all_of_map f [] a = tt
  all_of_map f (b ∷ xs) a = (a.0, all_of_map f xs a.1)

-- ---- a prefix is no longer than the key that it begins
le_of : {a b : ℕ} → (b < a → ⊥) → a ≤ b
le_of {a} {b} f = go (ltb b a) refl
  where
    go : (test : Bool) → ltb b a ≡ test → a ≤ b
    go true e = absurd (f (ltb-true b a e))
    go false e = ltb-false b a e

starts_length : (k p : Str) → starts_with k p ≡ true → length p ≤ length k
starts_length k p e = le_of (λ h. true≢false (sym e ∙ sym (starts_short k p h)))

abbrev Begins : Option Str → Str → Type 0
Begins none k = Unit {0}
Begins (some p) k = length p ≤ length k

module _ {A : Type 0} {ℓ : Level} where
  abbrev Fine : PrefixMatch × Value A ℓ → Type 0
  Fine x = Begins x.0.prefix x.0.completion

  abbrev Matches : List (PrefixMatch × Value A ℓ) → Type 0
  Matches m = Allˡ Fine m

  either : (b : Bool) (m m' : List (PrefixMatch × Value A ℓ)) → (b ≡ true → Matches m) → Matches m'
      → Matches (cond b m m')
  either true m m' a b = a refl
  either false m m' a b = b

  find_prefix_fine : (bt : Tree A ℓ) (p : Str) (acc : List (PrefixMatch × Value A ℓ)) → Matches acc
      → Matches (find_prefix_onto bt p acc)
  unfolding find_prefix_onto
  find_prefix_fine StrEmpty p acc b = b
  find_prefix_fine (StrBranch k v lbt rbt) p acc b =
      let le = is_le (string_compare k p) in
      let starts = starts_with k p in
      let right = cond (le || starts) (find_prefix_onto rbt p acc) acc in
      let row : PrefixMatch × Value A ℓ = (record { prefix = some p; completion = k }, v) in
      let middle = cond starts (row ∷ right) right in
      let right_all : Matches right = either (le || starts) (find_prefix_onto rbt p acc) acc (λ e. find_prefix_fine rbt p acc b) b in
      let middle_all : Matches middle = either starts (row ∷ right) right (λ e. (starts_length k p e, right_all)) right_all in
      either le middle (find_prefix_onto lbt p middle) (λ e. middle_all) (find_prefix_fine lbt p middle middle_all)

  fold_fine : (p : Option Str) → ((k : Str) → Begins p k) → (bt : Tree A ℓ) (acc : List (PrefixMatch × Value A ℓ))
      → Matches acc
      → Matches (btree_fold bt (λ k v acc. (record { prefix = p; completion = k }, v) ∷ acc) acc)
  unfolding btree_fold
  fold_fine p f StrEmpty acc b = b
  fold_fine p f (StrBranch k v lbt rbt) acc b = fold_fine p f lbt _ (f k, fold_fine p f rbt acc b)

  abbrev AllMatches : List (List Str × List (PrefixMatch × Value A ℓ)) → Type 0
  AllMatches ms = Allˡ (λ m. Matches m.1) ms

  revmap_fine : (fn : Tree A ℓ → List (PrefixMatch × Value A ℓ)) → ((bt₁ : Tree A ℓ) → Matches (fn bt₁))
      → (acc : List (List Str × List (PrefixMatch × Value A ℓ))) (i : List Str) (nl : NameList A ℓ) → AllMatches acc
      → AllMatches (revmap_onto fn acc i nl)
  unfolding revmap_onto
  revmap_fine fn f acc i []ᴺ b = b
  revmap_fine fn f acc i (Names bt tl) b = revmap_fine fn f ((i, fn bt) ∷ acc) i tl (f bt, b)
  revmap_fine fn f acc i (ImportedNames nm inner tl) b = revmap_fine fn f (revmap_onto fn acc (nm ∷ i) inner) i tl (revmap_fine fn f acc (nm ∷ i) inner b)

  matching_fine : (nl : NameList A ℓ) (term : SearchTerm) → AllMatches (matching_values nl term)
  unfolding matching_values names_revmap btree_find_all btree_find_prefix
  matching_fine nl NSTNone = tt
  matching_fine nl NSTAll = revmap_fine (btree_find_all none) (λ t. fold_fine none (λ k. tt) t [] tt) [] [] nl tt
  matching_fine nl (NSTPrefix []) = revmap_fine (btree_find_all (some [])) (λ t. fold_fine (some []) (λ k. omega arith) t [] tt) [] [] nl tt
  matching_fine nl (NSTPrefix (c ∷ p)) = revmap_fine (λ bt. btree_find_prefix bt (c ∷ p)) (λ t. find_prefix_fine t (c ∷ p) [] tt) [] [] nl tt

  abbrev Row : PathElem × Value A ℓ → Type 0
  Row x = Begins x.0.segment.prefix x.0.segment.completion

  with_imports_fine : (i : List Str) (m : List (PrefixMatch × Value A ℓ)) → Matches m → Allˡ Row (with_imports (i, m))
  unfolding with_imports
  with_imports_fine i [] a = tt
  with_imports_fine i (x ∷ m) a = (a.0, with_imports_fine i m a.1)

  all_fine : (ms : List (List Str × List (PrefixMatch × Value A ℓ))) → AllMatches ms
      → Allˡ (Allˡ Row) (map with_imports ms)
  all_fine [] a = tt
  all_fine (m ∷ ms) a = (with_imports_fine m.0 m.1 a.0, all_fine ms a.1)

  rows_fine : (nl : NameList A ℓ) (term : SearchTerm) → Allˡ Row (names_find_rev_first nl term)
  unfolding names_find_rev_first
  rows_fine nl term = merge_all elem_key Row (map with_imports (reverse (matching_values nl term)))
      (all_fine (reverse (matching_values nl term)) (Allˡ-reverse (λ m. Matches m.1) (matching_values nl term) [] (matching_fine nl term) tt))

-- ---- paths
-- An element of a sound table's path.
abbrev Short : PathElem → Type 0
Short el = (length el.segment.completion ≤ 31) × Begins el.segment.prefix el.segment.completion

so_far_short : (path : PathOf) → Allˡ Short path → (matched path).so_far ≤ length path * 32
unfolding matched match_elem string_length
so_far_short [] a = omega arith
so_far_short (el ∷ path) a = go el.segment.prefix (so_far_short path a.1)
  where
    go : (o : Option Str) → (matched path).so_far ≤ length path * 32
        → (let m : Matched = elim o [
          | none ↦ matched path
          | some prefix ↦ record {
            so_far = (matched path).so_far + 1 + length el.segment.completion;
            last_prefix = prefix;
            last_completion = length el.segment.completion;
          }
        ] in m.so_far ≤ suc (length path) * 32)
    go none h = omega (arith, h)
    go (some p) h = omega (arith, h, a.0.0)

path_held : (path : PathOf) → Allˡ Short path → length path ≤ 17 → Held (match_length_of_path (reverse path))
path_held [] a h = subst Held (sym (match_length_none [] tt)) refl
path_held (el ∷ path) a h = go el.segment.prefix refl a.0.1 (path_held path a.1 (omega arith))
  where
    go : (o : Option Str) → el.segment.prefix ≡ o → Begins o el.segment.completion
        → Held (match_length_of_path (reverse path)) → Held (match_length_of_path (reverse (el ∷ path)))
    go none e b i = subst Held (sym (match_length_skip el path e)) i
    go (some p) e b i = subst Held (sym (match_length_some el path p e)) (omega (arith, so_far_short path a.1, a.0.0, b, h))

-- ---- the listing
module _ {A : Type 0} (Item : A → Type 0) where
  abbrev RowOk : {ℓ : Level} → PathElem × Value A ℓ → Type 0
  RowOk y = Short y.0 × Formed IsKey IsLabel Item y.1

  rows_short : {ℓ : Level} (nl : NameList A ℓ) (term : SearchTerm) → FormedNames IsKey IsLabel Item nl
      → Allˡ RowOk (found nl term)
  unfolding found elem_key
  rows_short nl term g =
      Allˡ-reverse RowOk (names_find_rev_first nl term) []
      (Allˡ-zip (names_find_rev_first nl term) (λ y k b. ((k.0.short, b), k.1)) (rows_formed IsKey IsLabel Item nl term g) (rows_fine nl term)) tt

  abbrev LineOk : PathOf × A → Type 0
  LineOk x = Held (match_length_of_path x.0)

  lines_held : (n : ℕ) (tr : Trie A) (path : PathOf) (q : Query) → Formed IsKey IsLabel Item tr → Allˡ Short path
      → length path + n ≤ 17 → Allˡ LineOk (lines n tr path q)
  unfolding lines
  lines_held zero tr path q g a h = tt
  lines_held (suc n) tr path q g a h =
      all_append LineOk (map (line path) (found (bindings tr) (bindings_search_term q)))
      (flat_map (λ x. lines n x.1 (x.0 ∷ path) (tail q)) (found (namespaces tr) (ns_search_term q)))
      (all_of_map LineOk (line path) (found (bindings tr) (bindings_search_term q))
      (Allˡ-map (found (bindings tr) (bindings_search_term q)) (λ y k. path_held (y.0 ∷ path) (k.0, a) (omega arith))
      (rows_short (bindings tr) (bindings_search_term q) (formed_parts IsKey IsLabel Item tr g).0)))
      (all_flatMap LineOk RowOk (λ x. lines n x.1 (x.0 ∷ path) (tail q)) (λ y k. lines_held n y.1 (y.0 ∷ path) (tail q) k.1 (k.0, a) (omega arith))
      (found (namespaces tr) (ns_search_term q)) (rows_short (namespaces tr) (ns_search_term q) (formed_parts IsKey IsLabel Item tr g).1))

  -- What is made of each path and item, where that keeps the match length.
  made_held : {B : Type 0} (mk : PathOf × A → List (Line B)) (tr : Trie A) (q : Query)
      → ((x : PathOf × A) → Held (match_length_of_path x.0) → Allˡ (λ l. Held l.match_length) (mk x))
      → SoundTrie Item tr → Allˡ (λ l. Held l.match_length) (made mk (suc (depth tr)) tr [] q)
  unfolding made
  made_held mk tr q f s = all_flatMap (λ l. Held l.match_length) LineOk mk f (lines (suc (depth tr)) tr [] q)
      (lines_held (suc (depth tr)) tr [] q s.formed tt (omega (arith, s.shallow)))

-- ---- the answer
-- Each line of an answer has such a length.
abbrev pub AnswerHeld : {A : Type 0} → Completed A → Type 0
AnswerHeld (listed lines entered) = Allˡ (λ l. Held l.match_length) lines
AnswerHeld (refused n) = Unit {0}

completed_held : (A : Type 0) (b : Bool) (budget : ℕ) (out : Output) (query : Str) (lines : List (Line A)) (entered : ℕ)
    → Allˡ (λ l. Held l.match_length) lines → AnswerHeld (completed b budget out query lines entered)
unfolding completed
completed_held A b budget out query lines entered a = go (first_row (completion_rows b budget out query lines entered))
  where
    go : (o : Option ℕ) → AnswerHeld {A = A} (elim o [ none ↦ listed lines entered | some n ↦ refused n ])
    go none = a
    go (some n) = tt

-- So has a line that is kept.
kept_held : {A : Type 0} (result : PathOf × A → Line A)
    → ((x : PathOf × A) → (result x).match_length ≡ match_length_of_path x.0) → (keep : A → Bool) (x : PathOf × A)
    → Held (match_length_of_path x.0) → Allˡ (λ l. Held l.match_length) (kept_line result keep x)
unfolding kept_line
kept_held result e keep x h = go (keep x.1)
  where
    go : (b : Bool) → Allˡ (λ l. Held l.match_length) (cond b (result x ∷ []) [])
    go true = (rw (e x) h, tt)
    go false = tt

pub answer_held : (b : Bool) (tbl : Table) (ask : Ask) (budget : ℕ) (out : Output) (query : Str) → SoundTable tbl
    → AnswerHeld (completion b tbl ask budget out query)
unfolding complete complete_modules completion_result_of_lid completion_result_of_ns_or_mod
answer_held b tbl (Asks.Names f) budget out query s =
    completed_held LidSymbol b budget out query _ _ (subst (Allˡ (λ l. Held l.match_length)) (sym (autocomplete_lid_is tbl (segments query) (keeps_kind f)))
    (made_held NameItem _ tbl.tbl_lids (segments query) (λ x h. kept_held completion_result_of_lid (λ y. refl) (keeps_kind f) x h) s.lids))
answer_held b tbl (Asks.Modules f) budget out query s =
    completed_held ModSymbol b budget out query _ _
    (subst (Allˡ (λ l. Held l.match_length)) (sym (autocomplete_mod_or_ns_is tbl (segments query) (keeps (filter_in f))))
    (made_held ModItem _ tbl.tbl_mods (segments query) (λ x h. kept_held completion_result_of_ns_or_mod (λ y. refl) (keeps (filter_in f)) x h) s.mods))
