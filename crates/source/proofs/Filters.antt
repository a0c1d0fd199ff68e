-- What each filter keeps, that the filter of modules is the source's, and that a filtered completion is the unfiltered one without the lines that are not kept.
use Prim.Native.Nat.{ℕ, suc, ◌≤◌}
use mathlib.Core.Path.{◌≡◌, refl, ap, subst, ◌∙◌}
use mathlib.Core.Bool.{Bool, true, false, not, cond}
use mathlib.Core.List.{List, [], ◌∷◌, ◌++◌, map}
use mathlib.Core.Option.{Option, none, some}
use native.Mathlib.Omega.{arith}
use lib.Dec.{ltb}
use lib.ListN.{length, length-append}
use borrow.Author.Tests.{ltb-false, le-ltb}
use Rattle.source.specs.Text.{Query, Str}
use Rattle.source.specs.Listing.{PathOf, trie_find_prefix, trie_find_prefix_first}
use Rattle.source.specs.Table.{Table, ModSymbol, Module, Namespace, Line, completion_result_of_ns_or_mod, filter_map, autocomplete_mod_or_ns}
use Rattle.source.specs.Table.{autocomplete_mod_or_ns_first}
use Rattle.source.specs.Calls.{kept, keeps_kind, Filter, All, Loaded, ModulesOnly, NamespacesOnly, keeps, Output, output_text, completion_rows, Completed}
use Rattle.source.specs.Calls.{listed, refused, first_row, argument_rows, completed, complete, complete_modules}
use Rattle.source.specs.declared.LidSymbol.{LidSymbol}
use Rattle.source.specs.declared.KindFilter.{KindFilter}
use Rattle.source.specs.declared.KindFilter.TheVariants.{Every}
use Rattle.source.proofs.Queries.{or_parts}
use Rattle.source.proofs.Refusals.{first_row_none, none_first_row}

-- The flag of a symbol, of either sort.
abbrev pub is_loaded : ModSymbol → Bool
is_loaded (Module name path loaded) = loaded
is_loaded (Namespace name loaded) = loaded

abbrev pub is_module : ModSymbol → Bool
is_module (Module name path loaded) = true
is_module (Namespace name loaded) = false

-- All keeps everything, Loaded what is loaded of either sort, ModulesOnly the Modules, NamespacesOnly the Namespaces.
pub record FilterRules (m : ModSymbol) : Type 0 where
  pub all : keeps All m ≡ true
  pub loaded : keeps Loaded m ≡ is_loaded m
  pub modules_only : keeps ModulesOnly m ≡ is_module m
  pub namespaces_only : keeps NamespacesOnly m ≡ not (is_module m)

pub filters_keep : (m : ModSymbol) → FilterRules m
unfolding keeps
filters_keep (Module name path loaded) = record { all = refl; loaded = refl; modules_only = refl; namespaces_only = refl }
filters_keep (Namespace name loaded) = record { all = refl; loaded = refl; modules_only = refl; namespaces_only = refl }

-- ---- What is kept

module _ {A : Type 0} where
  -- What keeps every item keeps every line.
  pub kept_all : (keep : A → Bool) → ((a : A) → keep a ≡ true) → (ls : List (Line A)) → kept keep ls ≡ ls
  unfolding kept
  kept_all keep h [] = refl
  kept_all keep h (l ∷ ls) = rw (h l.item_of) (ap (λ t. l ∷ t) (kept_all keep h ls))

  kept_length : (keep : A → Bool) (ls : List (Line A)) → length (kept keep ls) ≤ length ls
  unfolding kept
  kept_length keep [] = omega arith
  kept_length keep (l ∷ ls) = go (keep l.item_of) (kept_length keep ls)
    where
      go : (b : Bool) → length (kept keep ls) ≤ length ls
          → length (cond b (l ∷ kept keep ls) (kept keep ls)) ≤ suc (length ls)
      go true h = omega arith
      go false h = omega arith

  kept_text : (keep : A → Bool) (ls : List (Line A)) → length (output_text (kept keep ls)) ≤ length (output_text ls)
  unfolding kept output_text
  kept_text keep [] = omega arith
  kept_text keep (l ∷ ls) = go (keep l.item_of) (kept_text keep ls)
    where
      go : (b : Bool) → length (output_text (kept keep ls)) ≤ length (output_text ls)
          → length (output_text (cond b (l ∷ kept keep ls) (kept keep ls)))
          ≤ length (l.candidate ++ (l.annotation ++ output_text ls))
      go true h = simp length-append (omega arith)
      go false h = simp length-append (omega arith)

  -- Rows that let all lines pass let the kept lines pass.
  kept_rows : (keep : A → Bool) (sound : Bool) (budget : ℕ) (out : Output) (query : Str) (ls : List (Line A))
      (entered : ℕ)
      → first_row (completion_rows sound budget out query ls entered) ≡ none
      → first_row (completion_rows sound budget out query (kept keep ls) entered) ≡ none
  unfolding completion_rows argument_rows
  kept_rows keep sound budget out query ls entered e =
      let h = first_row_none (completion_rows sound budget out query ls entered) e in
      let p = or_parts (ltb out.lines (length ls)) (ltb out.text (length (output_text ls))) h.1.1.1.1.1.0 in
      let a : ltb out.lines (length (kept keep ls)) ≡ false =
      le-ltb out.lines (length (kept keep ls)) (omega (arith, kept_length keep ls, ltb-false out.lines (length ls) p.0)) in
      let b : ltb out.text (length (output_text (kept keep ls))) ≡ false =
      le-ltb out.text (length (output_text (kept keep ls))) (omega (arith, kept_text keep ls, ltb-false out.text (length (output_text ls)) p.1)) in
      none_first_row (completion_rows sound budget out query (kept keep ls) entered)
      (h.0, (h.1.0, (h.1.1.0, (h.1.1.1.0, (h.1.1.1.1.0, (rw (a, b) refl, tt))))))

  -- Where all lines are listed the kept ones are, as they are, with the same tries entered.
  kept_completed : (keep : A → Bool) (sound : Bool) (budget : ℕ) (out : Output) (query : Str)
      (all all' ls : List (Line A)) (n entered : ℕ)
      → all' ≡ all → completed sound budget out query all' n ≡ listed ls entered
      → completed sound budget out query (kept keep all) n ≡ listed (kept keep ls) entered
  unfolding completed
  kept_completed keep sound budget out query all all' ls n entered same e =
      go (first_row (completion_rows sound budget out query all n)) (kept_rows keep sound budget out query all n)
      (subst (λ l. completed sound budget out query l n ≡ listed ls entered) same e)
    where
      go : (o : Option ℕ) → (o ≡ none → first_row (completion_rows sound budget out query (kept keep all) n) ≡ none)
          → ◌≡◌ {A = Completed A} (elim o [ none ↦ listed all n | some m ↦ refused m ]) (listed ls entered)
          → completed sound budget out query (kept keep all) n ≡ listed (kept keep ls) entered
      go none h e = rw (h refl, completed) (cc)
      go (some m) h e = let z : ◌≡◌ {A = ℕ} 0 1 = cc in absurd (omega arith)

-- ---- The filter of modules is the source's

-- A filter as the source's function takes it.
unfoldable pub filter_of : Filter → PathOf × ModSymbol → Option (PathOf × ModSymbol)
filter_of f x = elim (keeps f x.1) [ true ↦ some x | false ↦ none ]

pub filter_map_some : {A : Type 0} (xs : List A) → filter_map some xs ≡ xs
unfolding filter_map
filter_map_some [] = refl
filter_map_some (x ∷ xs) = ap (λ l. x ∷ l) (filter_map_some xs)

-- With nothing dropped a listing has a line for each path that is found.
pub all_listed : (tbl : Table) (q : Query)
    → autocomplete_mod_or_ns_first tbl q some
    ≡ map completion_result_of_ns_or_mod (trie_find_prefix_first tbl.tbl_mods q)
unfolding autocomplete_mod_or_ns_first
all_listed tbl q = ap (map completion_result_of_ns_or_mod) (filter_map_some (trie_find_prefix_first tbl.tbl_mods q))

filter_kept : (f : Filter) (xs : List (PathOf × ModSymbol))
    → kept (keeps f) (map completion_result_of_ns_or_mod xs)
    ≡ map completion_result_of_ns_or_mod (filter_map (filter_of f) xs)
unfolding filter_map filter_of kept completion_result_of_ns_or_mod
filter_kept f [] = refl
filter_kept f (x ∷ xs) = go (keeps f x.1) (filter_kept f xs)
  where
    go : (b : Bool) → kept (keeps f) (map completion_result_of_ns_or_mod xs)
        ≡ map completion_result_of_ns_or_mod (filter_map (filter_of f) xs)
        → cond b (completion_result_of_ns_or_mod x ∷ kept (keeps f) (map completion_result_of_ns_or_mod xs))
        (kept (keeps f) (map completion_result_of_ns_or_mod xs))
        ≡ map completion_result_of_ns_or_mod
        (elim (elim b as (λ _. Option (PathOf × ModSymbol)) [ true ↦ some x | false ↦ none ])
        [ none ↦ filter_map (filter_of f) xs | some y ↦ y ∷ filter_map (filter_of f) xs ])
    go true e = ap (λ l. completion_result_of_ns_or_mod x ∷ l) e
    go false e = e

-- Of any paths, the lines kept are those of the paths that the filter keeps.
filter_lines : (f : Filter) (xs : List (PathOf × ModSymbol))
    → kept (keeps f) (map completion_result_of_ns_or_mod (filter_map some xs))
    ≡ map completion_result_of_ns_or_mod (filter_map (filter_of f) xs)
filter_lines f xs = ap (λ l. kept (keeps f) (map completion_result_of_ns_or_mod l)) (filter_map_some xs) ∙ filter_kept f xs

-- So of the listing, and of the source's own function with its filter.
pub filter_listed : (f : Filter) (tbl : Table) (q : Query)
    → kept (keeps f) (autocomplete_mod_or_ns_first tbl q some) ≡ autocomplete_mod_or_ns_first tbl q (filter_of f)
unfolding autocomplete_mod_or_ns_first
filter_listed f tbl q = filter_lines f (trie_find_prefix_first tbl.tbl_mods q)

pub filter_source : (f : Filter) (tbl : Table) (q : Query)
    → kept (keeps f) (autocomplete_mod_or_ns tbl q some) ≡ autocomplete_mod_or_ns tbl q (filter_of f)
unfolding autocomplete_mod_or_ns
filter_source f tbl q = filter_lines f (trie_find_prefix tbl.tbl_mods q)

-- ---- The calls

pub every_kept : (ls : List (Line LidSymbol)) → kept (keeps_kind Every) ls ≡ ls
unfolding keeps_kind
every_kept = kept_all (keeps_kind Every) (λ c. refl)

pub all_kept : (ls : List (Line ModSymbol)) → kept (keeps All) ls ≡ ls
all_kept = kept_all (keeps All) (λ m. (filters_keep m).all)

-- A completion that is listed of all kinds is listed of each: the kept lines as they are, and the same tries entered.
pub kind_completes : (f : KindFilter) (sound : Bool) (tbl : Table) (budget : ℕ) (out : Output) (query : Str)
    (ls : List (Line LidSymbol)) (entered : ℕ)
    → complete sound tbl Every budget out query ≡ listed ls entered
    → complete sound tbl f budget out query ≡ listed (kept (keeps_kind f) ls) entered
unfolding complete
kind_completes f sound tbl budget out query ls entered e =
    kept_completed (keeps_kind f) sound budget out query _ _ ls _ entered (every_kept _) e

-- A completion that is listed under All is listed under every filter: the kept lines as they are, and the same tries entered.
pub filter_completes : (f : Filter) (sound : Bool) (tbl : Table) (budget : ℕ) (out : Output) (query : Str)
    (ls : List (Line ModSymbol)) (entered : ℕ)
    → complete_modules sound tbl All budget out query ≡ listed ls entered
    → complete_modules sound tbl f budget out query ≡ listed (kept (keeps f) ls) entered
unfolding complete_modules
filter_completes f sound tbl budget out query ls entered e =
    kept_completed (keeps f) sound budget out query _ _ ls _ entered (all_kept _) e
