-- Where the listing departs from the source's: at a key with more than one holder the source keeps the last, the listing the first.
use Rattle.std.specs.Prelude.{ℕ, zero, suc, ◌≤◌, ◌≡◌, Bool, true, false, cond, length}
use mathlib.Core.List.{List, [], ◌∷◌, map, flat_map, reverse, tail}
use Rattle.std.proofs.Math.Option.{Option, none, some}
use Rattle.source.specs.Text.{Str, Query, starts_with, segments}
use Rattle.source.specs.Types.{Level, Value, Trie, NameList, bindings, namespaces}
use Rattle.source.specs.Trees.{PathElem}
use Rattle.source.specs.Terms.{flatten, holders, first_of, depth}
use Rattle.source.specs.Listing.{SearchTerm, NSTAll, NSTNone, NSTPrefix, ns_search_term, bindings_search_term, matching_values, with_imports, elem_key}
use Rattle.source.specs.Listing.{names_find_rev}
use Rattle.source.specs.Listing.{names_find_rev_first, of_source, by_first}
use Rattle.source.specs.Table.{Table, Line, last_opt, autocomplete_lid, autocomplete_lid_first, autocomplete_mod_or_ns, autocomplete_mod_or_ns_first}
use Rattle.source.specs.Counted.{trie_find_prefix'ᶜ}
use Rattle.source.specs.Calls.{look_up}
use Rattle.promises.specs.Agreement.{Covers, NotRefused, without_last, lines_of_text}
use Rattle.source.specs.Shared.{same, Allˡ}

-- The keys that a search term takes.
abbrev pub accepts : SearchTerm → Str → Bool
accepts NSTAll k = true
accepts NSTNone k = false
accepts (NSTPrefix p) k = starts_with k p

abbrev pub to_list : {B : Type 0} → Option B → List B
to_list none = []
to_list (some b) = b ∷ []

module _ {A : Type 0} {ℓ : Level} where
  -- The rows with that key.
  unfoldable pub with_key : Str → List (PathElem × Value A ℓ) → List (PathElem × Value A ℓ)
  with_key k [] = []
  with_key k (x ∷ xs) = cond (same k (elem_key x)) (x ∷ with_key k xs) (with_key k xs)

  -- What a merge chooses from at a key, in flattened order.
  unfoldable pub rows_of : NameList A ℓ → SearchTerm → Str → List (PathElem × Value A ℓ)
  rows_of nl term k = with_key k (flat_map with_imports (reverse (matching_values nl term)))

  -- In a list: the same keys in the same order; of each the last row by the source, the first by the listing.
  -- The rows are those of the holders where the term takes the key, else none.
  pub record ListDeparts (nl : NameList A ℓ) (term : SearchTerm) : Type 0 where
    pub same_keys : map elem_key (names_find_rev_first nl term) ≡ map elem_key (names_find_rev nl term)
    pub by_source : (k : Str) → with_key k (names_find_rev nl term) ≡ to_list (last_opt (rows_of nl term k))
    pub by_listing : (k : Str) → with_key k (names_find_rev_first nl term) ≡ to_list (first_of (rows_of nl term k))
    pub rows_hold : (k : Str) → map (λ x. x.1) (rows_of nl term k) ≡ cond (accepts term k) (holders (flatten nl) k) []

module _ {A : Type 0} where
  -- No list that a run meets has a key with more than one holder.
  abbrev pub OneHolderEach : ℕ → Trie A → Query → Type 0
  OneHolderEach zero tr q = Unit {0}
  OneHolderEach (suc n) tr q =
      ((k : Str) → length (rows_of (bindings tr) (bindings_search_term q) k) ≤ 1)
      × ((k : Str) → length (rows_of (namespaces tr) (ns_search_term q) k) ≤ 1)
      × Allˡ (λ x. OneHolderEach n x.1 (tail q)) (names_find_rev_first (namespaces tr) (ns_search_term q))

  -- Then both list the same and enter as many tries.
  abbrev pub SameRun : Trie A → Query → Type 0
  SameRun tr q = OneHolderEach (suc (depth tr)) tr q
      → trie_find_prefix'ᶜ by_first tr [] q [] ≡ trie_find_prefix'ᶜ of_source tr [] q []

  -- No step of the walk for a name meets more than one holder.
  abbrev pub OneHolder : Trie A → Query → Type 0
  OneHolder tr [] = Unit {0}
  OneHolder tr (s ∷ []) = length (holders (flatten (bindings tr)) s) ≤ 1
  OneHolder tr (s ∷ (t ∷ q)) =
      (length (holders (flatten (namespaces tr)) s) ≤ 1)
      × ((scope : Trie A) → first_of (holders (flatten (namespaces tr)) s) ≡ some scope → OneHolder scope (t ∷ q))

  -- Then its line is the same in both.
  abbrev pub SameLine : Trie A → List (Line A) → List (Line A) → (name query : Str) → Type 0
  SameLine tr ls ls' name query =
      NotRefused (look_up true tr name) → Covers (segments query) (segments name) → OneHolder tr (segments name)
      → lines_of_text (without_last name) ls ≡ lines_of_text (without_last name) ls'

-- On either root of every sound table.
pub record Departs (tbl : Table) : Type 0 where
  pub names_run : (q : Query) → SameRun tbl.tbl_lids q
  pub modules_run : (q : Query) → SameRun tbl.tbl_mods q
  pub names_line : (name query : Str)
      → SameLine tbl.tbl_lids (autocomplete_lid_first tbl (segments query))
      (autocomplete_lid tbl (segments query)) name query
  pub modules_line : (name query : Str)
      → SameLine tbl.tbl_mods (autocomplete_mod_or_ns_first tbl (segments query) some)
      (autocomplete_mod_or_ns tbl (segments query) some) name query
