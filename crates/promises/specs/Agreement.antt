-- Demand 3: the pane lists what look-up takes.
use Rattle.std.specs.Prelude.{ℕ, ◌-◌, ◌≡◌, Bool, true, false, cond, List, [], ◌∷◌, ◌++◌, length, take}
use Rattle.std.proofs.Math.Dec.{compare_is_eq}
use Rattle.source.specs.Text.{Str, Query, string_compare, starts_with, dot, segments}
use Rattle.source.specs.Table.{Table, ModSymbol, Line}
use Rattle.source.specs.Rules.{SoundTable}
use Rattle.source.specs.Calls.{Found, found, not_found, refused, look_up, listed, Output, Filter, All, keeps, keeps_kind, complete, complete_modules}
use Rattle.source.specs.Shared.{Allˡ}
use Rattle.source.specs.declared.LidSymbol.{LidSymbol}
use Rattle.source.specs.declared.KindFilter.{KindFilter}
use Rattle.source.specs.declared.KindFilter.TheVariants.{Every}

-- A query covers a full name that has at least as many segments and whose segments begin, one by one, with the query's.
abbrev pub Covers : (query name : Query) → Type 0
Covers [] name = Unit {0}
Covers (p ∷ query) [] = ⊥
Covers (p ∷ query) (s ∷ name) = (starts_with s p ≡ true) × Covers query name

-- A text without its last byte.
unfoldable pub without_last : Str → Str
without_last s = take (length s - 1) s

module _ {A : Type 0} where
  abbrev pub NotRefused : Found A → Type 0
  NotRefused (found a) = Unit {0}
  NotRefused not_found = Unit {0}
  NotRefused (refused n) = ⊥

  -- The lines with that text. A line's text is its candidate.
  unfoldable pub lines_of_text : Str → List (Line A) → List (Line A)
  lines_of_text t [] = []
  lines_of_text t (ln ∷ ls) =
      elim (compare_is_eq (string_compare ln.candidate t))
      [ true ↦ ln ∷ lines_of_text t ls | false ↦ lines_of_text t ls ]

  -- Exactly one line, which carries the item; or no line, and none.
  abbrev pub Shows : List (Line A) → Found A → Type 0
  Shows ls (found a) = (ln : Line A) × (ls ≡ ln ∷ []) × (ln.item_of ≡ a)
  Shows ls not_found = ls ≡ []
  Shows ls (refused n) = ⊥

  -- What a filter leaves of what look-up finds.
  unfoldable pub passing : (A → Bool) → Found A → Found A
  passing keep (found a) = cond (keep a) (found a) not_found
  passing keep not_found = not_found
  passing keep (refused n) = refused n

-- Pane and look-up of one root. `Finds name a`: look-up of a full name gives a; `Lists query lines`: a completion of the query gives lines.
pub record Agree {A : Type 0} (Finds : Str → Found A → Type 0) (Lists : Str → List (Line A) → Type 0) : Type 0 where
  -- The lines with the text of a name show what look-up finds, where it is not refused and the query covers the name.
  pub shows : (name query : Str) (a : Found A) (lines : List (Line A))
      → Finds name a → NotRefused a → Lists query lines → Covers (segments query) (segments name)
      → Shows (lines_of_text (without_last name) lines) a
  -- So a name that look-up finds is listed where it is asked for in full.
  pub in_full : (name : Str) (a : A) (lines : List (Line A)) → Finds name (found a) → Lists name lines
      → Shows (lines_of_text (without_last name) lines) (found a)

-- The lines of a completion that is not refused, whatever its budget and output.
abbrev pub ListsNames : Table → KindFilter → Str → List (Line LidSymbol) → Type 0
ListsNames tbl f query lines =
    (budget : ℕ) × (out : Output) × (entered : ℕ) × (complete true tbl f budget out query ≡ listed lines entered)

abbrev pub ListsModules : Table → Filter → Str → List (Line ModSymbol) → Type 0
ListsModules tbl f query lines =
    (budget : ℕ) × (out : Output) × (entered : ℕ)
    × (complete_modules true tbl f budget out query ≡ listed lines entered)

-- On either root of every sound table, in completions of all kinds and unfiltered.
pub record Demand3 : Type 0 where
  pub names : (tbl : Table) → SoundTable tbl
      → Agree (λ name a. look_up true tbl.tbl_lids name ≡ a) (ListsNames tbl Every)
  pub modules : (tbl : Table) → SoundTable tbl
      → Agree (λ name a. look_up true tbl.tbl_mods name ≡ a) (ListsModules tbl All)

-- The same of a listing of one kind, or filtered, and of what passes of what look-up finds.
pub record FilteredAgree : Type 0 where
  pub names : (tbl : Table) → SoundTable tbl → (f : KindFilter)
      → Agree (λ name a. passing (keeps_kind f) (look_up true tbl.tbl_lids name) ≡ a) (ListsNames tbl f)
  pub modules : (tbl : Table) → SoundTable tbl → (f : Filter)
      → Agree (λ name a. passing (keeps f) (look_up true tbl.tbl_mods name) ≡ a) (ListsModules tbl f)

-- The full name of a line: its candidate with a dot after it.
abbrev pub full_name : {A : Type 0} → Line A → Str
full_name ln = ln.candidate ++ (dot ∷ [])

-- Each line of a completion has a full name that the query covers, and look-up of it finds the line's item.
pub record EachFound {A : Type 0} (Finds : Str → Found A → Type 0) (Lists : Str → List (Line A) → Type 0) : Type 0 where
  pub covered : (query : Str) (lines : List (Line A)) → Lists query lines
      → Allˡ (λ ln. Covers (segments query) (segments (full_name ln))) lines
  pub found_item : (query : Str) (lines : List (Line A)) → Lists query lines
      → Allˡ (λ ln. (a : Found A) → Finds (full_name ln) a → a ≡ found ln.item_of) lines

-- Demand 3 the other way round, on either root of every sound table, of every kind and filter.
pub record LinesFound : Type 0 where
  pub names : (tbl : Table) → SoundTable tbl → (f : KindFilter)
      → EachFound (λ name a. look_up true tbl.tbl_lids name ≡ a) (ListsNames tbl f)
  pub modules : (tbl : Table) → SoundTable tbl → (f : Filter)
      → EachFound (λ name a. look_up true tbl.tbl_mods name ≡ a) (ListsModules tbl f)
