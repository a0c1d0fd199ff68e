-- How much one registration can move: the lines of one query, and look-ups, before and after an accepted call.
-- Stated, and not proved yet: no theorem and no contract cites it, so it is no promise (docs/PORT.md, section 8).
use Rattle.std.specs.Prelude.{◌≡◌, Bool, true, false, cond}
use mathlib.Core.List.{List, [], ◌∷◌, ◌++◌, map, tail}
use Rattle.std.proofs.Math.Option.{Option, some}
use Rattle.source.specs.Text.{Str, Query, segments}
use Rattle.source.specs.Tries.{or_else}
use Rattle.source.specs.Terms.{first_of}
use Rattle.source.specs.Listing.{PathOf}
use Rattle.source.specs.Table.{ModSymbol, Line, completion_result_of_lid}
use Rattle.source.specs.Rules.{SoundTable}
use Rattle.source.specs.Calls.{State, Lent, Call, name, include, opens, alias, module_path, register, accepted, Found, look_up, All}
use Rattle.source.specs.Shared.{same, Allˡ}
use Rattle.source.specs.declared.LidSymbol.{LidSymbol}
use Rattle.source.specs.declared.KindFilter.TheVariants.{Every}
use Rattle.promises.specs.Agreement.{Covers, NotRefused, lines_of_text, full_name, ListsNames, ListsModules}

-- ---- One accepted name

-- A name is below the first segment of a host.
unfoldable pub below_first : (host name : Query) → Bool
below_first (h ∷ host) (s ∷ (t ∷ q)) = same s h
below_first (h ∷ host) (s ∷ []) = false
below_first (h ∷ host) [] = false
below_first [] q = false

module _ {A : Type 0} where
  -- The lines without those of a text.
  unfoldable pub other_lines : Str → List (Line A) → List (Line A)
  other_lines t [] = []
  other_lines t (ln ∷ ls) = cond (same ln.candidate t) (other_lines t ls) (ln ∷ other_lines t ls)

  -- A line, without its annotation if it is below the first segment of the host.
  unfoldable pub unlabelled : (host : Str) → Line A → Line A
  unlabelled host ln = record {
    match_length = ln.match_length;
    item_of = ln.item_of;
    candidate = ln.candidate;
    annotation = cond (below_first (segments host) (segments (full_name ln))) [] ln.annotation;
  }

-- The path of a name that a query lists, where no import leads to it.
unfoldable pub plain_path : (query name : Query) → PathOf
plain_path query [] = []
plain_path query (s ∷ q) =
    record { imports = []; segment = record { prefix = first_of query; completion = s } } ∷ plain_path (tail query) q

-- The full name of an id in a host, and its line once it is registered: the new item, no annotation.
abbrev pub own_name : (host id : Str) → Query
own_name host id = segments host ++ (id ∷ [])

unfoldable pub own_line : (host id : Str) → LidSymbol → (query : Str) → Line LidSymbol
own_line host id item query = completion_result_of_lid (plain_path (segments query) (own_name host id), item)

-- The lines of a query before and after an accepted name, whose own line has the text host ++ id.
pub record OneLineMoves (host id : Str) (item : LidSymbol) (query : Str)
    (before after : List (Line LidSymbol)) : Type 0 where
  -- Every other line was there and is there, in the same order, with the same length and item. Below the first segment of the host annotations
  -- are empty now; all others are as they were.
  pub others_stay : other_lines (host ++ id) after ≡ map (unlabelled host) (other_lines (host ++ id) before)
  -- Where the query covers the name, its line is there now, once. If it was there before, it had the same length.
  pub own_comes : Covers (segments query) (own_name host id)
      → lines_of_text (host ++ id) after ≡ own_line host id item query ∷ []
  pub own_length : Allˡ (λ ln. ln.match_length ≡ (own_line host id item query).match_length)
      (lines_of_text (host ++ id) before)
  -- Where it does not, the line is not there, before or after.
  pub own_absent : (Covers (segments query) (own_name host id) → ⊥)
      → (lines_of_text (host ++ id) before ≡ []) × (lines_of_text (host ++ id) after ≡ [])

-- ---- A registration in another segment

-- The segment that a registration is in: the first of its host, of a module the first of its query, of an alias with an empty host its key.
-- Other registrations with an empty host are in none.
unfoldable pub segment_of : Call → Option Str
segment_of (name host id item) = first_of (segments host)
segment_of (include host included) = first_of (segments host)
segment_of (opens is_module host included) = first_of (segments host)
segment_of (alias key host included) = or_else (first_of (segments host)) (some key)
segment_of (module_path loaded query path) = first_of (segments query)

-- It is in another segment than s.
abbrev pub Elsewhere : Str → Call → Type 0
Elsewhere s c = (t : Str) × (segment_of c ≡ some t) × (t ≡ s → ⊥)

-- A full name begins with the segment s.
unfoldable pub begins_in : Str → Query → Bool
begins_in s [] = false
begins_in s (t ∷ q) = same t s

-- The lines of such names: that of s itself, and those that begin with s and a dot.
unfoldable pub lines_in : {A : Type 0} → Str → List (Line A) → List (Line A)
lines_in s [] = []
lines_in s (ln ∷ ls) = cond (begins_in s (segments (full_name ln))) (ln ∷ lines_in s ls) (lines_in s ls)

-- ---- The statement, of the definitions and of every door
-- A door is what a caller holds over a memory m: `Accepted m c m′`, the call c was accepted and has left m′; `Finds m name a`, look-up of a
-- full name gives a; `Lists m query lines`, a completion of the query, of all kinds or unfiltered, gives lines.

-- One root: a registration in another segment than s leaves every line and every look-up in s the same.
pub record StaysIn {M A : Type 0} (Accepted : M → Call → M → Type 0)
    (Finds : M → Str → Found A → Type 0) (Lists : M → Str → List (Line A) → Type 0) : Type 0 where
  pub lines_same : (m m' : M) (c : Call) (s : Str) → Accepted m c m' → Elsewhere s c
      → (query : Str) (before after : List (Line A)) → Lists m query before → Lists m' query after
      → lines_in s after ≡ lines_in s before
  pub look_ups_same : (m m' : M) (c : Call) (s : Str) → Accepted m c m' → Elsewhere s c
      → (full : Str) (a a' : Found A) → begins_in s (segments full) ≡ true
      → Finds m full a → NotRefused a → Finds m' full a' → NotRefused a' → a' ≡ a

-- Both roots.
pub record MovesLittle {M : Type 0} (Accepted : M → Call → M → Type 0)
    (FindsName : M → Str → Found LidSymbol → Type 0) (NamesListed : M → Str → List (Line LidSymbol) → Type 0)
    (FindsModule : M → Str → Found ModSymbol → Type 0) (ModulesListed : M → Str → List (Line ModSymbol) → Type 0)
    : Type 0 where
  -- An accepted name moves one line of names, and none of modules.
  pub one_line : (m m' : M) (host id : Str) (item : LidSymbol) → Accepted m (name host id item) m'
      → (query : Str) (before after : List (Line LidSymbol))
      → NamesListed m query before → NamesListed m' query after → OneLineMoves host id item query before after
  pub no_module : (m m' : M) (host id : Str) (item : LidSymbol) → Accepted m (name host id item) m'
      → (query : Str) (before after : List (Line ModSymbol))
      → ModulesListed m query before → ModulesListed m' query after → after ≡ before
  pub names_stay : StaysIn Accepted FindsName NamesListed
  pub modules_stay : StaysIn Accepted FindsModule ModulesListed

-- Of the definitions: an accepted registration of a sound table, whatever is lent.
abbrev pub AcceptedState : State → Call → State → Type 0
AcceptedState σ c σ' = SoundTable σ.table × ((lent : Lent) × (register true lent σ c ≡ accepted σ'))

abbrev pub DefinitionsMoveLittle : Type 0
DefinitionsMoveLittle = MovesLittle AcceptedState
    (λ σ full a. look_up true σ.table.tbl_lids full ≡ a) (λ σ. ListsNames σ.table Every)
    (λ σ full a. look_up true σ.table.tbl_mods full ≡ a) (λ σ. ListsModules σ.table All)
