-- The requirements' calls: what each is given, when it is refused, and what it hands back.
use Rattle.std.specs.Prelude.{ℕ, ◌+◌, ◌-◌, ◌/◌, min, max, Bool, true, false, not, ◌||◌, cond, List, [], ◌∷◌, ◌++◌, map, eqb, ltb, ℤ, pos, negsuc, length}
use Rattle.std.proofs.Math.Option.{Option, none, some}
use Rattle.source.specs.Limits.{longest_name, most_segments, longest_path, heaviest_list, deepest_trie, most_used, record_words}
use Rattle.source.specs.Text.{Str, Query, common_prefix, string_length, segments, ends_in_dot, name_byte, query_byte, path_byte}
use Rattle.source.specs.Types.{Value, Trie, bind, the_item}
use Rattle.source.specs.Tries.{trie_find_exact}
use Rattle.source.specs.Terms.{heaviest, depth}
use Rattle.source.specs.Listing.{fold_left, by_first}
use Rattle.source.specs.Table.{Table, ModSymbol, Module, Namespace, Line, empty, insert, register_alias, register_include, register_open}
use Rattle.source.specs.Table.{register_module_stays_loaded, autocomplete_lid_first, autocomplete_mod_or_ns_first}
use Rattle.source.specs.Counted.{insertᶜ, register_aliasᶜ, register_includeᶜ, register_openᶜ, register_module_pathᶜ, trie_find_prefix'ᶜ}
use Rattle.source.specs.Rules.{all}
use Rattle.source.specs.Items.{same_kind}
use Rattle.source.specs.declared.ItemKind.TheVariants.{Timer, Port, Register}
use Rattle.source.specs.declared.LidSymbol.{LidSymbol}
use Rattle.source.specs.declared.KindFilter.{KindFilter}
use Rattle.source.specs.declared.KindFilter.TheVariants.{Every, Timers, Ports, Registers}

-- ---- Arguments

-- A lent text, by its place in a call: a query (host, included or module query), an id or key, a file path, a look-up's or a completion's query.
pub data Argument : Type 0 where
  a_query a_name a_path a_look_up a_completion : Str → Argument

unfoldable pub text_of : Argument → Str
text_of (a_query s) = s
text_of (a_name s) = s
text_of (a_path s) = s
text_of (a_look_up s) = s
text_of (a_completion s) = s

unfoldable pub is_empty : {A : Type 0} → List A → Bool
is_empty [] = true
is_empty (a ∷ xs) = false

unfoldable pub any : {A : Type 0} → (A → Bool) → List A → Bool
any p [] = false
any p (a ∷ xs) = p a || any p xs

-- A query that is not empty and does not end in a dot, or a byte that is neither a name byte nor a dot.
unfoldable pub bad_query : Str → Bool
bad_query s = not (ends_in_dot s) || not (all query_byte s)

-- Row 2, Malformed.
unfoldable pub malformed : Argument → Bool
malformed (a_query s) = bad_query s
malformed (a_name s) = not (all name_byte s)
malformed (a_path s) = not (all path_byte s)
malformed (a_look_up s) = bad_query s
malformed (a_completion s) = bad_query s

-- Row 3, Empty.
unfoldable pub empty_name : Argument → Bool
empty_name (a_query s) = any is_empty (segments s)
empty_name (a_name s) = is_empty s
empty_name (a_path s) = false
empty_name (a_look_up s) = any is_empty (segments s) || is_empty (segments s)
empty_name (a_completion s) = false

-- A segment of over 31 bytes, or over 17 segments.
unfoldable pub long_query : Str → Bool
long_query s = any (λ g. ltb longest_name (length g)) (segments s) || ltb most_segments (length (segments s))

-- Row 4, TooLong.
unfoldable pub too_long : Argument → Bool
too_long (a_query s) = long_query s
too_long (a_name s) = ltb longest_name (length s)
too_long (a_path s) = ltb longest_path (length s)
too_long (a_look_up s) = long_query s
too_long (a_completion s) = long_query s

-- ---- Refusals

-- A row of the table of refusals: its number, and whether its condition holds.
pub data Row : Type 0 where
  ◌when◌ : ℕ → Bool → Row

infix 10 ◌when◌
-- The number of the first row that applies.
unfoldable pub first_row : List Row → Option ℕ
first_row [] = none
first_row ((n when true) ∷ rows) = some n
first_row ((n when false) ∷ rows) = first_row rows

-- Rows 1 to 4, of every call.
unfoldable pub argument_rows : (sound : Bool) → List Argument → List Row
argument_rows sound args =
    (1 when not sound)
    ∷ (2 when any malformed args)
    ∷ (3 when any empty_name args)
    ∷ (4 when any too_long args)
    ∷ []

-- ---- Registrations

-- The table by value: what its roots read as, records used, text used.
pub record State : Type 0 where
  pub table : Table
  pub records_used : ℕ
  pub text_used : ℕ

unfoldable pub fresh : State
fresh = record { table = empty; records_used = 0; text_used = 0 }

-- What is lent with it: how many words, how many bytes.
pub record Lent : Type 0 where
  pub words : ℕ
  pub text : ℕ

-- Twelve words to a record.
unfoldable pub whole_records : ℕ → ℕ
whole_records words = words / record_words

-- Free: what is lent, up to 65,536, less what is used.
unfoldable pub free : (lent used : ℕ) → ℕ
free lent used = min lent most_used - used

-- A registration, with its texts as lent.
pub data Call : Type 0 where
  name : (host id : Str) (c : LidSymbol) → Call
  include : (host included : Str) → Call
  opens : (is_module : Bool) (host included : Str) → Call
  alias : (key host included : Str) → Call
  module_path : (loaded : Bool) (query path : Str) → Call

unfoldable pub arguments : Call → List Argument
arguments (name host id c) = a_query host ∷ a_name id ∷ []
arguments (include host included) = a_query host ∷ a_query included ∷ []
arguments (opens is_module host included) = a_query host ∷ a_query included ∷ []
arguments (alias key host included) = a_name key ∷ a_query host ∷ a_query included ∷ []
arguments (module_path loaded query path) = a_query query ∷ a_path path ∷ []

-- The source's function for a registration; of a module path the one that departs from it.
unfoldable pub registered : Table → Call → Table
registered tbl (name host id c) = insert tbl (segments host) id c
registered tbl (include host included) = register_include tbl (segments host) (segments included)
registered tbl (opens is_module host included) = register_open tbl is_module (segments host) (segments included)
registered tbl (alias key host included) = register_alias tbl key (segments host) (segments included)
registered tbl (module_path loaded query path) = register_module_stays_loaded tbl loaded path (segments query)

-- Records: those that the source's expressions build in the call.
unfoldable pub records : Table → Call → ℕ
records tbl (name host id c) = (insertᶜ tbl (segments host) id c).count
records tbl (include host included) = (register_includeᶜ tbl (segments host) (segments included)).count
records tbl (opens is_module host included) = (register_openᶜ tbl is_module (segments host) (segments included)).count
records tbl (alias key host included) = (register_aliasᶜ tbl key (segments host) (segments included)).count
records tbl (module_path loaded query path) = (register_module_pathᶜ tbl loaded path (segments query)).count

-- Text: the bytes of the lent texts, each once and whole.
unfoldable pub text_taken : List Argument → ℕ
text_taken [] = 0
text_taken (a ∷ args) = length (text_of a) + text_taken args

-- Some list weighs over 96; a root has depth over 16.
unfoldable pub crowded : Table → Bool
crowded tbl = ltb heaviest_list (max (heaviest tbl.tbl_lids) (heaviest tbl.tbl_mods))

unfoldable pub deep : Table → Bool
deep tbl = ltb deepest_trie (max (depth tbl.tbl_lids) (depth tbl.tbl_mods))

unfoldable pub registration_rows : (sound : Bool) → Lent → State → Call → List Row
registration_rows sound lent σ c =
    argument_rows sound (arguments c)
    ++ (5 when crowded (registered σ.table c))
    ∷ (6 when deep (registered σ.table c))
    ∷ (7 when ltb (free (whole_records lent.words) σ.records_used) (records σ.table c))
    ∷ (8 when ltb (free lent.text σ.text_used) (text_taken (arguments c)))
    ∷ []

-- The table after an accepted registration.
unfoldable pub after : State → Call → State
after σ c = record {
  table = registered σ.table c;
  records_used = σ.records_used + records σ.table c;
  text_used = σ.text_used + text_taken (arguments c);
}

pub data Registered : Type 0 where
  accepted : State → Registered
  refused : ℕ → Registered

-- What a registration hands back. Refused, the table comes back equal.
unfoldable pub register : (sound : Bool) → Lent → State → Call → Registered
register sound lent σ c =
    elim (first_row (registration_rows sound lent σ c)) [ none ↦ accepted (after σ c) | some n ↦ refused n ]

-- ---- Look-ups

pub data Found (A : Type 0) : Type 0 where
  found : A → Found A
  not_found : Found A
  refused : ℕ → Found A

unfoldable pub found_of : {A : Type 0} → Option (Value A bind) → Found A
found_of none = not_found
found_of (some v) = found (the_item v)

-- What a look-up on a root hands back.
unfoldable pub look_up : {A : Type 0} → (sound : Bool) → Trie A → Str → Found A
look_up sound root query =
    elim (first_row (argument_rows sound (a_look_up query ∷ []))) [
      | none ↦ found_of (trie_find_exact root (segments query))
      | some n ↦ refused n
    ]

-- ---- Completions

-- A span is a start and a length in the output text.
pub record Span : Type 0 where
  pub start : ℕ
  pub len : ℕ

-- The match length that a 32-bit number holds in two's complement, of -1 and up.
unfoldable pub signed_word : ℕ → ℤ
signed_word m = cond (eqb m 4294967295) (negsuc 0) (pos m)

pub record LineRecord (A : Type 0) : Type 0 where
  pub match_length : ℤ
  pub item_of : A
  pub candidate : Span
  pub annotation : Span

module _ {A : Type 0} where
  -- The texts of the lines, one after another: candidate, then annotation.
  unfoldable pub output_text : List (Line A) → Str
  output_text [] = []
  output_text (ln ∷ ls) = ln.candidate ++ (ln.annotation ++ output_text ls)

  -- The line records, where the texts are laid from a place on.
  unfoldable pub output_lines : ℕ → List (Line A) → List (LineRecord A)
  output_lines at [] = []
  output_lines at (ln ∷ ls) =
      record {
        match_length = ln.match_length;
        item_of = ln.item_of;
        candidate = record { start = at; len = length ln.candidate };
        annotation = record { start = at + length ln.candidate; len = length ln.annotation };
      }
      ∷ output_lines (at + length ln.candidate + length ln.annotation) ls

-- The output lent for a completion: how many line records, how many bytes.
pub record Output : Type 0 where
  pub lines : ℕ
  pub text : ℕ

pub data Completed (A : Type 0) : Type 0 where
  listed : (lines : List (Line A)) (entered : ℕ) → Completed A
  refused : ℕ → Completed A

module _ {A : Type 0} where
  unfoldable pub completion_rows : (sound : Bool) → (budget : ℕ) → Output → Str → List (Line A) → (entered : ℕ)
      → List Row
  completion_rows sound budget out query lines entered =
      argument_rows sound (a_completion query ∷ [])
      ++ (9 when ltb budget entered)
      ∷ (10 when ltb out.lines (length lines) || ltb out.text (length (output_text lines)))
      ∷ []

  unfoldable pub completed : (sound : Bool) → (budget : ℕ) → Output → Str → List (Line A) → (entered : ℕ) → Completed A
  completed sound budget out query lines entered =
      elim (first_row (completion_rows sound budget out query lines entered))
      [ none ↦ listed lines entered | some n ↦ refused n ]

-- Tries entered: the calls of trie_find_prefix'.
unfoldable pub tries_entered : {A : Type 0} → Trie A → Query → ℕ
tries_entered root query = (trie_find_prefix'ᶜ by_first root [] query []).count

-- What a completion keeps: the lines whose item passes, in order and as they are.
unfoldable pub kept : {A : Type 0} → (A → Bool) → List (Line A) → List (Line A)
kept keep [] = []
kept keep (ln ∷ ls) = cond (keep ln.item_of) (ln ∷ kept keep ls) (kept keep ls)

-- The filter of names.
unfoldable pub keeps_kind : KindFilter → LidSymbol → Bool
keeps_kind Every c = true
keeps_kind Timers c = same_kind c.kind Timer
keeps_kind Ports c = same_kind c.kind Port
keeps_kind Registers c = same_kind c.kind Register

-- The filter of modules. Loaded is of either sort.
pub data Filter : Type 0 where
  All Loaded ModulesOnly NamespacesOnly : Filter

unfoldable pub keeps : Filter → ModSymbol → Bool
keeps All m = true
keeps Loaded (Module m path loaded) = loaded
keeps Loaded (Namespace n loaded) = loaded
keeps ModulesOnly (Module m path loaded) = true
keeps ModulesOnly (Namespace n loaded) = false
keeps NamespacesOnly (Module m path loaded) = false
keeps NamespacesOnly (Namespace n loaded) = true

-- What a completion hands back: of names, of modules.
unfoldable pub complete : (sound : Bool) → Table → KindFilter → (budget : ℕ) → Output → Str → Completed LidSymbol
complete sound tbl f budget out query =
    completed sound budget out query (kept (keeps_kind f) (autocomplete_lid_first tbl (segments query)))
    (tries_entered tbl.tbl_lids (segments query))

unfoldable pub complete_modules : (sound : Bool) → Table → Filter → (budget : ℕ) → Output → Str → Completed ModSymbol
complete_modules sound tbl f budget out query =
    completed sound budget out query (kept (keeps f) (autocomplete_mod_or_ns_first tbl (segments query) some))
    (tries_entered tbl.tbl_mods (segments query))

-- ---- What all lines agree on

-- The longest beginning that the texts share; of no text it is empty.
unfoldable pub shared_beginning : List Str → Str
shared_beginning [] = []
shared_beginning (s ∷ ss) = fold_left common_prefix s ss

-- That of the candidates of a listing, its length; 0 where it is refused.
unfoldable pub shared_length : {A : Type 0} → Completed A → ℕ
shared_length (listed lines entered) = string_length (shared_beginning (map (λ ln. ln.candidate) lines))
shared_length (refused n) = 0
