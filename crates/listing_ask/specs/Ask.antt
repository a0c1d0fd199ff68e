-- What a completion asks: which table, and which lines it keeps.
use Rattle.std.specs.Prelude.{Bool, List}
use Rattle.source.specs.Listing.{PathOf}
use Rattle.source.specs.Table.{Line, completion_result_of_lid, completion_result_of_ns_or_mod}
use Rattle.source.specs.Calls as C
use Rattle.source.specs.Calls.{keeps_kind, keeps}
use Rattle.source.specs.Forward.{kept_line}
use Rattle.memory.specs.Layout.{Which, names, modules, Item}
use Rattle.listing_ask.specs.declared.Filter.{Filter}
use Rattle.listing_ask.specs.declared.Filter.TheVariants.{All, Loaded, ModulesOnly, NamespacesOnly}
use Rattle.listing_ask.specs.declared.Ask.{Ask}
use Rattle.listing_ask.specs.declared.Ask.TheVariants.{Names, Modules}

-- The filter argument.
abbrev pub filter_in : Filter → C.Filter
filter_in All = C.All
filter_in Loaded = C.Loaded
filter_in ModulesOnly = C.ModulesOnly
filter_in NamespacesOnly = C.NamespacesOnly

-- The table that is asked.
abbrev pub asked : Ask → Which
asked (Names f) = names
asked (Modules f) = modules

-- Whether an item passes.
abbrev pub passes : (a : Ask) → Item (asked a) → Bool
passes (Names f) = keeps_kind f
passes (Modules f) = keeps (filter_in f)

-- The line of a path and its item.
abbrev pub result_of : (a : Ask) → PathOf × Item (asked a) → Line (Item (asked a))
result_of (Names f) = completion_result_of_lid
result_of (Modules f) = completion_result_of_ns_or_mod

-- That line, none where the item does not pass.
abbrev pub line_for : (a : Ask) → PathOf × Item (asked a) → List (Line (Item (asked a)))
line_for a = kept_line (result_of a) (passes a)
