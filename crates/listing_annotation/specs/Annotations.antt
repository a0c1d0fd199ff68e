-- The annotation of a found branch.
use Rattle.std.specs.Prelude.{ℕ, List, [], eqb}
use Rattle.source.specs.Text.{Str}
use Rattle.source.specs.Tries.{dflt}
use Rattle.source.specs.Table.{ModSymbol, Module, Namespace}
use Rattle.memory.specs.Layout.{record_at, pick, modules, item_of}
use Rattle.find_list.specs.Entries.{label_at}
use Rattle.listing_ask.specs.declared.Ask.{Ask}
use Rattle.listing_ask.specs.declared.Ask.TheVariants.{Names, Modules}
use Rattle.listing_output.specs.declared.run.Path.{Path}
use Rattle.listing_annotation.specs.declared.Labelled.{Labelled}

-- The collection of the outermost label of a path and the branch below it, 0 for none.
abbrev pub outermost : Path → ℕ → ℕ
outermost p label = pick (eqb p.n 0) label p.label

-- The annotation that a label is, the empty one for none.
abbrev pub note_at : (ws txt : List ℕ) → ℕ → Str
note_at ws txt label = dflt [] (label_at ws txt label)

-- The mod symbol of a branch.
abbrev pub symbol_at : (ws txt : List ℕ) → ℕ → ModSymbol
symbol_at ws txt branch = item_of modules txt (record_at ws branch)

-- One of four: of a loaded module, of another, of a loaded namespace, of another.
abbrev pub by_symbol : ModSymbol → (a b c d : Str) → Str
by_symbol (Module name path loaded) a b c d = pick loaded a b
by_symbol (Namespace name loaded) a b c d = pick loaded c d

-- The annotation of a found branch: the label of its collection, or one of the four.
abbrev pub annotation : Ask → (ws txt : List ℕ) → Labelled → (a b c d : Str) → Str
annotation (Names f) ws txt found a b c d = note_at ws txt found.label
annotation (Modules f) ws txt found a b c d = by_symbol (symbol_at ws txt found.link) a b c d
