-- The root that is asked.
use Rattle.std.specs.Prelude.{ℕ}
use Rattle.memory_table.specs.declared.Header.{Header}
use Rattle.listing_ask.specs.declared.Ask.{Ask}
use Rattle.listing_ask.specs.declared.Ask.TheVariants.{Names, Modules}

-- The root that is asked.
abbrev pub root_for : Header → Ask → ℕ
root_for h (Names f) = h.names
root_for h (Modules f) = h.modules
