-- The numbers of the filters.
use Rattle.std.specs.Prelude.{ℕ, zero, suc, Bool, true, false}
use Rattle.std.proofs.Math.Option.{Option, none, some}
use Rattle.source.specs.declared.KindFilter.TheVariants.{Every, Timers, Ports, Registers}
use Rattle.listing_ask.specs.declared.Ask.{Ask}
use Rattle.listing_ask.specs.declared.Ask.TheVariants.{Names, Modules}
use Rattle.listing_ask.specs.declared.Filter.TheVariants.{All, Loaded, ModulesOnly, NamespacesOnly}

-- What is asked of the names, by the number of a filter: 0, or that of a kind. Another number asks nothing.
unfoldable pub names_for : ℕ → Option Ask
names_for zero = some (Names Every)
names_for (suc zero) = some (Names Timers)
names_for (suc (suc zero)) = some (Names Ports)
names_for (suc (suc (suc zero))) = some (Names Registers)
names_for (suc (suc (suc (suc n)))) = none

-- What is asked of the modules.
unfoldable pub modules_for : ℕ → Option Ask
modules_for zero = some (Modules All)
modules_for (suc zero) = some (Modules Loaded)
modules_for (suc (suc zero)) = some (Modules ModulesOnly)
modules_for (suc (suc (suc zero))) = some (Modules NamespacesOnly)
modules_for (suc (suc (suc (suc n)))) = none

-- Whether anything is asked.
abbrev pub is_asked : Option Ask → Bool
is_asked (some ask) = true
is_asked none = false
