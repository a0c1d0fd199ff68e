-- What a filter's number asks, by example.
use mathlib.Core.Path.{◌≡◌, refl}
use mathlib.Core.Option.{none, some}
use Rattle.source.specs.declared.KindFilter.TheVariants.{Registers}
use Rattle.listing_ask.specs.declared.Ask.TheVariants.{Names, Modules}
use Rattle.listing_ask.specs.declared.Filter.TheVariants.{NamespacesOnly}
use Rattle.screen_replies.specs.Filters.{names_for, modules_for}

last_filter : modules_for 3 ≡ some (Modules NamespacesOnly)
unfolding modules_for
last_filter = refl

no_filter : modules_for 4 ≡ none
unfolding modules_for
no_filter = refl

last_kind : names_for 3 ≡ some (Names Registers)
unfolding names_for
last_kind = refl

no_kind : names_for 4 ≡ none
unfolding names_for
no_kind = refl
