-- less meets its contract, by how the texts compare.
use Prim.Native.Nat.{Ordering}
use mathlib.Core.Path.{◌≡◌, subst, sym}
use Rattle.std.specs.declared.cmp.Ordering.{Ordering as Order}
use Rattle.std.specs.declared.cmp.Ordering.TheVariants.{Less, Equal, Greater}
use Rattle.std.specs.Ordering.{is_lt}
use Rattle.source.specs.Text.{Str, string_compare}
use Rattle.source.specs.Rules.{◌<ˢ◌}
use Rattle.source.proofs.Order.{View, compare_strings, <ˢ_irrefl, <ˢ_trans}
use Rattle.text.specs.Text.{ordering}
use Rattle.memory.specs.Sound.{Says}
use Rattle.sound_field.proofs.less.Goals as goal

told : (s t : Str) (o : Ordering) → o ≡ string_compare s t → View s t o
told s t o e = subst (View s t) (sym e) (compare_strings s t)

says : (s t : Str) (o : Order) → ordering o ≡ string_compare s t → Says (is_lt o) (s <ˢ t)
says s t Less e = told s t Ordering.lt e
says s t Equal e = λ h. <ˢ_irrefl t (rw (told s t Ordering.eq e) at h)
says s t Greater e = λ h. <ˢ_irrefl s (<ˢ_trans s t s h (told s t Ordering.gt e))

pub returns : goal.returns
returns c =
    rw c.is_lt.ensures (says _ _ _ c.string_compare.ensures.order)
