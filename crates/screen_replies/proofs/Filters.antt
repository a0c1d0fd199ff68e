-- What a filter's number asks (`names_for`, `modules_for`).
use Prim.Native.Nat.{ℕ, zero, suc, ◌<◌, ◌≤◌}
use mathlib.Core.Path.{◌≡◌, refl, sym, ◌∙◌}
use mathlib.Core.Bool.{true, false, true≢false}
use mathlib.Core.Option.{Option, none, some}
use native.Mathlib.Omega.{arith}
use lib.Dec.{ltb}
use borrow.Author.Tests.{le-ltb, ltb-true}
use Rattle.source.specs.Items.{kind_number, same_kind}
use Rattle.source.specs.Calls.{keeps_kind}
use Rattle.source.specs.declared.ItemKind.{ItemKind}
use Rattle.source.specs.declared.ItemKind.TheVariants.{Timer, Port, Register}
use Rattle.source.specs.declared.LidSymbol.{LidSymbol}
use Rattle.source.specs.declared.KindFilter.{KindFilter}
use Rattle.source.specs.declared.KindFilter.TheVariants.{Timers, Ports, Registers}
use Rattle.listing_ask.specs.declared.Ask.{Ask}
use Rattle.listing_ask.specs.declared.Ask.TheVariants.{Names}
use Rattle.screen_replies.specs.Filters.{names_for, modules_for, is_asked}

-- What asks at 0 to 3 and at no other number.
four : (ask : ℕ → Option Ask) → is_asked (ask 0) ≡ true → is_asked (ask 1) ≡ true → is_asked (ask 2) ≡ true
    → is_asked (ask 3) ≡ true
    → ((n : ℕ) → is_asked (ask (suc (suc (suc (suc n))))) ≡ false) → (n : ℕ) → ltb n 4 ≡ is_asked (ask n)
four ask a b c d e zero = sym a
four ask a b c d e (suc zero) = sym b
four ask a b c d e (suc (suc zero)) = sym c
four ask a b c d e (suc (suc (suc zero))) = sym d
four ask a b c d e (suc (suc (suc (suc n)))) = le-ltb (suc (suc (suc (suc n)))) 4 (omega arith) ∙ sym (e n)

pub names_test : (n : ℕ) → ltb n 4 ≡ is_asked (names_for n)
unfolding names_for
names_test = four names_for refl refl refl refl (λ n. refl)

pub modules_test : (n : ℕ) → ltb n 4 ≡ is_asked (modules_for n)
unfolding modules_for
modules_test = four modules_for refl refl refl refl (λ n. refl)

-- What asks nothing.
pub asked_none : (o : Option Ask) → is_asked o ≡ false → o ≡ none
asked_none (some a) e = absurd (true≢false e)
asked_none none e = refl

pub modules_none : (n : ℕ) → 4 ≤ n → modules_for n ≡ none
modules_none n h = asked_none (modules_for n) (sym (modules_test n) ∙ le-ltb n 4 h)

-- A filter's number.
pub names_below : (n : ℕ) → is_asked (names_for n) ≡ true → n < 4
names_below n e = ltb-true n 4 (names_test n ∙ e)

pub modules_below : (n : ℕ) → is_asked (modules_for n) ≡ true → n < 4
modules_below n e = ltb-true n 4 (modules_test n ∙ e)

-- The last of them.
pub filter_last : (n : ℕ) → n < 4 → (n ≡ 0 → ⊥) → (n ≡ 1 → ⊥) → (n ≡ 2 → ⊥) → n ≡ 3
filter_last n h a b c = omega (arith, a, b, c)

-- ---- The number of a kind asks for that kind

abbrev pub only : ItemKind → KindFilter
only Timer = Timers
only Port = Ports
only Register = Registers

pub kind_asked : (k : ItemKind) → names_for (kind_number k) ≡ some (Names (only k))
unfolding names_for kind_number
kind_asked Timer = refl
kind_asked Port = refl
kind_asked Register = refl

pub only_keeps : (k : ItemKind) (c : LidSymbol) → keeps_kind (only k) c ≡ same_kind c.kind k
unfolding keeps_kind
only_keeps Timer c = refl
only_keeps Port c = refl
only_keeps Register c = refl
