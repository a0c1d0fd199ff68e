-- Kinds and their numbers.
use Prim.Native.Nat.{ℕ, zero, suc}
use mathlib.Core.Path.{◌≡◌, refl}
use mathlib.Core.Bool.{true, false, true≢false}
use mathlib.Core.Option.{none, some}
use Rattle.source.specs.Tries.{dflt}
use Rattle.source.specs.Items.{kind_number, kind_for, is_kind, read_kind, same_kind}
use Rattle.source.specs.declared.ItemKind.{ItemKind}
use Rattle.source.specs.declared.ItemKind.TheVariants.{Timer, Port, Register}

-- A kind's number is a kind's, and that kind's.
pub number_for : (k : ItemKind) → kind_for (kind_number k) ≡ some k
unfolding kind_for kind_number
number_for Timer = refl
number_for Port = refl
number_for Register = refl

pub number_is_kind : (k : ItemKind) → is_kind (kind_number k) ≡ true
unfolding is_kind
number_is_kind k = rw (number_for k, is_kind)

pub number_in : (k : ItemKind) → read_kind (kind_number k) ≡ k
unfolding read_kind dflt
number_in k = rw (number_for k)

-- A number that is a kind's is that of one kind.
pub kind_is : (n : ℕ) → is_kind n ≡ true → kind_for n ≡ some (read_kind n)
unfolding is_kind kind_for read_kind dflt
kind_is zero e = absurd (true≢false (rw (← e)))
kind_is (suc zero) e = refl
kind_is (suc (suc zero)) e = refl
kind_is (suc (suc (suc zero))) e = refl
kind_is (suc (suc (suc (suc n)))) e = absurd (true≢false (rw (← e)))

pub no_kind : (n : ℕ) → is_kind n ≡ false → kind_for n ≡ none
unfolding is_kind kind_for
no_kind zero e = refl
no_kind (suc zero) e = absurd (true≢false e)
no_kind (suc (suc zero)) e = absurd (true≢false e)
no_kind (suc (suc (suc zero))) e = absurd (true≢false e)
no_kind (suc (suc (suc (suc n)))) e = refl

-- Two kinds are the same exactly when they are equal.
pub same_kind_is : (a b : ItemKind) → same_kind a b ≡ true → a ≡ b
unfolding same_kind kind_number
same_kind_is Timer Timer e = refl
same_kind_is Port Port e = refl
same_kind_is Register Register e = refl
same_kind_is Timer Port e = absurd (true≢false (rw (← e)))
same_kind_is Timer Register e = absurd (true≢false (rw (← e)))
same_kind_is Port Timer e = absurd (true≢false (rw (← e)))
same_kind_is Port Register e = absurd (true≢false (rw (← e)))
same_kind_is Register Timer e = absurd (true≢false (rw (← e)))
same_kind_is Register Port e = absurd (true≢false (rw (← e)))

pub kind_same : (a : ItemKind) → same_kind a a ≡ true
unfolding same_kind kind_number
kind_same Timer = refl
kind_same Port = refl
kind_same Register = refl
