-- An item of the names table, a LidSymbol of src/lib.rt: the number and the letter of its kind.
use Rattle.std.specs.Prelude.{ℕ, zero, suc, Bool, true, false, eqb, ◌≡◌, Result, MatchResult}
use Rattle.std.proofs.Math.Option.{Option, none, some}
use Rattle.source.specs.Tries.{dflt}
use Rattle.source.specs.declared.ItemKind.{ItemKind}
use Rattle.source.specs.declared.ItemKind.TheVariants.{Timer, Port, Register}
use Rattle.source.specs.declared.NoKind.{NoKind}

-- The number of a kind, in the memory, in a line and in C.
unfoldable pub kind_number : ItemKind → ℕ
kind_number Timer = 1
kind_number Port = 2
kind_number Register = 3

-- The kind of a number; another number is no kind's.
unfoldable pub kind_for : ℕ → Option ItemKind
kind_for zero = none
kind_for (suc zero) = some Timer
kind_for (suc (suc zero)) = some Port
kind_for (suc (suc (suc zero))) = some Register
kind_for (suc (suc (suc (suc n)))) = none

-- A number read as a kind: its kind, or the number that is no kind's.
abbrev pub KindOf : ℕ → Result ItemKind NoKind → Type 0
KindOf n r = MatchResult r (λ kind. kind_for n ≡ some kind) (λ e. (kind_for n ≡ none) × (e.0 ≡ n))

unfoldable pub is_kind : ℕ → Bool
is_kind n = elim (kind_for n) [ none ↦ false | some k ↦ true ]

-- The kind that a word reads as. A number that is no kind's is in no sound record.
unfoldable pub read_kind : ℕ → ItemKind
read_kind n = dflt Register (kind_for n)

unfoldable pub same_kind : ItemKind → ItemKind → Bool
same_kind a b = eqb (kind_number a) (kind_number b)

-- The letter before the number in a script: t, p, r.
unfoldable pub kind_letter : ItemKind → ℕ
kind_letter Timer = 116
kind_letter Port = 112
kind_letter Register = 114
