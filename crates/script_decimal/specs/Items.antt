-- An item of the names table in a line: what is read as it, and what is written of it.
use Rattle.std.specs.Prelude.{◌≡◌, cond, ◌||◌, ◌∷◌, eqb, get_or, drop}
use Rattle.source.specs.Items.{kind_letter}
use Rattle.source.specs.declared.ItemKind.{ItemKind}
use Rattle.source.specs.declared.ItemKind.TheVariants.{Timer, Port, Register}
use Rattle.source.specs.declared.LidSymbol.{LidSymbol}
use Rattle.script_decimal.specs.Bytes.{Str}
use Rattle.script_decimal.specs.Numerals.{Numeral, decimal}

-- ---- Read: the letter of a kind and a number, or a number alone, which is a Register's.

unfoldable pub written_kind : Str → ItemKind
written_kind s =
    cond (eqb (get_or s 0 0) (kind_letter Timer)) Timer (cond (eqb (get_or s 0 0) (kind_letter Port)) Port Register)

unfoldable pub written_digits : Str → Str
written_digits s =
    cond (eqb (get_or s 0 0) (kind_letter Timer) || eqb (get_or s 0 0) (kind_letter Port) || eqb (get_or s 0 0)
    (kind_letter Register)) (drop 1 s) s

pub record ItemText (s : Str) (c : LidSymbol) : Type 0 where
  pub kind_is : c.kind ≡ written_kind s
  pub number_is : Numeral (written_digits s) c.number

-- ---- Written: the letter always.

unfoldable pub name_text : LidSymbol → Str
name_text c = kind_letter c.kind ∷ decimal c.number
