-- `line_of` meets its contract.
use mathlib.Core.Path.{◌≡◌, refl}
use mathlib.Core.Bool.{Bool, true, false}
use Prim.Native.Nat.{ℕ}
use native.Mathlib.Omega.{arith}
use lib.Dec.{eqb, ltb}
use lib.IntN.{ℤ, pos, negsuc}
use mir.Syntax.{w32}
use mir.Val.{SFits, to_z, of_z}
use mir.ValLaws.{to_z-of_z}
use borrow.Author.Tests.{ltb-false}
use Rattle.memory.specs.Layout.{pick}
use Rattle.listing_row.specs.declared.Row.{Row}
use Rattle.table_count.specs.MatchLength.{held, held_length}
use Rattle.table_typed.specs.Lines.{line_of_row}
use Rattle.table_typed.specs.declared.Line.{Line}
use Rattle.table_typed.proofs.line_of.Goals as goal

-- Every match length that is decoded fits.
length-fits : (m : ℕ) → SFits w32 (held_length m)
length-fits m = go (eqb m 4294967295)
  where
    small : (b : Bool) → ltb 2147483647 m ≡ b → SFits w32 (pick b (pos 2147483647) (pos m))
    small true e = record { sfits = omega arith }
    small false e = record { sfits = omega (arith, ltb-false 2147483647 m e) }

    go : (b : Bool) → SFits w32 (pick b (negsuc 0) (held m))
    go true = record { sfits = omega arith }
    go false = small (ltb 2147483647 m) refl

line_made : (r : Row) {z : ℤ} → z ≡ held_length r.matched
    → ◌≡◌ {A = Line} (record { match_length = to_z w32 (of_z w32 z); item = r.item; candidate = r.candidate; annotation = r.annotation }) (line_of_row r)
line_made r e = rw (e, to_z-of_z w32 (held_length r.matched) (length-fits r.matched))

pub returns : goal.returns
returns c =
    line_made c.args.r c.match_length.ensures
