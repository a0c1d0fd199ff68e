-- Each refusal under exactly its condition: the number given is that of the first row that applies.
use Prim.Native.Nat.{ℕ}
use mathlib.Core.Path.{◌≡◌, refl, ap}
use mathlib.Core.Bool.{true, false}
use mathlib.Core.List.{List, [], ◌∷◌}
use mathlib.Core.Option.{none, some, none-ne-some}
use Rattle.source.specs.Calls.{Row, ◌when◌, first_row}
use Rattle.source.specs.Shared.{Allˡ}
use Rattle.promises.specs.Refusals.{Passed, FirstRow}

pub first_row_is : (rows : List Row) (n : ℕ) → first_row rows ≡ some n → FirstRow rows n
unfolding first_row
first_row_is [] n e = absurd (none-ne-some n e)
first_row_is ((k when true) ∷ rows) n e =
    let q : k ≡ n = cc in
    record { before = []; after = rows; split = rw q; passed = tt }
first_row_is ((k when false) ∷ rows) n e =
    let f = first_row_is rows n e in
    record {
      before = (k when false) ∷ f.before;
      after = f.after;
      split = ap (◌∷◌ (k when false)) f.split;
      passed = (refl, f.passed);
    }

-- Where no refusal is given, no row applies.
pub first_row_accepts : (rows : List Row) → first_row rows ≡ none → Allˡ Passed rows
unfolding first_row
first_row_accepts [] e = tt
first_row_accepts ((k when true) ∷ rows) e = absurd (none-ne-some k (rw e))
first_row_accepts ((k when false) ∷ rows) e = (refl, first_row_accepts rows e)
