-- `play` meets its contract.
use Rattle.text.proofs.Laid.{laid_length}
use Rattle.text.specs.Laid.{Laid}
use lib.Seq.{length-take-le}
use mathlib.Core.Path.{sym}
use mathlib.Core.List.{List}
use Prim.Native.Nat.{ℕ, ◌≤◌, zero-le}
use lib.ListN.{length}
use native.Mathlib.Omega.{arith}
use Rattle.console_cases.proofs.play.Goals as goal

laid_fits : {d d' s : List ℕ} {at r : ℕ} → Laid d d' at r s → r ≤ length d'
laid_fits x = omega (arith, x.fits, laid_length x)

pub answer_lines-a-requires : goal.answer_lines-a-requires
answer_lines-a-requires c =
    record { sound = c.fresh-fresh.ensures.sound _ _; pane_in_bounds = omega arith; from_in_bounds = zero-le }

pub answer_lines-b-requires : goal.answer_lines-b-requires
answer_lines-b-requires c =
    record {
      sound = c.answer_lines-a.ensures.sound;
      pane_in_bounds = omega (arith, c.reply-2-1.given, c.pane-2-1.given, c.flat-2-1.given);
      from_in_bounds = zero-le;
    }

pub slice_bounds-say-end : goal.slice_bounds-say-end
slice_bounds-say-end c =
    sym (length-take-le _ _ (laid_fits c.answer_lines-b.ensures.laid))
