-- The invariant of the loop of `store_lines`: the first i lines are stored.
use Rattle.std.proofs.Common.{◌≡◌, ◌≤◌, ◌-◌}
use Rattle.table_typed.specs.Lines.{line_at, stored_lines}
use Rattle.table_typed.proofs.store_lines.Given as goal

abbrev pub invariant-loop-i : goal.invariant-loop-i
invariant-loop-i l =
    (l.i ≤ l.n) × (l.lines ≡ stored_lines (line_at l.ask l.flat) l.initial.lines l.i)

abbrev pub decreases-loop-i : goal.decreases-loop-i
decreases-loop-i l = l.n - l.i
