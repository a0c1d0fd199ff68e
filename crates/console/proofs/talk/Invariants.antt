-- `talk` meets its contract.
use Prim.Native.Nat.{◌≤◌}
use Rattle.table.specs.Header.{IsSound}
use Rattle.console.proofs.talk.Given as goal

abbrev pub invariant-loop : goal.invariant-loop
invariant-loop l =
    (l.have ≤ 2049) × IsSound l.words l.text l.table
