-- `memory_access::put_row` meets its contract. The loop's invariant: the first words are put.
use Rattle.memory.proofs.Pasted.{Pasting}
use Rattle.memory_access.proofs.put_row.Given as goal

abbrev pub invariant-loop-i : goal.invariant-loop-i
invariant-loop-i l =
    Pasting l.initial.words l.row l.words l.base l.i 12
