-- `memory_access::put_text` meets its contract. The loop's invariant: the first bytes are put.
use lib.ListN.{length}
use Rattle.memory.proofs.Pasted.{Pasting}
use Rattle.memory_access.proofs.put_text.Given as goal

abbrev pub invariant-loop-i : goal.invariant-loop-i
invariant-loop-i l =
    Pasting l.initial.text l.s l.text l.base l.i (length l.s)
