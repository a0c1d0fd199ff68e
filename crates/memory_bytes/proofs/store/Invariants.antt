-- store meets its contract. The loop's invariant: the words before i are stored.
use Rattle.memory_bytes.proofs.Bytes.{Storing}
use Rattle.memory_bytes.proofs.store.Given as goal

abbrev pub invariant-loop-i : goal.invariant-loop-i
invariant-loop-i l =
    Storing l.words l.from l.to l.initial.bytes l.bytes l.i
