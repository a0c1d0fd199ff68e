-- load meets its contract. The loop's invariant: the first words are read.
use Rattle.memory_bytes.proofs.Bytes.{Loading}
use Rattle.screen_memory.proofs.load.Given as goal

abbrev pub invariant-loop-i : goal.invariant-loop-i
invariant-loop-i l =
    Loading l.bytes l.initial.words l.words l.i l.n
