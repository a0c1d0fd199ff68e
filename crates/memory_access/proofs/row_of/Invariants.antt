-- `memory_access::row_of` meets its contract. The loop's invariant: the first words are copied.
use Rattle.memory.specs.Layout.{record_at}
use Rattle.memory.proofs.RecordAt.{Copied}
use Rattle.memory_access.proofs.row_of.Given as goal

abbrev pub invariant-loop-i : goal.invariant-loop-i
invariant-loop-i l =
    Copied (record_at l.words l.link) l.row l.i
