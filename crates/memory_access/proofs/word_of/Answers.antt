-- `memory_access::word_of` meets its contract.
use native.Mathlib.Omega.{arith}
use Rattle.memory.proofs.RecordAt.{word_at}
use Rattle.memory_access.proofs.word_of.Goals as goal

pub returns : goal.returns
returns c =
    word_at _ c.args.link c.args.k (omega arith)
