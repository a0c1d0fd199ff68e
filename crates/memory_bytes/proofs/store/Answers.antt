-- store meets its contract.
use Rattle.memory_bytes.proofs.Bytes.{storing_more}
use Rattle.memory_bytes.proofs.store.Goals as goal

pub loop-i-preserved : goal.loop-i-preserved
loop-i-preserved c =
    storing_more c.loop-i-test.true c.put_word.ensures c.loop-i.invariant
