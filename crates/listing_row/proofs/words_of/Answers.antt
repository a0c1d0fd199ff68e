-- `words_of` meets its contract. The loop's invariant: the first words are read.
use native.Mathlib.Omega.{arith}
use Rattle.memory_bytes.proofs.Bytes.{loading_none, loading_more}
use Rattle.listing_row.proofs.words_of.Goals as goal

pub loop-i-init : goal.loop-i-init
loop-i-init c =
    loading_none _ _ _

pub loop-i-preserved : goal.loop-i-preserved
loop-i-preserved c =
    loading_more (omega arith) c.loop-i-test.true c.word_at.ensures c.loop-i.invariant
