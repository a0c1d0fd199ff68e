-- load meets its contract.
use mathlib.Core.Path.{ap, ◌∙◌}
use native.Mathlib.Omega.{arith}
use Rattle.memory_bytes.specs.Bytes.{words_at}
use Rattle.screen_memory.specs.Memory.{words_lent, words_in}
use Rattle.memory_bytes.proofs.Bytes.{loading_none, loading_more, loading_done}
use Rattle.screen_memory.proofs.load.Goals as goal

pub loop-i-init : goal.loop-i-init
loop-i-init c =
    loading_none _ _ _

pub loop-i-preserved : goal.loop-i-preserved
unfolding words_lent
loop-i-preserved c =
    loading_more (omega arith) c.loop-i-test.true c.word_at.ensures c.loop-i.invariant

pub returns : goal.returns
unfolding words_in
returns c =
    let count = c.words_lent-n.ensures in
    record {
      count = count;
      words = loading_done c.loop-i-test.false c.loop-i.invariant ∙ ap (words_at _) count;
    }
