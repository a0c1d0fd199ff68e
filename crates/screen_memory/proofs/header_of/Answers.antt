-- header_of meets its contract.
use Rattle.screen_memory.specs.Memory.{header_in}
use Rattle.screen_memory.proofs.header_of.Goals as goal

pub returns : goal.returns
unfolding header_in
returns c =
    λ i. record {
      names = c.word_at.ensures i;
      modules = c.word_at-2.ensures i;
      records = c.word_at-3.ensures i;
      text = c.word_at-4.ensures i;
    }
