-- put_header meets its contract.
use Rattle.screen_memory.proofs.Memory.{header_put}
use Rattle.screen_memory.proofs.put_header.Goals as goal

pub returns : goal.returns
returns c =
    header_put c.requires c.put_word.ensures c.put_word-2.ensures c.put_word-3.ensures
    c.put_word-4.ensures
