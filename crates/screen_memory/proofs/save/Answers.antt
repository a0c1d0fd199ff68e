-- save meets its contract.
use Rattle.screen_memory.proofs.save.Goals as goal

pub returns : goal.returns
returns c =
    record { stored = c.store.ensures; spelt = c.put_header.ensures }
