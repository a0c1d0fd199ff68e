-- register meets its contract.
use Rattle.screen_memory.proofs.Memory.{loaded_fits, loaded_count}
use Rattle.screen_calls.proofs.Held.{unsound_short}
use Rattle.screen_calls.proofs.Replies.{reply_unsound}
use Rattle.screen_calls.proofs.register.Goals as goal

pub returns-then-state-ne-STATE_BYTES : goal.returns-then-state-ne-STATE_BYTES
returns-then-state-ne-STATE_BYTES c =
    reply_unsound (unsound_short c.if-state-ne-STATE_BYTES.true)

pub slice_bounds-memory-end : goal.slice_bounds-memory-end
slice_bounds-memory-end c =
    loaded_fits c.load-n.ensures

pub slice_bounds-enter-end : goal.slice_bounds-enter-end
slice_bounds-enter-end c =
    loaded_count c.load-n.ensures
