-- malformed meets its contract.
use Rattle.screen_memory.proofs.Memory.{loaded_fits, loaded_count}
use Rattle.screen_calls.proofs.Held.{held_is, unsound_short}
use Rattle.screen_calls.proofs.Replies.{reply_unsound, reply_none}
use Rattle.screen_calls.proofs.malformed.Goals as goal

pub returns-then-state-ne-STATE_BYTES : goal.returns-then-state-ne-STATE_BYTES
returns-then-state-ne-STATE_BYTES c =
    reply_unsound (unsound_short c.if-state-ne-STATE_BYTES.true)

pub slice_bounds-memory-end : goal.slice_bounds-memory-end
slice_bounds-memory-end c =
    loaded_fits c.load-n.ensures

pub slice_bounds-is_sound_small-end : goal.slice_bounds-is_sound_small-end
slice_bounds-is_sound_small-end c =
    loaded_count c.load-n.ensures

pub returns-then-is_sound_small : goal.returns-then-is_sound_small
returns-then-is_sound_small c =
    reply_none c.is_sound_small.result
    (held_is c.if-state-ne-STATE_BYTES.false c.table_of-t.ensures c.load-n.ensures.words)
    c.is_sound_small.ensures (rw c.if-is_sound_small.true)

pub returns : goal.returns
returns c =
    reply_none c.is_sound_small.result
    (held_is c.if-state-ne-STATE_BYTES.false c.table_of-t.ensures c.load-n.ensures.words)
    c.is_sound_small.ensures (rw c.if-is_sound_small.false)
