-- complete meets its contract.
use Rattle.memory.proofs.Says.{says_holds, says_fails}
use Rattle.screen_memory.proofs.Memory.{loaded_fits, loaded_count}
use Rattle.screen_calls.proofs.Held.{held_is, unsound_memory, unsound_short}
use Rattle.screen_calls.proofs.RepliesLines.{lines_unsound, lines_replied}
use Rattle.screen_calls.proofs.complete.Goals as goal

pub returns-then-state-ne-STATE_BYTES : goal.returns-then-state-ne-STATE_BYTES
returns-then-state-ne-STATE_BYTES c =
    lines_unsound (unsound_short c.if-state-ne-STATE_BYTES.true) c.no_lines.ensures

pub slice_bounds-memory-end : goal.slice_bounds-memory-end
slice_bounds-memory-end c =
    loaded_fits c.load-n.ensures

pub slice_bounds-is_sound_small-end : goal.slice_bounds-is_sound_small-end
slice_bounds-is_sound_small-end c =
    loaded_count c.load-n.ensures

pub returns-then-not-is_sound_small : goal.returns-then-not-is_sound_small
returns-then-not-is_sound_small c =
    lines_unsound (unsound_memory _ (held_is c.if-state-ne-STATE_BYTES.false c.table_of-t.ensures c.load-n.ensures.words)
    (says_fails c.is_sound_small.result c.is_sound_small.ensures c.if-not-is_sound_small.true)) c.no_lines-then-not-is_sound_small.ensures

pub slice_bounds-memory-end-2 : goal.slice_bounds-memory-end-2
slice_bounds-memory-end-2 c =
    loaded_fits c.load-n.ensures

pub slice_bounds-complete_sound-end : goal.slice_bounds-complete_sound-end
slice_bounds-complete_sound-end c =
    loaded_count c.load-n.ensures

pub complete_sound-requires : goal.complete_sound-requires
complete_sound-requires c =
    says_holds c.is_sound_small.result c.is_sound_small.ensures c.if-not-is_sound_small.false

pub returns : goal.returns
returns c =
    lines_replied c.complete_sound.result (held_is c.if-state-ne-STATE_BYTES.false c.table_of-t.ensures
    c.load-n.ensures.words) c.complete_sound.ensures c.lines_reply.ensures
