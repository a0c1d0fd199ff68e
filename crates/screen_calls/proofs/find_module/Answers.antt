-- find_module meets its contract.
use Rattle.memory.proofs.Says.{says_holds, says_fails}
use Rattle.screen_memory.proofs.Memory.{loaded_fits, loaded_count}
use Rattle.screen_calls.proofs.Held.{held_is, unsound_memory, unsound_short}
use Rattle.screen_calls.proofs.RepliesModule.{module_unsound, module_looked}
use Rattle.screen_calls.proofs.find_module.Goals as goal

pub returns-then-state-ne-STATE_BYTES : goal.returns-then-state-ne-STATE_BYTES
returns-then-state-ne-STATE_BYTES c =
    module_unsound (unsound_short c.if-state-ne-STATE_BYTES.true) c.no_module.ensures

pub slice_bounds-memory-end : goal.slice_bounds-memory-end
slice_bounds-memory-end c =
    loaded_fits c.load-n.ensures

pub slice_bounds-is_sound_small-end : goal.slice_bounds-is_sound_small-end
slice_bounds-is_sound_small-end c =
    loaded_count c.load-n.ensures

pub returns-then-not-is_sound_small : goal.returns-then-not-is_sound_small
returns-then-not-is_sound_small c =
    module_unsound (unsound_memory _ (held_is c.if-state-ne-STATE_BYTES.false c.table_of-t.ensures
    c.load-n.ensures.words) (says_fails c.is_sound_small.result c.is_sound_small.ensures c.if-not-is_sound_small.true))
    c.no_module-then-not-is_sound_small.ensures

pub slice_bounds-memory-end-2 : goal.slice_bounds-memory-end-2
slice_bounds-memory-end-2 c =
    loaded_fits c.load-n.ensures

pub slice_bounds-find_module_sound-end : goal.slice_bounds-find_module_sound-end
slice_bounds-find_module_sound-end c =
    loaded_count c.load-n.ensures

pub find_module_sound-requires : goal.find_module_sound-requires
find_module_sound-requires c =
    says_holds c.is_sound_small.result c.is_sound_small.ensures c.if-not-is_sound_small.false

pub returns : goal.returns
returns c =
    module_looked (held_is c.if-state-ne-STATE_BYTES.false c.table_of-t.ensures c.load-n.ensures.words)
    c.find_module_sound.ensures c.module_reply.ensures
