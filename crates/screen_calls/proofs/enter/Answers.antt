-- enter meets its contract.
use mathlib.Core.Path.{ap}
use Rattle.memory.proofs.Says.{says_holds, says_fails}
use Rattle.table.specs.Registrations.{refusal_of}
use Rattle.screen_calls.proofs.Held.{held_is, unsound_memory}
use Rattle.screen_calls.proofs.Replies.{store_fits, reply_unsound, reply_accepted, reply_refused}
use Rattle.screen_calls.proofs.enter.Goals as goal

pub returns-then-not-is_sound_small : goal.returns-then-not-is_sound_small
returns-then-not-is_sound_small c =
    reply_unsound (unsound_memory _ (held_is c.requires.state_len c.table_of-t.ensures c.requires.memory_value)
    (says_fails c.is_sound_small.result c.is_sound_small.ensures c.if-not-is_sound_small.true))

pub register_sound-r-requires : goal.register_sound-r-requires
register_sound-r-requires c =
    says_holds c.is_sound_small.result c.is_sound_small.ensures c.if-not-is_sound_small.false

pub save-requires : goal.save-requires
save-requires c =
    let pre = c.requires in record {
      state_len = pre.state_len;
      record_words_in_bounds = store_fits (held_is pre.state_len c.table_of-t.ensures pre.memory_value)
          (says_holds c.is_sound_small.result c.is_sound_small.ensures c.if-not-is_sound_small.false) c.register_sound-r.ensures
          (ap refusal_of c.in-Ok.is) c.register_sound-r.auto.words;
    }

pub returns-in-Ok : goal.returns-in-Ok
returns-in-Ok c =
    reply_accepted (held_is c.requires.state_len c.table_of-t.ensures c.requires.memory_value)
    (says_holds c.is_sound_small.result c.is_sound_small.ensures c.if-not-is_sound_small.false) c.register_sound-r.ensures
    (ap refusal_of c.in-Ok.is) c.save.ensures

pub returns-in-Err : goal.returns-in-Err
returns-in-Err c =
    reply_refused (held_is c.requires.state_len c.table_of-t.ensures c.requires.memory_value)
    (says_holds c.is_sound_small.result c.is_sound_small.ensures c.if-not-is_sound_small.false) c.register_sound-r.ensures
    (ap refusal_of c.in-Err.is) c.from.ensures
