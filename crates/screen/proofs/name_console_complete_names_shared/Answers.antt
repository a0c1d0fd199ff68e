-- name_console_complete_names_shared meets its contract.
use Rattle.screen_calls.proofs.RepliesShared.{replies_candidates, replies_shared}
use Rattle.screen.proofs.name_console_complete_names_shared.Goals as goal

pub with_shared-requires : goal.with_shared-requires
with_shared-requires c =
    replies_candidates c.name_console_complete_names-r.ensures

pub returns : goal.returns
returns c =
    replies_shared c.name_console_complete_names-r.ensures c.with_shared.ensures
