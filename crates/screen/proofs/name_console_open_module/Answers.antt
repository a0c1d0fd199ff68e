-- name_console_open_module meets its contract.
use Rattle.screen.proofs.Replies.{open_module_replies}
use Rattle.screen.proofs.name_console_open_module.Goals as goal

pub returns : goal.returns
returns c =
    open_module_replies.1 c.register.ensures
