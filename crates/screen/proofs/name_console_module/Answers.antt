-- name_console_module meets its contract.
use Rattle.source.specs.Calls.{module_path}
use Rattle.screen_calls.proofs.Replies.{flag_some, flag_none, reply_chosen, reply_unchosen}
use Rattle.screen.proofs.name_console_module.Goals as goal

pub returns-then-loaded-lt2 : goal.returns-then-loaded-lt2
returns-then-loaded-lt2 c =
    reply_chosen (λ b. module_path b c.args.query.now c.args.path.now) (flag_some _ c.if-loaded-lt2.true) c.register.ensures

pub returns : goal.returns
returns c =
    reply_unchosen (λ b. module_path b c.args.query.now c.args.path.now) (flag_none _ c.if-loaded-lt2.false) c.malformed.ensures
