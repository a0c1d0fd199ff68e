-- name_console_complete_modules meets its contract.
use mathlib.Core.Path.{sym, ◌∙◌}
use Rattle.screen_replies.proofs.Filters.{modules_below}
use Rattle.screen_calls.proofs.RepliesLines.{lines_asked, lines_unasked}
use Rattle.screen.proofs.name_console_complete_modules.Goals as goal

pub modules_asked-requires : goal.modules_asked-requires
modules_asked-requires c =
    modules_below _ (sym c.is_filter.ensures.1 ∙ c.if-is_filter.true)

pub returns-then-is_filter : goal.returns-then-is_filter
returns-then-is_filter c =
    lines_asked c.modules_asked.ensures c.complete.ensures

pub returns : goal.returns
returns c =
    lines_unasked _ (sym c.is_filter.ensures.1 ∙ c.if-is_filter.false) c.malformed.ensures
    c.no_lines.ensures
