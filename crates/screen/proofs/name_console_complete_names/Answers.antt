-- name_console_complete_names meets its contract.
use mathlib.Core.Path.{sym, ◌∙◌}
use Rattle.screen_replies.proofs.Filters.{names_below}
use Rattle.screen_calls.proofs.RepliesLines.{lines_asked, lines_unasked}
use Rattle.screen.proofs.name_console_complete_names.Goals as goal

pub names_asked-requires : goal.names_asked-requires
names_asked-requires c =
    names_below _ (sym c.is_filter.ensures.0 ∙ c.if-is_filter.true)

pub returns-then-is_filter : goal.returns-then-is_filter
returns-then-is_filter c =
    lines_asked c.names_asked.ensures c.complete.ensures

pub returns : goal.returns
returns c =
    lines_unasked _ (sym c.is_filter.ensures.0 ∙ c.if-is_filter.false) c.malformed.ensures
    c.no_lines.ensures
