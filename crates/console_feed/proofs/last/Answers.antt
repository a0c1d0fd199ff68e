-- `last` meets its contract.
use Rattle.console_feed.proofs.Steps.{ends_some, feed_ends_none}
use Rattle.console_feed.proofs.last.Goals as goal

pub returns-then-is_line : goal.returns-then-is_line
returns-then-is_line c =
    ends_some (rw c.if-is_line.true at c.is_line.ensures) c.answer.ensures

pub returns : goal.returns
returns c =
    feed_ends_none (rw c.if-is_line.false at c.is_line.ensures)
    c.requires.sound
