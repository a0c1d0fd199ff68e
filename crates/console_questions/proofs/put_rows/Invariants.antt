-- `put_rows` meets its contract.
use Rattle.listing_ask.specs.Ask.{asked}
use Rattle.console_questions.proofs.RowReplies.{Going}
use Rattle.console_questions.proofs.put_rows.Given as goal

abbrev pub invariant-loop-i : goal.invariant-loop-i
invariant-loop-i l =
    Going (asked l.ask) l.flat l.pane l.initial.reply l.reply l.at l.e l.i l.n
