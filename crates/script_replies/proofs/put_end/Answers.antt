-- `put_end` writes its three parts.
use Rattle.script_decimal.specs.Bytes.{bytes}
use Rattle.script_replies.specs.Replies.{end_reply}
use Rattle.text.proofs.Laid.{laid_more}
use Rattle.script_replies.proofs.put_end.Goals as goal

pub returns : goal.returns
unfolding bytes end_reply
returns c =
    laid_more c.put-a.ensures (laid_more c.put_number-b.ensures.0 c.put_counted.ensures)
