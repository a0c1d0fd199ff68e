-- `put_found` writes its reply.
use Rattle.script_decimal.specs.Bytes.{bytes}
use Rattle.text.proofs.Laid.{laid_more}
use Rattle.script_replies.specs.Replies.{found_reply}
use Rattle.script_replies.proofs.put_found.Goals as goal

pub returns : goal.returns
unfolding bytes found_reply
returns c =
    laid_more c.put-a.ensures (laid_more c.put_name-b.ensures.0 c.put.ensures)
