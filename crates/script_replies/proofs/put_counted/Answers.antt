-- `put_counted` writes its three parts.
use Rattle.script_decimal.specs.Bytes.{bytes}
use Rattle.text.proofs.Laid.{laid_more}
use Rattle.script_replies.proofs.put_counted.Goals as goal

pub returns : goal.returns
unfolding bytes
returns c =
    laid_more c.put-a.ensures (laid_more c.put_number-b.ensures.0 c.put.ensures)
