-- `put_texts` writes its four parts.
use Rattle.script_decimal.specs.Bytes.{bytes}
use Rattle.text.proofs.Laid.{laid_more}
use Rattle.script_replies.proofs.put_texts.Goals as goal

pub returns : goal.returns
unfolding bytes
returns c =
    laid_more c.put-a.ensures
    (laid_more c.put-b.ensures (laid_more c.put-c.ensures c.put.ensures))
