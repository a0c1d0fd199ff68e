-- `put_words` meets its contract.
use native.Mathlib.Omega.{arith}
use Rattle.script_decimal.specs.Bytes.{bytes}
use Rattle.text.proofs.Laid.{laid_more}
use Rattle.script_replies.proofs.put_words.Goals as goal

pub returns : goal.returns
unfolding bytes
returns c =
    let put = c.put-a.ensures in (
      laid_more put (laid_more c.put_word-b.ensures.0 (laid_more c.put-c.ensures c.put_item.ensures.0)),
      omega (arith, put.end, c.put_word-b.ensures.1, c.put-c.ensures.end, c.put_item.ensures.1),
    )
