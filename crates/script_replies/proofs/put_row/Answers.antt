-- `put_row` meets its contract.
use mathlib.Core.Path.{subst}
use native.Mathlib.Omega.{arith}
use Rattle.source.specs.Calls.{signed_word}
use Rattle.script_decimal.specs.Bytes.{bytes}
use Rattle.text.specs.Laid.{Laid}
use Rattle.text.proofs.Laid.{laid_more}
use Rattle.script_replies.proofs.LineReply.{line_joined, row_size}
use Rattle.script_replies.proofs.put_row.Goals as goal

pub returns : goal.returns
unfolding bytes
returns c =
    let a = c.args in (
      subst (Laid _ _ _ _) (line_joined (signed_word a.word) a.item a.annotation.now a.candidate.now)
          (laid_more c.put_words-a.ensures.0 (laid_more c.put-b.ensures c.put_texts.ensures)),
      omega (arith, c.put_words-a.ensures.1, c.put-b.ensures.end, c.put_texts.ensures.end, row_size a.annotation.now a.candidate.now),
    )
