-- `put_name` writes the letter, then the number.
use native.Mathlib.Omega.{arith}
use Rattle.text.proofs.Laid.{laid_more}
use Rattle.script_decimal.specs.Items.{name_text}
use Rattle.script_replies.proofs.put_name.Goals as goal

pub returns : goal.returns
unfolding name_text
returns c = (
  rw c.letter_of.ensures at (laid_more c.put-a.ensures c.put_number.ensures.0),
  omega (arith, c.put-a.ensures.end, c.put_number.ensures.1),
)
