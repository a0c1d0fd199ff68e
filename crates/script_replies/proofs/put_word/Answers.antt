-- `put_word` meets its contract.
use native.Mathlib.Omega.{arith}
use Rattle.script_replies.proofs.LineReply.{word_minus, word_plus}
use Rattle.script_replies.proofs.put_word.Goals as goal

pub returns-then-word-eq4294967295 : goal.returns-then-word-eq4294967295
returns-then-word-eq4294967295 c =
    rw (word_minus c.args.word c.if-word-eq4294967295.true)
    (c.put.ensures, omega (arith, c.put.ensures.end))

pub returns : goal.returns
returns c =
    rw (word_plus c.args.word c.if-word-eq4294967295.false) c.put_number.ensures
