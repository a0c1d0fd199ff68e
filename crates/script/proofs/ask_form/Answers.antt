-- `ask_form` answers for every form: a line that begins so can be no other.
use Rattle.script.proofs.Forms.{word_none, ask_no, ask_yes}
use Rattle.script.proofs.ask_form.Goals as goal

pub returns-in_err-begun : goal.returns-in_err-begun
returns-in_err-begun c =
    rw c.from_residual.ensures (word_none c.requires (rw c.word_of.ensures at c.in_err-begun.ensures))

pub returns-in_err-query : goal.returns-in_err-query
returns-in_err-query c =
    rw c.from_residual-in_err-query.ensures
    (ask_no c.requires (rw c.word_of.ensures at c.in_ok-begun.ensures) c.in_err-query.ensures)

pub returns : goal.returns
returns c =
    ask_yes c.requires (rw c.word_of.ensures at c.in_ok-begun.ensures) c.in_ok-query.ensures
