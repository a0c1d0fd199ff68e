-- `module_form` answers for every form: a line that begins so can be no other.
use Rattle.script.proofs.Forms.{word_none, module_none, module_no, module_yes}
use Rattle.script.proofs.module_form.Goals as goal

pub returns-in_err-begun : goal.returns-in_err-begun
returns-in_err-begun c =
    rw c.from_residual.ensures (word_none c.requires (rw c.word_of.ensures at c.in_err-begun.ensures))

pub returns-in_err-query : goal.returns-in_err-query
returns-in_err-query c =
    rw c.from_residual-in_err-query.ensures
    (module_none c.requires (rw c.word_of.ensures at c.in_ok-begun.ensures) c.in_err-query.ensures)

pub returns-in_err-path : goal.returns-in_err-path
returns-in_err-path c =
    rw c.from_residual-in_err-path.ensures
    (module_no c.requires (rw c.word_of.ensures at c.in_ok-begun.ensures) c.in_ok-query.ensures c.in_err-path.ensures)

pub returns : goal.returns
returns c =
    module_yes c.requires (rw c.word_of.ensures at c.in_ok-begun.ensures) c.in_ok-query.ensures c.in_ok-path.ensures
