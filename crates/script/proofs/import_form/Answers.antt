-- `import_form` answers for every form: a line that begins so can be no other.
use Rattle.script.proofs.Forms.{word_none, import_no, import_yes}
use Rattle.script.proofs.import_form.Goals as goal

pub returns-in_err-begun : goal.returns-in_err-begun
returns-in_err-begun c =
    rw c.from_residual.ensures (word_none c.requires (rw c.word_of.ensures at c.in_err-begun.ensures))

pub returns-in_err-host : goal.returns-in_err-host
returns-in_err-host c =
    rw c.from_residual-in_err-host.ensures
    (import_no c.requires (rw c.word_of.ensures at c.in_ok-begun.ensures) c.in_err-host.ensures)

pub returns : goal.returns
returns c =
    rw c.import_kind.ensures
    (import_yes c.requires (rw c.word_of.ensures at c.in_ok-begun.ensures) c.in_ok-host.ensures)
