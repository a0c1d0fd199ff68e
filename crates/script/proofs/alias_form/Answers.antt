-- `alias_form` answers for every form: a line that begins so can be no other.
use Rattle.std.proofs.Common.{sym, ◌∙◌}
use borrow.Author.Tests.{eqb-true, eqb-false}
use Rattle.script.proofs.Forms.{word_none, alias_none, alias_empty, alias_no, alias_yes}
use Rattle.script.proofs.alias_form.Goals as goal

pub returns-in_err-begun : goal.returns-in_err-begun
returns-in_err-begun c =
    rw c.from_residual.ensures (word_none c.requires (rw c.word_of.ensures at c.in_err-begun.ensures))

pub returns-in_err-key : goal.returns-in_err-key
returns-in_err-key c =
    rw c.from_residual-in_err-key.ensures
    (alias_none c.requires (rw c.word_of.ensures at c.in_ok-begun.ensures) c.in_err-key.ensures)

pub returns-then-is_empty : goal.returns-then-is_empty
returns-then-is_empty c =
    alias_empty c.requires (rw c.word_of.ensures at c.in_ok-begun.ensures) c.in_ok-key.ensures
    (eqb-true _ 0 (sym c.is_empty.ensures ∙ c.if-is_empty.true))

pub returns-in_err-host : goal.returns-in_err-host
returns-in_err-host c =
    rw c.from_residual-in_err-host.ensures
    (alias_no c.requires (rw c.word_of.ensures at c.in_ok-begun.ensures) c.in_ok-key.ensures c.in_err-host.ensures)

pub returns : goal.returns
returns c =
    alias_yes c.requires (rw c.word_of.ensures at c.in_ok-begun.ensures) c.in_ok-key.ensures
    (eqb-false _ 0 (sym c.is_empty.ensures ∙ c.if-is_empty.false)) c.in_ok-host.ensures
