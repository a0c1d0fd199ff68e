-- `id_end`: a part that is not empty, and an item behind it.
use Rattle.std.proofs.Common.{arith, sym, ◌∙◌}
use borrow.Author.Tests.{eqb-true, eqb-false}
use Rattle.script_parts.proofs.Parts.{id_piece, id_yes, id_empty, id_open, id_item}
use Rattle.script_parts.proofs.id_end.Goals as goal

pub returns-in_err-id : goal.returns-in_err-id
returns-in_err-id c =
    rw c.from_residual.ensures (λ id n r. c.in_err-id.ensures id _ (id_piece r))

pub returns-then-is_empty : goal.returns-then-is_empty
returns-then-is_empty c =
    id_empty c.in_ok-id.ensures (eqb-true _ 0 (sym c.is_empty.ensures ∙ c.if-is_empty.true))

pub returns-in_err-word : goal.returns-in_err-word
returns-in_err-word c =
    rw c.from_residual-in_err-word.ensures (id_open c.in_ok-id.ensures c.in_err-word.ensures)

pub returns-in_err-item : goal.returns-in_err-item
returns-in_err-item c =
    rw c.from_residual-in_err-item.ensures (id_item c.in_ok-id.ensures c.in_ok-word.ensures c.in_err-item.ensures)

pub returns : goal.returns
returns c =
    let some = eqb-false _ 0 (sym c.is_empty.ensures ∙ c.if-is_empty.false) in
    id_yes c.in_ok-id.ensures (omega (arith, some)) c.in_ok-word.ensures c.in_ok-item.ensures
