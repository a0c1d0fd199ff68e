-- name_console_insert_item meets its contract.
use mathlib.Core.Path.{sym, ◌∙◌}
use Rattle.source.specs.Calls.{name}
use Rattle.source.proofs.Items.{kind_is, no_kind}
use Rattle.screen_calls.proofs.Replies.{reply_chosen, reply_unchosen}
use Rattle.screen.proofs.name_console_insert_item.Goals as goal

pub returns-then-is_kind : goal.returns-then-is_kind
returns-then-is_kind c =
    let a = c.args in
    reply_chosen (λ k. name a.host.now a.id.now (record { kind = k; number = a.number }))
    (kind_is _ (sym c.is_kind.ensures ∙ c.if-is_kind.true)) (rw c.kind_of.ensures at c.register.ensures)

pub returns : goal.returns
returns c =
    let a = c.args in
    reply_unchosen (λ k. name a.host.now a.id.now (record { kind = k; number = a.number }))
    (no_kind _ (sym c.is_kind.ensures ∙ c.if-is_kind.false)) c.malformed.ensures
