-- `find_list::lead_of` meets its contract.
use borrow.Author.Tests.{eqb-true, eqb-false}
use native.Mathlib.Omega.{arith}
use mathlib.Core.Path.{sym, ◌∙◌}
use Rattle.find_list.proofs.Collections.{led_none, led_imported, led_names}
use Rattle.find_list.proofs.lead_of.Goals as goal

pub returns-then-list-eq0 : goal.returns-then-list-eq0
returns-then-list-eq0 c =
    led_none c.if-list-eq0.true

pub returns-then-c : goal.returns-then-c
returns-then-c c =
    let k = c.collection_of-c.ensures in led_imported (omega arith) (eqb-true _ 1 (sym k.imported ∙ c.if-c.true))

pub returns : goal.returns
returns c =
    let k = c.collection_of-c.ensures in led_names (omega arith) (eqb-false _ 1 (sym k.imported ∙ c.if-c.false)) k.own k.rest
