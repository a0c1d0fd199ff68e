-- key_past meets its contract, by how the bound compares with the key.
use Rattle.find_tree.proofs.Past.{past_is}
use Rattle.find_tree.specs.Links.{past_by}
use Rattle.find_tree.proofs.key_past.Goals as goal

pub returns-in-Less : goal.returns-in-Less
unfolding past_by
returns-in-Less c =
    past_is c.args.strict c.args.low.now _ (rw c.in-Less.is at c.key_order.ensures)

pub returns-in-Equal : goal.returns-in-Equal
unfolding past_by
returns-in-Equal c =
    past_is c.args.strict c.args.low.now _ (rw c.in-Equal.is at c.key_order.ensures)

pub returns-in-Greater : goal.returns-in-Greater
unfolding past_by
returns-in-Greater c =
    past_is c.args.strict c.args.low.now _ (rw c.in-Greater.is at c.key_order.ensures)
