-- modules_asked meets its contract.
use Rattle.screen_replies.specs.Filters.{modules_for}
use Rattle.screen_replies.proofs.Filters.{filter_last}
use Rattle.screen_replies.proofs.modules_asked.Goals as goal

pub returns-then-filter-eq0 : goal.returns-then-filter-eq0
unfolding modules_for
returns-then-filter-eq0 c =
    rw c.if-filter-eq0.true

pub returns-then-filter-eq1 : goal.returns-then-filter-eq1
unfolding modules_for
returns-then-filter-eq1 c =
    rw c.if-filter-eq1.true

pub returns-then-filter-eq2 : goal.returns-then-filter-eq2
unfolding modules_for
returns-then-filter-eq2 c =
    rw c.if-filter-eq2.true

pub returns : goal.returns
unfolding modules_for
returns c =
    rw (filter_last _ c.requires c.if-filter-eq0.false c.if-filter-eq1.false c.if-filter-eq2.false)
