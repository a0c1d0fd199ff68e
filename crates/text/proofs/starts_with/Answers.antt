-- starts_with meets its contract, by the count of equal leading bytes.
use Rattle.text.proofs.Texts.{starts_counted, starts_short}
use Rattle.text.proofs.starts_with.Goals as goal

pub returns-then-s-p : goal.returns-then-s-p
returns-then-s-p c =
    starts_short _ _ c.if-s-p.true

pub returns : goal.returns
returns c =
    rw c.string_compare-c.ensures.agree (starts_counted _ _)
