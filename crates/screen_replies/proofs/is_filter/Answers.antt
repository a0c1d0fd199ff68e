-- is_filter meets its contract.
use Rattle.screen_replies.proofs.Filters.{names_test, modules_test}
use Rattle.screen_replies.proofs.is_filter.Goals as goal

pub returns : goal.returns
returns c =
    (names_test c.args.n, modules_test c.args.n)
