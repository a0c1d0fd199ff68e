-- `screen_tests::ask_of` meets its contract.
use Prim.Native.Nat.{◌-◌}
use native.Mathlib.Omega.{arith}
use borrow.Author.Tests.{lt-ltb, le-ltb}
use Rattle.source.specs.Tries.{dflt}
use Rattle.screen_replies.proofs.Filters.{modules_none}
use Rattle.screen_tests.proofs.ask_of.Goals as goal

pub returns-then-n-lt4 : goal.returns-then-n-lt4
unfolding dflt
returns-then-n-lt4 c =
    rw (lt-ltb _ 4 c.if-n-lt4.true, c.names_asked.ensures)

pub returns-then-n-lt8 : goal.returns-then-n-lt8
unfolding dflt
returns-then-n-lt8 c =
    rw (le-ltb _ 4 c.if-n-lt4.false, c.modules_asked.ensures)

pub returns : goal.returns
unfolding dflt
returns c =
    rw (le-ltb _ 4 c.if-n-lt4.false, modules_none (c.args.n - 4) (omega (arith, c.if-n-lt8.false)))
