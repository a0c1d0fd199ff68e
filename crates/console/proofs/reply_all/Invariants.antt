-- `reply_all` meets its contract.
use Prim.Native.Nat.{◌-◌}
use lib.ListN.{length}
use Rattle.console.proofs.Steady.{Steady}
use Rattle.console.proofs.reply_all.Given as goal

abbrev pub invariant-loop-r : goal.invariant-loop-r
invariant-loop-r g l =
    Steady l.initial.words l.initial.text l.initial.input l.initial.flat l.initial.pane l.initial.reply l.initial.feed
    l.words l.text l.input l.flat l.pane l.reply l.feed

abbrev pub decreases-loop-r : goal.decreases-loop-r
decreases-loop-r g l =
    length l.input - l.feed.from
