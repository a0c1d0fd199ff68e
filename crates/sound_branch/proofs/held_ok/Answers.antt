-- `sound_branch::held_ok` meets its contract.
use mathlib.Core.Path.{◌∙◌}
use Rattle.memory.proofs.Says.{says_holds}
use Rattle.sound_branch.proofs.Branches.{says_held}
use Rattle.sound_branch.proofs.held_ok.Goals as goal

pub returns : goal.returns
returns c w e o =
    let h = rw e at (says_holds c.link_ok.result c.link_ok.ensures c.if-not-link_ok.false) in
    says_held c.requires.before o h (c.from-inner.ensures ∙ c.depth_of.ensures) (c.from-2.ensures ∙ c.deeper.ensures)
    c.from.ensures c.max.ensures
