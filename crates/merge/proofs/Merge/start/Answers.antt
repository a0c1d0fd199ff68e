-- `merge::Merge::start` meets its contract.
use native.Mathlib.Omega.{arith}
use Rattle.find_list.proofs.Collections.{list_light}
use Rattle.merge_heads.proofs.Cells.{root_at, label_at}
use Rattle.merge.proofs.Starts.{start_heads, merge_starts, starts_one}
use Rattle.merge.proofs.Merge.start.Goals as goal

pub collect-self-requires-clause-list_bound : goal.collect-self-requires-clause-list_bound
collect-self-requires-clause-list_bound c =
    omega (arith, list_light c.requires.list)

pub fill-requires : goal.fill-requires
fill-requires c =
    start_heads c.collect-self.ensures.collected c.requires.list (omega (arith, c.collect-self.ensures.upper_bound, list_light c.requires.list))

pub returns : goal.returns
returns c =
    let collect = c.collect-self.ensures in record {
      starts =
          merge_starts collect.collected (omega (arith, collect.upper_bound, list_light c.requires.list))
          c.fill.ensures;
      one = λ e w v t.
          rw (root_at c.collect-self.new.cells 0, label_at c.collect-self.new.cells 0) at (starts_one collect.collected e w v t);
    }
