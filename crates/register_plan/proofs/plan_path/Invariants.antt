-- plan_path meets its contract: each step adds what it makes.
use Rattle.source.specs.Text.{segments}
use Rattle.source.specs.Plans.{step_records, step_weight}
use Rattle.memory.specs.Layout.{names}
use Rattle.register_plan.proofs.Plans.{Walks}
use Rattle.register_plan.proofs.plan_path.Given as goal

abbrev pub invariant-loop-s : goal.invariant-loop-s
invariant-loop-s l =
    Walks l.words l.text names l.root (segments l.host) step_records step_weight l.initial.way l.way l.link l.segments l.cost
    (segments l.s-iterator.rest.now)
