-- plan_module meets its contract: each step adds what it makes.
use Rattle.source.specs.Text.{segments}
use Rattle.source.specs.Plans.{module_step_records, module_step_weight}
use Rattle.memory.specs.Layout.{modules}
use Rattle.register_plan.proofs.Plans.{Walks}
use Rattle.register_plan.proofs.plan_module.Given as goal

abbrev pub invariant-loop-s : goal.invariant-loop-s
invariant-loop-s l =
    Walks l.words l.text modules l.root (segments l.query) (module_step_records l.loaded) (module_step_weight l.loaded) l.initial.way
    l.way l.link l.segments l.cost (segments l.left.rest.now)
