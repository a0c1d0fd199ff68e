-- plan_module meets its contract: each step adds what it makes.
use Rattle.memory.specs.Layout.{modules}
use Rattle.register_kind.specs.declared.CallKind.TheVariants.{Module}
use Rattle.register_way.proofs.Steps.{noted_path}
use Rattle.register_plan.proofs.Plans.{same_records, walks_first, walks_few, none_left, module_path_next, module_planned}
use native.Mathlib.Omega.{arith}
use Rattle.register_plan.proofs.plan_module.Goals as goal

pub loop-s-init : goal.loop-s-init
loop-s-init c = rw c.segments_of-left.ensures (walks_first c.requires.at)

pub plan_step-step-requires : goal.plan_step-step-requires
plan_step-step-requires c = (
  record { which = modules; trie = c.loop-s.invariant.here },
  walks_few (rw c.in-Some.ensures.steps at c.loop-s.invariant) c.requires.query_value,
)

pub plan_ins-put-requires : goal.plan_ins-put-requires
plan_ins-put-requires c = c.loop-s.invariant.here

pub overflow_add-segments : goal.overflow_add-segments
overflow_add-segments c = omega (arith, walks_few (rw c.in-Some.ensures.steps at c.loop-s.invariant) c.requires.query_value)

pub and-requires : goal.and-requires
and-requires c = omega (arith, (c.plan_step-step.ensures modules c.loop-s.invariant.here).small, c.plan_ins-put.ensures.small)

pub and-cost-requires : goal.and-cost-requires
and-cost-requires c =
    let inv = c.loop-s.invariant in
    omega (
      arith,
      walks_few (rw c.in-Some.ensures.steps at inv) c.requires.query_value,
      inv.gives.small,
      same_records c.and.ensures,
      (c.plan_step-step.ensures modules inv.here).small,
      c.plan_ins-put.ensures.small,
    )

pub loop-s-preserved : goal.loop-s-preserved
loop-s-preserved c =
    rw (c.and-cost.ensures, c.and.ensures)
    (module_path_next (rw c.in-Some.ensures.steps at c.loop-s.invariant) c.requires.query_value (none_left _ _ c.is_empty-last.ensures)
    c.plan_step-step.ensures c.plan_ins-put.ensures)

pub returns : goal.returns
returns c =
    let inv = rw c.in_default.ensures.steps.0 at c.loop-s.invariant in
    record {
      module_planned = λ tbl path e. module_planned c.args.query.now path tbl inv.gives e;
      path_noted = λ other key. noted_path inv.leads (omega (arith, inv.gives.number, c.requires.query_value))
          (Module c.args.loaded) other key tt;
    }
