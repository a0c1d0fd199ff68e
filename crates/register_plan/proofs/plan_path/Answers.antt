-- plan_path meets its contract: each step adds what it makes.
use Rattle.memory.specs.Layout.{names}
use Rattle.register_plan.proofs.Plans.{walks_first, walks_few, path_next, path_last}
use native.Mathlib.Omega.{arith}
use Rattle.register_plan.proofs.plan_path.Goals as goal

pub loop-s-init : goal.loop-s-init
loop-s-init c = rw (c.into_iter-s-iterator.ensures.into_iter_gives, c.segments_of-s-items.ensures) (walks_first c.requires.at)

pub plan_step-step-requires : goal.plan_step-step-requires
plan_step-step-requires c = (
  record { which = names; trie = c.loop-s.invariant.here },
  walks_few (rw c.in-Some.ensures.steps at c.loop-s.invariant) c.requires.host_value,
)

pub overflow_add-segments : goal.overflow_add-segments
overflow_add-segments c = omega (arith, walks_few (rw c.in-Some.ensures.steps at c.loop-s.invariant) c.requires.host_value)

pub and-cost-requires : goal.and-cost-requires
and-cost-requires c =
    let inv = c.loop-s.invariant in
    omega (
      arith,
      walks_few (rw c.in-Some.ensures.steps at inv) c.requires.host_value,
      inv.gives.small,
      (c.plan_step-step.ensures names inv.here).small,
    )

pub loop-s-preserved : goal.loop-s-preserved
loop-s-preserved c =
    rw c.and-cost.ensures
    (path_next (rw c.in-Some.ensures.steps at c.loop-s.invariant) c.requires.host_value c.plan_step-step.ensures)

pub returns : goal.returns
returns c =
    let inv = rw c.in-None.ensures.steps.0 at c.loop-s.invariant in
    record { path = path_last inv c.requires.host_value; leads = inv.leads }
