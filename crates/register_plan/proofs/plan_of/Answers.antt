-- plan_of meets its contract: each kind has its own.
use Rattle.memory.proofs.At.{reads_at}
use Rattle.register_plan.proofs.plan_of.Goals as goal

pub plan_name-requires : goal.plan_name-requires
plan_name-requires c =
    record { at = rw c.in-Name.is at c.requires.at; host_value = c.requires.host_value }

pub plan_include-requires : goal.plan_include-requires
plan_include-requires c =
    let pre = c.requires in
    record {
      at = (let t = rw c.in-Include.is at pre.at in (t, reads_at t (rw c.in-Include.is at pre.carries)));
      host_value = pre.host_value;
    }

pub plan_open-requires : goal.plan_open-requires
plan_open-requires c =
    let pre = c.requires in
    record {
      at = (let t = rw c.in-Open.is at pre.at in (t, reads_at t (rw c.in-Open.is at pre.carries)));
      host_value = pre.host_value;
    }

pub plan_alias-requires : goal.plan_alias-requires
plan_alias-requires c =
    let pre = c.requires in
    record {
      at = (let t = rw c.in-Alias.is at pre.at in (t, reads_at t (rw c.in-Alias.is at pre.carries)));
      host_value = pre.host_value;
    }

pub plan_module-requires : goal.plan_module-requires
plan_module-requires c =
    record { at = rw c.in-Module.is at c.requires.at; query_value = c.requires.host_value }

pub returns-in-Name : goal.returns-in-Name
returns-in-Name c = record {
  kind_planned = rw c.in-Name.is (λ tbl e. c.plan_name.ensures.name_planned tbl _ e);
  way_noted = rw c.in-Name.is (c.plan_name.ensures.name_noted _ _);
}

pub returns-in-Include : goal.returns-in-Include
returns-in-Include c = record {
  kind_planned = rw c.in-Include.is (λ tbl e. c.plan_include.ensures.include_planned tbl _ e (rw c.in-Include.is at c.requires.carries).says);
  way_noted = rw c.in-Include.is (c.plan_include.ensures.path_noted _ _);
}

pub returns-in-Open : goal.returns-in-Open
returns-in-Open c = record {
  kind_planned = rw c.in-Open.is (λ tbl e. c.plan_open.ensures.open_planned tbl _ e (rw c.in-Open.is at c.requires.carries).says);
  way_noted = rw c.in-Open.is (c.plan_open.ensures.path_noted _ _);
}

pub returns-in-Alias : goal.returns-in-Alias
returns-in-Alias c = record {
  kind_planned = rw c.in-Alias.is (λ tbl e. c.plan_alias.ensures.alias_planned tbl _ e (rw c.in-Alias.is at c.requires.carries).says);
  way_noted = rw c.in-Alias.is (c.plan_alias.ensures.alias_noted _);
}

pub returns-in-Module : goal.returns-in-Module
returns-in-Module c = record {
  kind_planned = rw c.in-Module.is (λ tbl e. c.plan_module.ensures.module_planned tbl _ e);
  way_noted = rw c.in-Module.is (c.plan_module.ensures.path_noted _ _);
}
