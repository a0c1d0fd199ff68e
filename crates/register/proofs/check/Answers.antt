-- check meets its contract.
use mathlib.Core.Path.{refl, sym, ◌∙◌}
use Rattle.std.proofs.lemmas.Result.{err_from_is_err_and}
use native.Mathlib.Omega.{arith}
use Rattle.source.proofs.Refusals.{argument_rows_none}
use Rattle.memory_table.proofs.Table.{sound_table, names_trie, either_trie}
use Rattle.refusals.proofs.Rows.{admitted_none, refused_lowest}
use Rattle.register_kind.specs.Shapes.{shape_of}
use Rattle.register_way.specs.Way.{which_by}
use Rattle.register.proofs.Checks.{call_ready, ready_short, taken_all, carries_root, root_reads, rows_refused, rows_planned}
use Rattle.register.proofs.check.Goals as goal

pub returns-in_err-admit : goal.returns-in_err-admit
returns-in_err-admit c =
    let p = err_from_is_err_and c.from_residual.result c.from_residual.ensures.1 in
    rw (p.1, p.2) (rows_refused _ _ _ (refused_lowest c.flags_of.ensures c.in_err-admit.ensures refl))

pub included-way-requires : goal.included-way-requires
included-way-requires c =
    record {
      at = names_trie c.requires.sound;
      other_value =
          rw c.shape_of-form.ensures (call_ready c.args.entry.kind c.args.host.now c.args.other.now c.args.key.now
          (argument_rows_none _ _ (admitted_none c.flags_of.ensures c.in_ok-admit.ensures refl))).other_fine;
    }

pub plan_of-p-requires : goal.plan_of-p-requires
plan_of-p-requires c =
    let a = c.args in record {
      at = rw (c.root_of-root.ensures, c.shape_of-form.ensures) (either_trie c.requires.sound (which_by (shape_of a.entry.kind).form));
      host_value = (call_ready a.entry.kind a.host.now a.other.now a.key.now
          (argument_rows_none _ _ (admitted_none c.flags_of.ensures c.in_ok-admit.ensures refl))).host_keeps.few;
      carries = rw (c.root_of-root.ensures, ← c.shape_of-form.ensures)
          (carries_root a.words.now a.text.now a.h c.shape_of-form.result.form a.other.now c.included-way.result c.included-way.ensures);
    }

pub overflow_add-demand : goal.overflow_add-demand
overflow_add-demand c =
    let s = ready_short c.args.entry.kind c.args.host.now c.args.other.now c.args.key.now
    (call_ready _ _ _ _ (argument_rows_none _ _ (admitted_none c.flags_of.ensures c.in_ok-admit.ensures refl)))
    c.requires.no_key in omega (arith, s.host_short, s.other_short, s.key_short)

pub overflow_add-demand-2 : goal.overflow_add-demand-2
overflow_add-demand-2 c =
    let s = ready_short c.args.entry.kind c.args.host.now c.args.other.now c.args.key.now
    (call_ready _ _ _ _ (argument_rows_none _ _ (admitted_none c.flags_of.ensures c.in_ok-admit.ensures refl)))
    c.requires.no_key in omega (arith, s.host_short, s.other_short, s.key_short)

pub returns-in_err-afford : goal.returns-in_err-afford
returns-in_err-afford c =
    let p = err_from_is_err_and c.from_residual-in_err-afford.result c.from_residual-in_err-afford.ensures.1 in
    rw (p.1, p.2) (rows_planned _ _ _ (sound_table c.requires.sound) (c.plan_of-p.ensures.kind_planned _
    (rw (c.root_of-root.ensures, c.shape_of-form.ensures) (root_reads _ _ _ (which_by (shape_of c.args.entry.kind).form))))
    (sym (taken_all c.args.entry.kind c.args.host.now c.args.other.now c.args.key.now c.requires.no_key))
    (admitted_none c.flags_of.ensures c.in_ok-admit.ensures refl)
    ∙ sym c.in_err-afford.ensures)

pub returns : goal.returns
returns c =
    let p = c.plan_of-p.ensures in let a = c.args in record {
      sound = c.requires.sound;
      no_key = c.requires.no_key;
      rows = rows_planned _ _ _ (sound_table c.requires.sound)
          (p.kind_planned _
          (rw (c.root_of-root.ensures, c.shape_of-form.ensures) (root_reads _ _ _ (which_by (shape_of a.entry.kind).form))))
          (sym (taken_all a.entry.kind a.host.now a.other.now a.key.now c.requires.no_key))
          (admitted_none c.flags_of.ensures c.in_ok-admit.ensures refl)
          ∙ sym (c.in_ok-afford.ensures);
      carries = rw (p.way_noted.kept, ← c.shape_of-form.ensures) c.included-way.ensures;
      leads = rw (c.root_of-root.ensures, c.shape_of-form.ensures) at p.way_noted.leads;
    }
