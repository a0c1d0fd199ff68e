-- complete meets its contract.
use mathlib.Core.Path.{sym}
use native.Mathlib.Omega.{arith}
use lib.Seq.{length-take-le}
use Rattle.std.proofs.lemmas.Result.{err_from_is_err_and}
use Rattle.refusals.proofs.Rows.{one_flagged, admitted_none, refused_lowest}
use Rattle.memory_table.proofs.UsedPart.{used_part_sound}
use Rattle.table_roots.proofs.Completes.{completes_refused, root_trie}
use Rattle.table_roots.proofs.complete.Goals as goal

pub overflow_cast-end : goal.overflow_cast-end
overflow_cast-end c =
    omega (arith, c.requires.right.few)

pub overflow_mul-end : goal.overflow_mul-end
overflow_mul-end c =
    omega (arith, c.requires.right.few)

pub overflow_cast-used : goal.overflow_cast-used
overflow_cast-used c =
    omega (arith, c.requires.right.short)

pub slice_bounds-records-end : goal.slice_bounds-records-end
slice_bounds-records-end c =
    sym (length-take-le _ _
    c.requires.right.records_fit)

pub slice_bounds-texts-end : goal.slice_bounds-texts-end
slice_bounds-texts-end c =
    sym (length-take-le _ _
    c.requires.right.text_fits)

pub complete-requires : goal.complete-requires
complete-requires c =
    record {
      at = rw c.root_for-root.ensures (root_trie (used_part_sound c.requires) c.args.request.ask);
      query_value = admitted_none (one_flagged c.completion_flags.ensures) c.admit.ensures c.in_ok-admit.was;
    }

pub returns-in_err-admit : goal.returns-in_err-admit
returns-in_err-admit c =
    let p = err_from_is_err_and c.from_residual.result c.from_residual.ensures.1 in
    rw (p.1, p.2) (completes_refused (refused_lowest (one_flagged c.completion_flags.ensures)
    c.admit.ensures c.in_err-admit.was))

pub returns : goal.returns
returns c =
    rw c.root_for-root.ensures at c.complete.ensures
