-- look_up meets its contract.
use Rattle.std.proofs.lemmas.Result.{err_from_is_err_and}
use Rattle.refusals.proofs.Rows.{one_flagged, admitted_none, refused_lowest}
use Rattle.table_roots.proofs.Finds.{look_up_query_whole, look_up_rows_refused, looked_up}
use Rattle.table_roots.proofs.look_up.Goals as goal

pub trie_find_exact-requires : goal.trie_find_exact-requires
trie_find_exact-requires c =
    record {
      any_trie = c.requires;
      query_value = look_up_query_whole _
          (admitted_none (one_flagged c.look_up_flags.ensures) c.admit.ensures c.in_ok-admit.was);
    }

pub returns-in_err-admit : goal.returns-in_err-admit
returns-in_err-admit c =
    let p = err_from_is_err_and c.from_residual.result c.from_residual.ensures.1 in
    rw (p.1, p.2) (record {
      fits = tt;
      link = λ w t. tt;
      says = λ w t. look_up_rows_refused _ _ (refused_lowest (one_flagged c.look_up_flags.ensures)
          c.admit.ensures c.in_err-admit.was);
    })

pub returns : goal.returns
returns c =
    looked_up _ (admitted_none (one_flagged c.look_up_flags.ensures) c.admit.ensures c.in_ok-admit.was) c.requires
    _ c.trie_find_exact.ensures.nonzero c.trie_find_exact.ensures.found
