-- `complete` meets its contract: counted over an empty output, then written.
use mathlib.Core.Path.{refl}
use mathlib.Core.Logic.{inl, inr}
use native.Mathlib.Omega.{arith}
use Rattle.listing.proofs.Completes.{root_ready, root_runs, root_shows, flat_kept, out_kept, writes_then, set_small, all_fit, completes_spent}
use Rattle.listing.proofs.Completes.{completes_past, completes_listed}
use Rattle.listing.proofs.Admitted.{query_whole}
use Rattle.source.specs.Calls.{signed_word}
use Rattle.listing.proofs.complete.Goals as goal

pub overflow_cast-limits : goal.overflow_cast-limits
unfolding signed_word
overflow_cast-limits c =
    omega arith

pub list_trie-entered-requires : goal.list_trie-entered-requires
unfolding signed_word
list_trie-entered-requires c =
    rw c.start-run.ensures
    (record {
      can = root_ready _ _ _ _ _ c.requires.at
          (query_whole _ c.requires.query_value)
          (set_small {flat = c.args.flat.now}
          {out = c.args.out.now}
          (record {
            budget_is = refl;
            budget_fits = omega arith;
            lines_are = c.lines_lent-lines.ensures;
            bytes_are = c.lent-bytes.ensures;
          }));
      told = refl;
    })

pub returns-then-limits-entered : goal.returns-then-limits-entered
unfolding signed_word
returns-then-limits-entered c =
    let list-trie = c.list_trie-entered.ensures in completes_spent c.requires.query_value (record {
      budget_is = refl;
      budget_fits = omega arith;
      lines_are = c.lines_lent-lines.ensures;
      bytes_are = c.lent-bytes.ensures;
    }) (root_shows _ _ _ _ _ (root_runs _ _ _ _ _ c.start-run.ensures list-trie)) (omega (arith, list-trie.count, c.if-limits-entered.true))
    (flat_kept _ _ _ _ _ (root_runs _ _ _ _ _ c.start-run.ensures list-trie) c.args.flat.now refl)
    (out_kept _ _ _ _ _ (root_runs _ _ _ _ _ c.start-run.ensures list-trie) c.args.out.now refl)

pub returns-then-lines-run : goal.returns-then-lines-run
unfolding signed_word
returns-then-lines-run c =
    let list-trie = c.list_trie-entered.ensures in completes_past c.requires.query_value (record {
      budget_is = refl;
      budget_fits = omega arith;
      lines_are = c.lines_lent-lines.ensures;
      bytes_are = c.lent-bytes.ensures;
    }) (root_shows _ _ _ _ _ (root_runs _ _ _ _ _ c.start-run.ensures list-trie)) (omega (arith, list-trie.count, c.if-limits-entered.false))
    (inl c.if-lines-run.true)
    (flat_kept _ _ _ _ _ (root_runs _ _ _ _ _ c.start-run.ensures list-trie) c.args.flat.now refl)
    (out_kept _ _ _ _ _ (root_runs _ _ _ _ _ c.start-run.ensures list-trie) c.args.out.now refl)

pub returns-then-bytes-run : goal.returns-then-bytes-run
unfolding signed_word
returns-then-bytes-run c =
    let list-trie = c.list_trie-entered.ensures in
    completes_past c.requires.query_value (record {
      budget_is = refl;
      budget_fits = omega arith;
      lines_are = c.lines_lent-lines.ensures;
      bytes_are = c.lent-bytes.ensures;
    }) (root_shows _ _ _ _ _ (root_runs _ _ _ _ _ c.start-run.ensures list-trie)) (omega (arith, list-trie.count, c.if-limits-entered.false))
    (inr c.if-bytes-run.true)
    (flat_kept _ _ _ _ _ (root_runs _ _ _ _ _ c.start-run.ensures list-trie) c.args.flat.now refl)
    (out_kept _ _ _ _ _ (root_runs _ _ _ _ _ c.start-run.ensures list-trie) c.args.out.now refl)

pub list_trie-requires : goal.list_trie-requires
unfolding signed_word
list_trie-requires c =
    rw c.start-again.ensures
    (record {
      can = root_ready _ _ _ _ _ (c.requires.at)
          (query_whole _ (c.requires.query_value))
          (set_small {flat = (c.args.flat.now)}
          {out = (c.args.out.now)}
          (record {
            budget_is = refl;
            budget_fits = omega arith;
            lines_are = (c.lines_lent-lines.ensures);
            bytes_are = (c.lent-bytes.ensures);
          }));
      told = refl;
    })

pub overflow_cast-result : goal.overflow_cast-result
unfolding signed_word
overflow_cast-result c =
    omega (arith, c.if-lines-run.false, c.lines_lent-lines.ensures)

pub overflow_cast-result-2 : goal.overflow_cast-result-2
unfolding signed_word
overflow_cast-result-2 c =
    omega (arith, c.if-limits-entered.false)

pub returns : goal.returns
unfolding signed_word
returns c =
    let list-trie = c.list_trie-entered.ensures in let start = c.start-run.ensures in
    let within = c.if-limits-entered.false in
    rw list-trie.count (completes_listed c.requires.query_value (record {
      budget_is = refl;
      budget_fits = omega arith;
      lines_are = c.lines_lent-lines.ensures;
      bytes_are = c.lent-bytes.ensures;
    }) (root_shows _ _ _ _ _ (root_runs _ _ _ _ _ start list-trie)) (omega (arith, list-trie.count, within)) c.if-lines-run.false c.if-bytes-run.false
    (writes_then _ _ _ _ _ (flat_kept _ _ _ _ _ (root_runs _ _ _ _ _ start list-trie) c.args.flat.now refl)
    (out_kept _ _ _ _ _ (root_runs _ _ _ _ _ start list-trie) c.args.out.now refl) (root_runs _ _ _ _ _ c.start-again.ensures c.list_trie.ensures)
    (all_fit (root_shows _ _ _ _ _ (root_runs _ _ _ _ _ start list-trie)) (omega (arith, list-trie.count, within)) c.if-lines-run.false c.if-bytes-run.false
    (record { budget_is = refl; budget_fits = omega arith; lines_are = c.lines_lent-lines.ensures; bytes_are = c.lent-bytes.ensures }))))
