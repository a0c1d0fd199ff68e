-- names_find_exact meets its contract.
use mathlib.Core.Path.{sym, ◌∙◌}
use native.Mathlib.Omega.{arith}
use Rattle.find_list.proofs.Collections.{collection_right, imported_lighter, any_imported, any_own}
use Rattle.find_list.proofs.Holder.{first_imported, first_names, find_here, find_on, find_none}
use Rattle.find_list.proofs.+names_find_exact.Goals as goal
use Rattle.find_list.proofs.+names_find_exact.Goals.{then-sort_of-eq-IMPORTED, else-sort_of-eq-IMPORTED}

pub names_find_exact-found-requires : goal.names_find_exact-found-requires
names_find_exact-found-requires t c =
    let g = c.loop-link.invariant in
    let p = c.loop-link-test.true in
    let own = c.own_of-own.ensures in
    let e = sym c.sort_of.ensures ∙ c.if-sort_of-eq-IMPORTED.true in (
      rw own (omega (arith, imported_lighter g.any.list p e, g.lighter, c.decreases)),
      any_imported g.any p own e,
    )

pub btree_find_exact-found-requires : goal.btree_find_exact-found-requires
btree_find_exact-found-requires t c =
    any_own c.loop-link.invariant.any c.loop-link-test.true c.own_of-own.ensures
    (λ e. c.if-sort_of-eq-IMPORTED.false (c.sort_of.ensures ∙ e))

pub returns-then-is_some-clause-found : goal.returns-then-is_some-clause-found
returns-then-is_some-clause-found t c =
    let p = c.loop-link-test.true in
    let own = c.own_of-own.ensures in
    let sort = c.sort_of.ensures in
    find_here c.loop-link.invariant _ (elim c.if-sort_of-eq-IMPORTED.branch [
      | then-sort_of-eq-IMPORTED w ↦ rw w.found-is
          (first_imported w.names_find_exact-found.ensures.nonzero p own (sym sort ∙ w.if-sort_of-eq-IMPORTED.true) w.names_find_exact-found.ensures.found)
      | else-sort_of-eq-IMPORTED w ↦ rw w.found-is
          (first_names w.btree_find_exact-found.ensures.nonzero p own (λ e. w.if-sort_of-eq-IMPORTED.false (sort ∙ e)) w.btree_find_exact-found.ensures.found)
    ]) (sym c.is_some.ensures ∙ c.if-is_some.true)

pub loop-link-smaller : goal.loop-link-smaller
loop-link-smaller t c =
    omega (
      arith,
      c.rest_of-link.ensures,
      (collection_right c.loop-link.invariant.any.list c.loop-link-test.true).rest.earlier,
    )

pub loop-link-preserved : goal.loop-link-preserved
loop-link-preserved t c =
    let p = c.loop-link-test.true in
    let own = c.own_of-own.ensures in
    let sort = c.sort_of.ensures in
    find_on c.loop-link.invariant _ p (elim c.if-sort_of-eq-IMPORTED.branch [
      | then-sort_of-eq-IMPORTED w ↦ rw w.found-is
          (first_imported w.names_find_exact-found.ensures.nonzero p own (sym sort ∙ w.if-sort_of-eq-IMPORTED.true) w.names_find_exact-found.ensures.found)
      | else-sort_of-eq-IMPORTED w ↦ rw w.found-is
          (first_names w.btree_find_exact-found.ensures.nonzero p own (λ e. w.if-sort_of-eq-IMPORTED.false (sort ∙ e)) w.btree_find_exact-found.ensures.found)
    ]) (sym c.is_some.ensures ∙ c.if-is_some.false)
    c.rest_of-link.ensures

pub returns-clause-found : goal.returns-clause-found
returns-clause-found t c =
    find_none c.loop-link.invariant c.loop-link-test.false
