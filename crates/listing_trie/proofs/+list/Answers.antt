use Rattle.std.proofs.Common.{arith, rules, refl}
use Rattle.find_tree.proofs.Branches.{any_tree}
use Rattle.memory.proofs.At.{at_fits}
use Rattle.merge.proofs.OneTree.{single_one}
use Rattle.merge.proofs.Rest.{any_stands, steps_give}
use Rattle.listing_line.proofs.Run.{same_run}
use Rattle.listing_trie.proofs.Branch.{leaf_runs, line_ready, branch_named, space_at, below_ready, child_earlier, namespace_ready}
use Rattle.listing_trie.proofs.Branch.{namespace_runs}
use Rattle.listing_trie.proofs.Listed.{none_runs, along_earlier, along_tree, along_begins, stepping_first, stepping_branch, stepping_noted, stepping_next}
use Rattle.listing_trie.proofs.Listed.{stepping_less}
use Rattle.listing_trie.proofs.Listed.{stepping_spent, stepping_done, list_any, one_earlier, one_ready, one_runs}
use Rattle.listing_trie.proofs.Listed.{merging_first, merging_any, merging_done, merging_earlier, merging_less, merging_branch, merging_next, merging_spent}
use Rattle.listing_trie.proofs.Trie.{trie_spent, trie_named, cut_ready, bindings_earlier, namespaces_earlier, bindings_asked, namespaces_asked, trie_all}
use Rattle.listing_trie.proofs.Trie.{trie_few}
use Rattle.listing_trie.proofs.+list.Goals as goal

-- ---- list_below

pub list_below-held_of-child-requires : goal.list_below-held_of-child-requires
list_below-held_of-child-requires t c = branch_named c.requires.can

pub list_below-enter-before-requires : goal.list_below-enter-before-requires
list_below-enter-before-requires t c = record {
  link_nonzero = branch_named c.requires.can;
  room = below_ready c.requires.can refl;
}

pub list_below-list_trie-entered-requires : goal.list_below-list_trie-entered-requires
list_below-list_trie-entered-requires t c = (
  omega (arith, c.held_of-child.ensures, child_earlier (space_at c.requires.can refl).0),
  namespace_ready c.requires c.enter-before.ensures.entered c.held_of-child.ensures,
)

pub list_below-returns : goal.list_below-returns
list_below-returns t c =
    namespace_runs c.requires c.enter-before.ensures.entered c.held_of-child.ensures c.list_trie-entered.ensures
    c.enter-before.ensures.value c.leave.ensures

-- ---- list_branch

pub list_branch-line-requires : goal.list_branch-line-requires
list_branch-line-requires t c = line_ready c.requires c.if-place.true

pub list_branch-returns-then-place : goal.list_branch-returns-then-place
list_branch-returns-then-place t c = leaf_runs c.if-place.true c.line.ensures

pub list_branch-list_below-requires : goal.list_branch-list_below-requires
list_branch-list_below-requires t c = (omega arith, rw c.if-place.false at c.requires)

pub list_branch-returns : goal.list_branch-returns
list_branch-returns t c = rw c.if-place.false c.list_below.ensures

-- ---- list_tree

pub list_tree-loop-next-init : goal.list_tree-loop-next-init
list_tree-loop-next-init t c = stepping_first c.requires c.first_match-next.ensures

pub list_tree-list_branch-entered-requires : goal.list_tree-list_branch-entered-requires
list_tree-list_branch-entered-requires t c =
    let inv = rw c.in-Some.is at c.loop-next.invariant in
    (omega (arith, along_earlier inv.along), (stepping_branch inv c.requires))

pub list_tree-returns-then-budget-entered : goal.list_tree-returns-then-budget-entered
list_tree-returns-then-budget-entered t c =
    stepping_spent (rw c.in-Some.is at c.loop-next.invariant) c.list_branch-entered.ensures
    (search rules) (search rules) c.if-budget-entered.true

pub list_tree-next_match-next-requires : goal.list_tree-next_match-next-requires
list_tree-next_match-next-requires t c =
    let inv = rw c.in-Some.is at c.loop-next.invariant in
    record {
      any_tree = any_tree c.requires.can.tree_at;
      at_nonzero = along_tree inv.along;
      prefix_value = (along_begins inv.along);
      noted = (stepping_noted inv);
    }

pub list_tree-loop-next-smaller : goal.list_tree-loop-next-smaller
list_tree-loop-next-smaller t c =
    rw c.in-Some.is (stepping_less (rw c.in-Some.is at c.loop-next.invariant) c.list_branch-entered.ensures
    (search rules) (search rules) c.next_match-next.ensures)

pub list_tree-loop-next-preserved : goal.list_tree-loop-next-preserved
list_tree-loop-next-preserved t c =
    stepping_next (rw c.in-Some.is at c.loop-next.invariant) c.list_branch-entered.ensures
    (search rules) (search rules) c.next_match-next.ensures

pub list_tree-returns : goal.list_tree-returns
list_tree-returns t c = stepping_done (rw c.in_default.is at c.loop-next.invariant)

-- ---- list_merged

pub list_merged-start-requires : goal.list_merged-start-requires
list_merged-start-requires t c = list_any c.requires.can

pub list_merged-list_tree-requires : goal.list_merged-list_tree-requires
list_merged-list_tree-requires t c =
    let o = c.start.ensures.one c.if-merge-eq1.true _ _ c.requires.can.list_at in
    (omega (arith, one_earlier c.requires o), one_ready c.requires o)

pub list_merged-returns-then-merge-eq1 : goal.list_merged-returns-then-merge-eq1
list_merged-returns-then-merge-eq1 t c =
    one_runs c.requires (c.start.ensures.one c.if-merge-eq1.true _ _ c.requires.can.list_at)
    c.list_tree.ensures

pub list_merged-loop-given-init : goal.list_merged-loop-given-init
list_merged-loop-given-init t c = merging_first c.requires c.start.ensures.starts

pub list_merged-next-requires : goal.list_merged-next-requires
list_merged-next-requires t c = any_stands (merging_any c.loop-given.invariant)

pub list_merged-list_branch-entered-requires : goal.list_merged-list_branch-entered-requires
list_merged-list_branch-entered-requires t c =
    let n = c.next.ensures in
    let f = rw c.in-Some.is at (steps_give _ n.gives n.label_is n.labels_stay) in (
      omega (arith, merging_earlier c.loop-given.invariant f),
      (merging_branch c.loop-given.invariant f c.requires),
    )

pub list_merged-returns-then-budget-entered : goal.list_merged-returns-then-budget-entered
list_merged-returns-then-budget-entered t c =
    let n = c.next.ensures in
    merging_spent c.loop-given.invariant (rw c.in-Some.is at (steps_give _ n.gives n.label_is n.labels_stay))
    c.list_branch-entered.ensures (search rules) (search rules) c.if-budget-entered.true

pub list_merged-loop-given-smaller : goal.list_merged-loop-given-smaller
list_merged-loop-given-smaller t c =
    let n = c.next.ensures in
    merging_less c.loop-given.invariant (rw c.in-Some.is at (steps_give _ n.gives n.label_is n.labels_stay))

pub list_merged-loop-given-preserved : goal.list_merged-loop-given-preserved
list_merged-loop-given-preserved t c =
    let n = c.next.ensures in
    merging_next c.loop-given.invariant (rw c.in-Some.is at (steps_give _ n.gives n.label_is n.labels_stay))
    c.list_branch-entered.ensures (search rules) (search rules)

pub list_merged-returns : goal.list_merged-returns
list_merged-returns t c =
    let n = c.next.ensures in
    merging_done c.loop-given.invariant (rw c.in_default.is at (steps_give _ n.gives n.label_is n.labels_stay))

-- ---- list_names

pub list_names-returns-then-list-eq0 : goal.list_names-returns-then-list-eq0
list_names-returns-then-list-eq0 t c = none_runs c.if-list-eq0.true

pub list_names-single-requires : goal.list_names-single-requires
list_names-single-requires t c = at_fits c.requires.can.list_at

pub list_names-list_tree-requires : goal.list_names-list_tree-requires
list_names-list_tree-requires t c =
    let o = single_one _ c.requires.can.list_at (rw c.in-Some.is at c.single.ensures) in
    (omega (arith, one_earlier c.requires o), one_ready c.requires o)

pub list_names-returns-in-Some : goal.list_names-returns-in-Some
list_names-returns-in-Some t c =
    one_runs c.requires (single_one _ c.requires.can.list_at (rw c.in-Some.is at c.single.ensures)) c.list_tree.ensures

pub list_names-list_merged-requires : goal.list_names-list_merged-requires
list_names-list_merged-requires t c = (omega arith, c.requires)

pub list_names-returns : goal.list_names-returns
list_names-returns t c = c.list_merged.ensures

-- ---- list_trie

pub list_trie-overflow_add-run : goal.list_trie-overflow_add-run
list_trie-overflow_add-run t c = omega (arith, c.requires.can.ready.small.budget_small)

pub list_trie-overflow_add-result : goal.list_trie-overflow_add-result
list_trie-overflow_add-result t c = omega (arith, c.requires.can.ready.small.budget_small)

pub list_trie-returns-then-budget-run : goal.list_trie-returns-then-budget-run
list_trie-returns-then-budget-run t c = trie_spent c.requires c.if-budget-run.true

pub list_trie-trie_of-t-requires : goal.list_trie-trie_of-t-requires
list_trie-trie_of-t-requires t c = trie_named c.requires.can

pub list_trie-cut_query-cut-requires : goal.list_trie-cut_query-cut-requires
list_trie-cut_query-cut-requires t c = cut_ready c.requires.can

pub list_trie-begin-requires : goal.list_trie-begin-requires
list_trie-begin-requires t c =
    omega (arith, c.if-budget-run.false, c.requires.can.ready.small.budget_small)

pub list_trie-list_names-requires : goal.list_trie-list_names-requires
list_trie-list_names-requires t c = (
  omega (arith, namespaces_earlier c.requires.can c.trie_of-t.ensures c.cut_query-cut.ensures),
  rw c.begin.ensures (namespaces_asked c.requires c.trie_of-t.ensures c.cut_query-cut.ensures (omega (arith, c.if-budget-run.false)) (same_run _)),
)

pub list_trie-returns-then-skip : goal.list_trie-returns-then-skip
list_trie-returns-then-skip t c =
    trie_few c.requires c.trie_of-t.ensures c.cut_query-cut.ensures
    (omega (arith, c.if-budget-run.false)) (c.skips_bindings-skip.ensures.when c.if-skip.true)
    (rw c.begin.ensures at c.list_names.ensures)

pub list_trie-list_names-requires-2 : goal.list_trie-list_names-requires-2
list_trie-list_names-requires-2 t c = (
  omega (arith, bindings_earlier c.requires.can c.trie_of-t.ensures c.cut_query-cut.ensures),
  rw c.begin.ensures (bindings_asked c.requires c.trie_of-t.ensures c.cut_query-cut.ensures (omega (arith, c.if-budget-run.false))),
)

pub list_trie-list_names-requires-3 : goal.list_trie-list_names-requires-3
list_trie-list_names-requires-3 t c = (
  omega (arith, namespaces_earlier c.requires.can c.trie_of-t.ensures c.cut_query-cut.ensures),
  namespaces_asked c.requires c.trie_of-t.ensures c.cut_query-cut.ensures (omega (arith, c.if-budget-run.false))
      (rw c.begin.ensures at c.list_names-2.ensures.same),
)

pub list_trie-returns : goal.list_trie-returns
list_trie-returns t c =
    trie_all c.requires c.trie_of-t.ensures c.cut_query-cut.ensures
    (omega (arith, c.if-budget-run.false)) (c.skips_bindings-skip.ensures.unless c.if-skip.false)
    (rw c.begin.ensures at c.list_names-2.ensures) c.list_names-3.ensures
