-- `merge_collect::collect` meets its contract.
use Prim.Native.Nat.{ℕ}
use mathlib.Core.Path.{◌≡◌, ◌∙◌}
use mathlib.Core.List.{List}
use native.Mathlib.Omega.{arith}
use Rattle.memory.specs.Layout.{record_at, own_link, rest_link, sort_word}
use Rattle.find_list.specs.Names.{AnyList}
use Rattle.merge_collect.proofs.Collected.{outermost, outermost_none, outermost_some, Seen, seen_rest, rest_less, seen_list, both_less, seen_tree, first_in}
use Rattle.merge_collect.proofs.Collected.{collected_none, full_cells, collected_imported, collected_skip, collected_cell}
use Rattle.merge_heads.proofs.Cells.{placed}
use Rattle.merge_collect.proofs.+collect.Goals as goal
use Rattle.merge_collect.proofs.+collect.Goals.{then-part-eq0-2, else-part-eq0-2}

-- The words read of the first collection.
seen : {ws txt : List ℕ} {x own rest sort : ℕ} → AnyList ws txt x → (x ≡ 0 → ⊥) → own ≡ own_link (record_at ws x)
    → rest ≡ rest_link (record_at ws x) → sort ≡ sort_word (record_at ws x) → Seen ws txt x own rest sort
seen a n o r k = record { any = a; some = omega (arith, n); own_is = o; rest_is = r; sort_is = k }

pub returns-then-part-eq0-clause-collected : goal.returns-then-part-eq0-clause-collected
returns-then-part-eq0-clause-collected t c = collected_none c.if-part-eq0.true (full_cells c.args.cells.now c.told-cells)

pub collect-mid-requires : goal.collect-mid-requires
collect-mid-requires t c =
    let s = seen c.requires.any_list c.if-part-eq0.false c.own_of-own.ensures c.rest_of.ensures c.sort_of.ensures in
    let e = c.if-sort_of-eq-IMPORTED.true in (
      omega (arith, both_less s e, c.decreases),
      (seen_list s e, omega (arith, both_less s e, c.requires.list_bound)),
    )

pub collect-requires : goal.collect-requires
collect-requires t c =
    let s = seen c.requires.any_list c.if-part-eq0.false c.own_of-own.ensures c.rest_of.ensures c.sort_of.ensures in
    let e = c.if-sort_of-eq-IMPORTED.true in (
      omega (arith, both_less s e, c.decreases),
      (seen_rest s, omega (arith, both_less s e, c.requires.list_bound, c.collect-mid.ensures.upper_bound)),
    )

pub returns-then-sort_of-eq-IMPORTED-clause-upper_bound :
    goal.returns-then-sort_of-eq-IMPORTED-clause-upper_bound
returns-then-sort_of-eq-IMPORTED-clause-upper_bound t c =
    let s = seen c.requires.any_list c.if-part-eq0.false c.own_of-own.ensures c.rest_of.ensures c.sort_of.ensures in
    omega (arith, both_less s c.if-sort_of-eq-IMPORTED.true, c.collect-mid.ensures.upper_bound, c.collect.ensures.upper_bound)

pub returns-then-sort_of-eq-IMPORTED-clause-collected :
    goal.returns-then-sort_of-eq-IMPORTED-clause-collected
returns-then-sort_of-eq-IMPORTED-clause-collected t c =
    let s = seen c.requires.any_list c.if-part-eq0.false c.own_of-own.ensures c.rest_of.ensures c.sort_of.ensures in
    let o : c.if-part-eq0-2.imported ≡ outermost c.args.part.label c.args.part.list =
    elim c.if-part-eq0-2.branch [
      | then-part-eq0-2 w ↦ w.imported-is ∙ outermost_none _ _ w.if-part-eq0-2.true
      | else-part-eq0-2 w ↦ w.imported-is ∙ outermost_some _ _ w.if-part-eq0-2.false
    ] in
    collected_imported s c.if-sort_of-eq-IMPORTED.true o c.collect-mid.ensures.collected c.collect.ensures.collected

pub tree_first-requires : goal.tree_first-requires
tree_first-requires t c =
    seen_tree (seen c.requires.any_list c.if-part-eq0.false c.own_of-own.ensures c.rest_of.ensures c.sort_of.ensures)
    c.if-sort_of-eq-IMPORTED.false

pub collect-requires-in_default : goal.collect-requires-in_default
collect-requires-in_default t c =
    let s = seen c.requires.any_list c.if-part-eq0.false c.own_of-own.ensures c.rest_of.ensures c.sort_of.ensures in
    (omega (arith, rest_less s, c.decreases), (seen_rest s, omega (arith, rest_less s, c.requires.list_bound)))

pub returns-in_default-clause-upper_bound : goal.returns-in_default-clause-upper_bound
returns-in_default-clause-upper_bound t c =
    let s = seen c.requires.any_list c.if-part-eq0.false c.own_of-own.ensures c.rest_of.ensures c.sort_of.ensures in
    omega (arith, rest_less s, c.collect-in_default.ensures.upper_bound)

pub returns-in_default-clause-collected : goal.returns-in_default-clause-collected
returns-in_default-clause-collected t c =
    let s = seen c.requires.any_list c.if-part-eq0.false c.own_of-own.ensures c.rest_of.ensures c.sort_of.ensures in
    collected_skip s c.if-sort_of-eq-IMPORTED.false c.in_default.ensures c.collect-in_default.ensures.collected

pub bounds-cells-part : goal.bounds-cells-part
bounds-cells-part t c =
    let s = seen c.requires.any_list c.if-part-eq0.false c.own_of-own.ensures c.rest_of.ensures c.sort_of.ensures in
    omega (arith, rest_less s, c.requires.list_bound)

pub set_head-requires-clause-text_in : goal.set_head-requires-clause-text_in
set_head-requires-clause-text_in t c =
    let s = seen c.requires.any_list c.if-part-eq0.false c.own_of-own.ensures c.rest_of.ensures c.sort_of.ensures in
    first_in s c.if-sort_of-eq-IMPORTED.false _ c.in-Some.ensures

pub set_head-requires-clause-cell_lt_heaviest_list :
    goal.set_head-requires-clause-cell_lt_heaviest_list
set_head-requires-clause-cell_lt_heaviest_list t c =
    let s = seen c.requires.any_list c.if-part-eq0.false c.own_of-own.ensures c.rest_of.ensures c.sort_of.ensures in
    omega (arith, rest_less s, c.requires.list_bound)

pub bounds-cells-part-2 : goal.bounds-cells-part-2
bounds-cells-part-2 t c =
    let s = seen c.requires.any_list c.if-part-eq0.false c.own_of-own.ensures c.rest_of.ensures c.sort_of.ensures in
    omega (arith, rest_less s, c.requires.list_bound)

pub collect-requires-2 : goal.collect-requires-2
collect-requires-2 t c =
    let s = seen c.requires.any_list c.if-part-eq0.false c.own_of-own.ensures c.rest_of.ensures c.sort_of.ensures in
    (omega (arith, rest_less s, c.decreases), (seen_rest s, omega (arith, rest_less s, c.requires.list_bound)))

pub returns-clause-upper_bound : goal.returns-clause-upper_bound
returns-clause-upper_bound t c =
    let s = seen c.requires.any_list c.if-part-eq0.false c.own_of-own.ensures c.rest_of.ensures c.sort_of.ensures in
    omega (arith, rest_less s, c.collect-2.ensures.upper_bound)

pub returns-clause-collected : goal.returns-clause-collected
returns-clause-collected t c =
    let s = seen c.requires.any_list c.if-part-eq0.false c.own_of-own.ensures c.rest_of.ensures c.sort_of.ensures in
    let b = placed c.args.cells.now c.set_head.ensures in
    collected_cell s c.if-sort_of-eq-IMPORTED.false c.in-Some.ensures (full_cells c.args.cells.now c.told-cells)
    (omega (arith, rest_less s, c.requires.list_bound))
    (rw (b.roots_are, b.heads_are, b.beginnings_are, b.labels_are) at c.collect-2.ensures.collected)
