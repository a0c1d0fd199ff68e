-- ins meets its contract.
use Rattle.source.specs.Types.{bind}
use Rattle.memory.specs.Layout.{modules}
use Rattle.find_trie.proofs.Links.{holder_some}
use Rattle.register_change.proofs.Nodes.{placed_part, ins_key, ins_list, ins_any, ins_made, ins_none}
use native.Mathlib.Omega.{arith}
use Rattle.register_change.proofs.ins.Goals as goal

pub overflow_add-end : goal.overflow_add-end
overflow_add-end c =
    let holds = c.requires.holds in omega (arith, (ins_key holds).inside, holds.sound.text_fits, holds.sound.short)

pub slice_bounds-names_place-count : goal.slice_bounds-names_place-count
slice_bounds-names_place-count c =
    let holds = c.requires.holds in omega (arith, (ins_key holds).inside, holds.sound.text_fits, holds.sound.short)

pub slice_bounds-names_place-start : goal.slice_bounds-names_place-start
slice_bounds-names_place-start c =
    let holds = c.requires.holds in omega (arith, (ins_key holds).inside, holds.sound.text_fits, holds.sound.short)

pub slice_bounds-names_place-end : goal.slice_bounds-names_place-end
slice_bounds-names_place-end c =
    let holds = c.requires.holds in omega (arith, (ins_key holds).inside, holds.sound.text_fits, holds.sound.short)

pub names_place-p-requires : goal.names_place-p-requires
names_place-p-requires c =
    record { which = modules; level = bind; list = ins_list c.requires.holds }

pub overflow_add-last : goal.overflow_add-last
overflow_add-last c =
    let holds = c.requires.holds in
    omega (arith, (ins_key holds).inside, holds.sound.text_fits, holds.sound.short)

pub overflow_add-last-2 : goal.overflow_add-last-2
overflow_add-last-2 c =
    let holds = c.requires.holds in
    omega (arith, (ins_key holds).inside, holds.sound.text_fits, holds.sound.short)

pub ns_inserts-requires : goal.ns_inserts-requires
ns_inserts-requires c =
    holder_some (record { which = modules; level = bind; list = ins_list c.requires.holds })
    _ c.names_place-p.ensures.nonzero c.names_place-p.ensures.found

pub loaded_module-requires : goal.loaded_module-requires
loaded_module-requires c =
    holder_some (record { which = modules; level = bind; list = ins_list c.requires.holds })
    _ c.names_place-p.ensures.nonzero c.names_place-p.ensures.found

pub symbol_row-row-requires : goal.symbol_row-row-requires
symbol_row-row-requires c =
    let holds = c.requires.holds in
    (holds.place.early, omega (arith, (ins_key holds).inside, holds.sound.text_fits, holds.sound.short))

pub names_insert-b-requires : goal.names_insert-b-requires
names_insert-b-requires c =
    ins_any c.requires.holds (placed_part _ _ c.names_place-p.ensures) c.ns_inserts.ensures
    c.if-last-ns_inserts.true c.loaded_module.ensures c.symbol_row-row.ensures

pub returns-then-last-ns_inserts : goal.returns-then-last-ns_inserts
returns-then-last-ns_inserts c used i =
    rw c.last.ensures (ins_made i (placed_part _ _ c.names_place-p.ensures) c.ns_inserts.ensures c.if-last-ns_inserts.true
    c.loaded_module.ensures c.symbol_row-row.ensures c.names_insert-b.ensures.value c.names_insert-b.ensures.names_inserts)

pub returns : goal.returns
returns c used i =
    ins_none i (placed_part _ _ c.names_place-p.ensures) c.ns_inserts.ensures c.if-last-ns_inserts.false
