-- `find_list::names_place` meets its contract.
use mathlib.Core.Bool.{not}
use mathlib.Core.Path.{ap, ◌∙◌}
use native.Mathlib.Omega.{arith}
use Rattle.find_list.proofs.Collections.{list_light, any_rest}
use Rattle.find_list.proofs.NamesPlaced.{holder_first, holder_rest, names_placed}
use Rattle.memory.proofs.At.{at_fits}
use Rattle.find_list.proofs.names_place.Goals.{then-is_none, else-is_none}
use Rattle.find_list.proofs.names_place.Goals as goal

pub weight_of-requires : goal.weight_of-requires
weight_of-requires c =
    at_fits (any_rest c.requires c.lead_of-lead.ensures).list

pub overflow_add-result : goal.overflow_add-result
overflow_add-result c =
    omega (
      arith,
      c.weight_of.ensures,
      list_light (any_rest c.requires c.lead_of-lead.ensures).list,
    )

pub returns : goal.returns
returns c =
    let d = c.lead_of-lead.ensures in
    let p = c.place_of-place.ensures in
    let some = c.is_none.ensures in
    names_placed c.requires d p
    (elim c.if-is_none.branch [
      | then-is_none w ↦ rw w.holder-is w.names_find_exact-holder.ensures.nonzero
      | else-is_none w ↦ rw w.holder-is p.nonzero
    ])
    (elim c.if-is_none.branch [
      | then-is_none w ↦ rw w.holder-is
          (holder_rest d _ p.found (some ∙ ap not w.if-is_none.true) w.names_find_exact-holder.ensures.found)
      | else-is_none w ↦ rw w.holder-is (holder_first d _ p.found p.nonzero (some ∙ ap not w.if-is_none.false))
    ])
    (omega (arith, c.weight_of.ensures))
