-- `merge_heads::cell_cmp` meets its contract.
use native.Mathlib.Omega.{arith}
use Rattle.merge_heads.proofs.Compare.{by_beginning, by_key, by_place}
use Rattle.merge_heads.proofs.cell_cmp.Goals as goal

pub returns-in-Equal : goal.returns-in-Equal
returns-in-Equal c =
    by_key _ _ c.args.cells.now _ _ _ _ c.then.ensures c.compare_keys.ensures
    (by_place _ _ c.requires.head.small c.requires.head_2.small _ _ c.difference.ensures c.cmp-place.ensures)

pub returns-in_default : goal.returns-in_default
returns-in_default c =
    by_beginning c.args.cells.now (λ j. omega (arith, c.type_inv.text j)) c.requires.head c.requires.head_2 _ c.cmp.ensures c.in_default.not-Equal
