-- btree_insert_replace meets its contract: the new branches are put from the lowest up to the root.
use Rattle.insert_tree.proofs.Inserted.{insertion_key, insertion_builds, insertion_marked, insertion_tree, lowest_ok, lowest_risen, risen_ok}
use Rattle.insert_tree.proofs.Inserted.{rising_none, rising_up, all_risen}
use native.Mathlib.Omega.{arith}
use Rattle.insert_tree.proofs.btree_insert_replace.Goals as goal

pub slice_bounds-note_path-end : goal.slice_bounds-note_path-end
slice_bounds-note_path-end c =
    omega (arith, insertion_key c.requires.insertion)

pub note_path-requires : goal.note_path-requires
note_path-requires c =
    let insertion = c.requires.insertion in
    record {
      any_tree = insertion_tree insertion;
      builds = insertion_builds insertion;
      root_le_records = (omega (arith, insertion.link.earlier), insertion.room, insertion.few);
    }

pub lowest_row-low-requires : goal.lowest_row-low-requires
lowest_row-low-requires c =
    let insertion = c.requires.insertion in
    lowest_ok insertion (omega arith) (insertion_marked insertion c.note_path.ensures)

pub put_row-requires : goal.put_row-requires
put_row-requires c = (
  (lowest_ok c.requires.insertion (omega arith)
      (insertion_marked c.requires.insertion
      c.note_path.ensures)).room,
  omega arith,
)

pub overflow_add-total : goal.overflow_add-total
overflow_add-total c =
    omega (arith, c.requires.insertion.few)

pub loop-at-init : goal.loop-at-init
loop-at-init c =
    rising_none (lowest_risen
    c.requires.insertion (omega arith)
    (insertion_marked c.requires.insertion
    c.note_path.ensures)
    c.lowest_row-low.ensures c.put_row.ensures)

pub raised_row-next-requires : goal.raised_row-next-requires
raised_row-next-requires c =
    risen_ok c.loop-at.invariant.any.risen c.loop-at-test.true

pub put_row-requires-in-loop-at : goal.put_row-requires-in-loop-at
put_row-requires-in-loop-at c =
    ((risen_ok c.loop-at.invariant.any.risen c.loop-at-test.true).room, omega arith)

pub loop-at-preserved : goal.loop-at-preserved
loop-at-preserved c =
    rising_up c.loop-at.invariant c.loop-at-test.true c.raised_row-next.ensures c.put_row-in-loop-at.ensures

pub shape_of-words : goal.shape_of-words
shape_of-words c =
    (all_risen (c.loop-at.invariant.says _ _ _ _ _ _
    (lowest_risen (c.requires.insertion) (omega arith)
    (insertion_marked (c.requires.insertion) c.note_path.ensures)
    c.lowest_row-low.ensures c.put_row.ensures))
    c.loop-at-test.false).stays.size

pub returns : goal.returns
returns c =
    λ w v used g. all_risen (c.loop-at.invariant.says _ w v used _ _
    (lowest_risen g (omega arith) (insertion_marked g
    c.note_path.ensures)
    c.lowest_row-low.ensures c.put_row.ensures))
    c.loop-at-test.false
