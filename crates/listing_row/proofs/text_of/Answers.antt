-- `text_of` meets its contract.
use Rattle.memory.proofs.Pasted.{part_span}
use Rattle.listing_row.proofs.text_of.Goals as goal

pub returns : goal.returns
returns c =
    let a = c.args in part_span a.text.now a.s.start a.s.len
