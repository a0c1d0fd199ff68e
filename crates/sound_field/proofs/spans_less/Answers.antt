-- `sound_field::spans_less` meets its contract.
use Rattle.memory.proofs.Pasted.{part_span}
use Rattle.sound_field.proofs.spans_less.Goals as goal

pub returns : goal.returns
returns c =
    let a = c.args in
    rw (← part_span a.text.now a.a.start a.a.len, ← part_span a.text.now a.b.start a.b.len) c.less.ensures
