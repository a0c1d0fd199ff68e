-- `key_of` answers by its definition.
use Rattle.script.specs.Keys.{key_of}
use Rattle.script.proofs.key_of.Goals as goal

pub returns : goal.returns
unfolding key_of
returns c =
    rw (← c.byte_at.ensures, ← c.byte_at-2.ensures, ← c.byte_at-3.ensures) c.key_by.ensures
