-- name_byte meets its contract: the code is the definition.
use mathlib.Core.Path.{refl}
use Rattle.source.specs.Text.{name_byte}
use Rattle.text_query.proofs.name_byte.Goals as goal

pub returns : goal.returns
unfolding name_byte
returns c =
    refl
