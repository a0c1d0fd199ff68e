-- `last_end`: the text ends in a bracket.
use Rattle.std.proofs.Common.{[], ◌∷◌}
use Rattle.std.proofs.lemmas.Bool.Decides.{Decides-eqb}
use Rattle.std.proofs.lemmas.Slice.Eq.{strip_suffix_is}
use Rattle.script_decimal.specs.Bytes.{bytes}
use Rattle.script_parts.proofs.last_end.Goals as goal

pub returns : goal.returns
unfolding bytes
returns c =
    strip_suffix_is Decides-eqb c.args.s.now (93 ∷ []) c.strip_suffix.result c.strip_suffix.ensures.cases
