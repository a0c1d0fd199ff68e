-- `word_end`: what `strip_prefix` tests byte by byte is one equation.
use Rattle.std.proofs.lemmas.Bool.Decides.{Decides-eqb}
use Rattle.std.proofs.lemmas.Slice.Eq.{strip_prefix_is}
use Rattle.script_parts.proofs.word_end.Goals as goal

pub returns : goal.returns
returns c =
    strip_prefix_is Decides-eqb c.args.s.now c.args.word.now c.strip_prefix.result c.strip_prefix.ensures.cases
