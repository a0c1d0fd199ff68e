-- segment_length meets its contract: the place of the first dot.
use lib.Dec.{eqb}
use Rattle.std.proofs.Common.{rules, tests}
use Rattle.std.proofs.lemmas.Iterator.{YieldsList-from_slice}
use Rattle.std.proofs.lemmas.Iterator.Search.{position_from_yields_List}
use Rattle.source.specs.Text.{dot}
use Rattle.text_query.proofs.Segments.{or_length}
use Rattle.text_query.proofs.segment_length.Goals as goal

pub returns : goal.returns
returns c =
    or_length _ _ _
    (position_from_yields_List (λ b. eqb b dot) _ _ _ c.position.ensures.ran (YieldsList-from_slice c.args.s.now cc) (λ x b q k. search (rules, tests)))
    c.unwrap_or.ensures
