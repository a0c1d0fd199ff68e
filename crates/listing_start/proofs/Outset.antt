-- At the root no element was matched: the match length is -1.
use mathlib.Core.List.{[]}
use lib.IntN.{negsuc}
use Rattle.source.specs.Text.{Query}
use Rattle.source.proofs.Paths.{match_length_none}
use Rattle.listing_step.specs.Steps.{Matching}

pub root_matching : (q : Query) → Matching [] q (negsuc 0)
root_matching q = record { length_is = match_length_none [] tt; all_matched = λ n. tt }
