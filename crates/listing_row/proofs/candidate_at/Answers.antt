-- `candidate_at` meets its contract.
use mathlib.Core.Path.{◌∙◌}
use native.Mathlib.Omega.{arith}
use Rattle.listing_row.proofs.Rows.{word_in_row}
use Rattle.listing_row.proofs.candidate_at.Goals as goal

pub returns : goal.returns
returns c =
    rw (c.word_at.ensures ∙ word_in_row _ _ 1 (omega arith), c.word_at-2.ensures ∙ word_in_row _ _ 2 (omega arith))
