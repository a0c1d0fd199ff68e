-- `row_at` meets its contract.
use mathlib.Core.Path.{ap, ◌∙◌}
use Rattle.memory.specs.Layout.{record_at}
use Rattle.listing_ask.specs.Ask.{asked}
use Rattle.listing_row.specs.Rows.{row_in}
use Rattle.listing_row.proofs.Rows.{part_words, one_record}
use Rattle.listing_row.proofs.row_at.Goals as goal

pub returns : goal.returns
returns c =
    let a = c.args in
    c.row_in.ensures
    ∙ ap (row_in (asked a.ask)) (ap (λ r. record_at r 1) c.words_of-words.ensures ∙ one_record _ ∙ part_words a.flat.now a.k)
