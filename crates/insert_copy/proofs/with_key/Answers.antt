-- with_key meets its contract.
use Rattle.insert_copy.specs.Copies.{with_key}
use Rattle.insert_copy.proofs.with_key.Goals as goal

pub returns : goal.returns
unfolding with_key
returns c =
    rw (c.word_of.ensures, c.text_len.ensures)
