-- allowed meets its contract: each rule is its test.
use Rattle.source.specs.Text.{query_byte, path_byte}
use Rattle.text_query.proofs.allowed.Goals as goal

pub returns-in-Query : goal.returns-in-Query
unfolding query_byte
returns-in-Query c =
    rw (c.in-Query.is, c.name_byte-in-Query.ensures)

pub returns-in-Path : goal.returns-in-Path
unfolding path_byte
returns-in-Path c =
    rw c.in-Path.is
