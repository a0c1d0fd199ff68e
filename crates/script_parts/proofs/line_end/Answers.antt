-- `line_end`: the line is the run of bytes that are no line feed.
use Rattle.script_parts.proofs.Parts.{line_ends}
use Rattle.script_parts.proofs.line_end.Goals as goal

pub returns : goal.returns
returns c =
    line_ends c.args.input.now c.run.result c.run.ensures
