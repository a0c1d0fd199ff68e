-- `listing_output::write_line` meets its contract.
use Rattle.listing_output.proofs.Put.{line_put}
use mathlib.Core.Path.{ap, ◌∙◌}
use mir.Syntax.{w32}
use mir.ValLaws.{to_z-of_z}
use Rattle.listing_output.specs.Run.{length_word}
use native.Mathlib.Omega.{arith}
use Rattle.listing_output.proofs.write_line.Goals as goal

pub returns : goal.returns
returns c =
    line_put c.requires.job_ok c.requires.line_fits c.put_candidate-end.ensures c.put_text.ensures
    (c.length_word.ensures
    ∙ ap length_word (to_z-of_z w32 c.args.want.matched
    (record { sfits = omega arith }))) c.line_row-row.ensures
    c.store.ensures
