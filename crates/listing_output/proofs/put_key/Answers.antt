-- `listing_output::put_key` meets its contract.
use mathlib.Core.Path.{ap}
use lib.ListN.{length}
use native.Mathlib.Omega.{arith}
use Rattle.text.proofs.Laid.{lent_laid, room_left}
use Rattle.listing_output.proofs.Texts.{text_laid}
use Rattle.listing_output.proofs.put_key.Goals as goal

pub returns : goal.returns
returns c =
    lent_laid c.args.at (omega (arith, c.requires.branch_in_bounds))
    (text_laid (ap length c.key_of-key.ensures) (room_left c.args.out.now c.args.at _ c.requires.branch_in_bounds) c.key_of-key.ensures
    c.put_text.ensures)
