-- `listing_line::put_line` meets its contract.
use native.Mathlib.Omega.{arith}
use Rattle.listing_line.proofs.Lines.{counts_kept, line_counted}
use Rattle.listing_line.proofs.Run.{same_tally}
use Rattle.listing_line.proofs.put_line.Goals as goal

pub returns : goal.returns
returns c =
    record {
      same_path = same_tally _ _;
      put_line = line_counted c.requires.job_ok
          (counts_kept (omega (arith, c.text_len.ensures)) c.add-run.ensures c.add-run-2.ensures) c.try_line.ensures;
    }
