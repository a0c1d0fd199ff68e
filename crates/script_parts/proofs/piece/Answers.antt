-- `piece`: the run is the part, where `close` follows it.
use Rattle.std.proofs.Common.{arith, ap, ◌∙◌, take, drop}
use Rattle.script_parts.proofs.Runs.{run_le}
use Rattle.script_parts.proofs.Parts.{piece_yes, piece_no}
use Rattle.script_parts.proofs.piece.Goals as goal

pub split_at-requires : goal.split_at-requires
split_at-requires c = omega (arith, c.run.ensures, run_le c.args.sort c.args.s.now)

pub returns-in_err-rest : goal.returns-in_err-rest
returns-in_err-rest c =
    rw c.from_residual.ensures
    (piece_no c.requires (c.split_at.ensures.back ∙ ap (λ n. drop n c.args.s.now) c.run.ensures) c.in_err-rest.ensures)

pub returns : goal.returns
returns c =
    let s = c.split_at.ensures in
    piece_yes (s.front ∙ ap (λ n. take n c.args.s.now) c.run.ensures) (s.back ∙ ap (λ n. drop n c.args.s.now) c.run.ensures)
    c.in_ok-rest.ensures
