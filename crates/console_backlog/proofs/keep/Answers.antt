-- `keep` meets its contract.
use Rattle.std.proofs.Common.{◌≡◌, ◌+◌, ◌-◌, ℕ, ◌++◌, take, drop, ap₂, ◌∙◌, arith}
use Rattle.console_backlog.proofs.keep.Goals as goal

pub returns : goal.returns
returns c =
    let input = c.args.input.now in
    let n = c.min-n.result in
    let copied : c.args.from + n - c.args.from ≡ n = omega arith in
    let rest : 0 + (c.args.from + n - c.args.from) ≡ n = omega arith in
    record {
      size = c.min-n.ensures;
      is = c.copy_within.ensures.after ∙ ap₂ (λ (i j : ℕ). take i (drop c.args.from input) ++ drop j input) copied rest;
    }
