-- `reply_all` meets its contract.
use Rattle.std.proofs.Common.{◌≡◌, true, sym, ◌∙◌, Result, Ok, Err, OnOk, rules}
use Rattle.std.specs.Result.{is_err}
use Rattle.console.proofs.Steady.{steady_start, steady_on, steady_rests}
use Rattle.console.proofs.reply_all.Goals as goal
use Rattle.console.proofs.reply_all.Goals.{then-is_err-via-then-is_err, then-is_err-via-else-is_err+then-not-r}

failed : {T E : Type 0} (P : Type 0) (r : Result T E) → is_err r ≡ true → OnOk r P
failed P (Ok x) h = cc
failed P (Err e) h = tt

held : {T E P : Type 0} (r : Result T E) → P → OnOk r P
held (Ok x) p = p
held (Err e) p = tt

pub loop-r-init : goal.loop-r-init
loop-r-init g c = steady_start _ _ _ c.requires.sound c.requires.inside

pub returns-then-is_err : goal.returns-then-is_err
returns-then-is_err g c =
    steady_rests (steady_on c.loop-r.invariant c.step-r.ensures (search rules) (search rules) (search rules))
    (elim c.then-is_err.branch [
      | then-is_err-via-then-is_err w ↦ failed _ c.put-written.result (sym c.is_err.ensures.value ∙ w.if-is_err.true)
      | then-is_err-via-else-is_err+then-not-r w ↦ held c.put-written.result (c.step-r.ensures.stops (search rules))
    ])

pub loop-r-preserved : goal.loop-r-preserved
loop-r-preserved g c =
    steady_on c.loop-r.invariant c.step-r.ensures (search rules) (search rules) (search rules)
