-- `asked` meets its contract.
use mathlib.Core.Path.{◌≡◌, refl, sym, ◌∙◌}
use mathlib.Core.Bool.{Bool, true, false, ◌||◌}
use Rattle.script_decimal.specs.Bytes.{bytes}
use Rattle.text.proofs.Texts.{equal_is}
use Rattle.console_streams.proofs.help.asked.Goals as goal

first : {a r : Bool} (b : Bool) → r ≡ a → r ≡ true → r ≡ a || b
first b e h = rw (sym e, h) refl

second : {a b r s : Bool} → s ≡ a → s ≡ false → r ≡ b → r ≡ a || b
second e h f = rw (sym e, h) f

pub returns-then-eq : goal.returns-then-eq
unfolding bytes
returns-then-eq c =
    first _ (rw c.as_slice.ensures at (c.eq.ensures ∙ equal_is c.args.arg.now c.as_slice.result.now)) c.if-eq.true

pub returns-else-eq : goal.returns-else-eq
unfolding bytes
returns-else-eq c =
    second (rw c.as_slice.ensures at (c.eq.ensures ∙ equal_is c.args.arg.now c.as_slice.result.now)) c.if-eq.false
    (rw c.as_slice-else-eq.ensures at (c.eq-else-eq.ensures ∙ equal_is c.args.arg.now c.as_slice-else-eq.result.now))
