-- string_compare meets its contract: what is left from i on says how the whole compares.
use Rattle.text.proofs.Texts.{Comparing}
use Rattle.text.proofs.string_compare.Given as goal

abbrev pub invariant-loop-i : goal.invariant-loop-i
invariant-loop-i l =
    Comparing l.a l.b l.i
