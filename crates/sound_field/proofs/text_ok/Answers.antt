-- `sound_field::text_ok` meets its contract.
use native.Mathlib.Omega.{arith}
use Rattle.text_query.specs.Queries.{byte_rule}
use Rattle.sound_field.proofs.TextOk.{says_text, text_long}
use Rattle.sound_field.proofs.text_ok.Goals as goal

pub returns-then-len-low : goal.returns-then-len-low
returns-then-len-low c r =
    omega (arith, (text_long c.requires r).0)

pub returns-then-high-len : goal.returns-then-high-len
returns-then-high-len c r =
    omega (arith, (text_long c.requires r).1)

pub returns : goal.returns
returns c =
    let a = c.args in
    says_text (byte_rule a.rule) a.low a.high c.all_allowed.result a.text.now a.used a.at.start a.at.len c.requires c.if-used-start.false
    c.if-len-low.false c.if-high-len.false c.all_allowed.ensures
