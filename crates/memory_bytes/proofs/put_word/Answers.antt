-- put_word meets its contract.
use native.Mathlib.Omega.{arith}
use Rattle.memory_bytes.proofs.Bytes.{word_put}
use Rattle.memory_bytes.proofs.put_word.Goals as goal

pub returns : goal.returns
returns c =
    word_put c.args.bytes.now c.args.k _ _ _ _ c.requires c.args.word c.low.ensures c.low-2.ensures c.low-3.ensures
    (omega (arith, c.low-4.ensures))
