-- put_note meets its contract: only the first two words of the record change.
use Prim.Native.Nat.{◌*◌}
use lib.ListN.{length-set}
use Rattle.insert_tree.proofs.Changed.{note_put}
use native.Mathlib.Omega.{arith}
use Rattle.insert_tree.proofs.put_note.Goals as goal

pub bounds-words-base-2 : goal.bounds-words-base-2
bounds-words-base-2 c =
    omega (arith, length-set c.args.words.now (c.args.at * 12) c.args.link)

pub returns : goal.returns
returns c =
    note_put c.args.words.now c.args.at c.args.link c.args.side c.requires
