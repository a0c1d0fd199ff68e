-- `sound_field::side_ok` meets its contract.
use native.Mathlib.Omega.{arith}
use Rattle.sound_field.proofs.Noted.{noted_upto}
use Rattle.sound_field.proofs.Far.{toward_falls, none_all, subtree_end, end_lent, says_end}
use Rattle.sound_field.proofs.side_ok.Goals as goal

pub returns-then-top-eq0 : goal.returns-then-top-eq0
returns-then-top-eq0 c w v e =
    none_all c.requires.subtree.before w v _ _ c.if-top-eq0.true

pub end_of-x-requires : goal.end_of-x-requires
end_of-x-requires c =
    let q = c.requires.subtree in
    record {
      some = omega arith;
      fits = omega (arith, q.link.earlier, q.before.fits);
      falls = rw c.other.ensures (toward_falls q.before c.args.side c.args.top q.link.earlier);
      noted = rw c.other.ensures (noted_upto c.requires.noted q.link.earlier);
    }

pub word_of-requires : goal.word_of-requires
word_of-requires c =
    let i = end_lent c.requires.subtree c.args.side c.if-top-eq0.false (rw c.other.ensures at c.end_of-x.ensures) in omega arith

pub word_of-requires-2 : goal.word_of-requires-2
word_of-requires-2 c =
    let i = end_lent c.requires.subtree c.args.side c.if-top-eq0.false (rw c.other.ensures at c.end_of-x.ensures) in omega arith

pub spans_less-requires : goal.spans_less-requires
spans_less-requires c =
    let pre = c.requires.subtree in
    let i = end_lent pre c.args.side c.if-top-eq0.false (rw c.other.ensures at c.end_of-x.ensures) in
    omega (arith, c.word_of.ensures, c.word_of-2.ensures, pre.inside, pre.before.text)

pub spans_less-requires-in-Right : goal.spans_less-requires-in-Right
spans_less-requires-in-Right c =
    let pre = c.requires.subtree in
    let i = end_lent pre c.args.side c.if-top-eq0.false (rw c.other.ensures at c.end_of-x.ensures) in
    omega (arith, c.word_of.ensures, c.word_of-2.ensures, pre.inside, pre.before.text)

pub returns-in-Left : goal.returns-in-Left
returns-in-Left c w v e =
    says_end c.spans_less.result (subtree_end c.requires.subtree c.args.side w v e c.if-top-eq0.false (rw c.other.ensures at c.end_of-x.ensures))
    (rw (c.in-Left.is, ← c.word_of.ensures, ← c.word_of-2.ensures) c.spans_less.ensures)

pub returns-in-Right : goal.returns-in-Right
returns-in-Right c w v e =
    says_end c.spans_less-in-Right.result (subtree_end c.requires.subtree c.args.side w v e c.if-top-eq0.false (rw c.other.ensures at c.end_of-x.ensures))
    (rw (c.in-Right.is, ← c.word_of.ensures, ← c.word_of-2.ensures) c.spans_less-in-Right.ensures)
