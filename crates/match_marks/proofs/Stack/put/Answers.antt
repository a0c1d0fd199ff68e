-- `put` leaves the link on the others, or alone.
use Rattle.match_marks.proofs.Marks.{put_beside, put_alone, none_out, first_out}
use Rattle.match_marks.proofs.Stack.put.Goals as goal
use Rattle.match_marks.proofs.Stack.put.Goals.{then-self, else-self}

pub returns-clause-links : goal.returns-clause-links
returns-clause-links g c =
    elim c.if-self.branch [
      | then-self w ↦ rw (w.self-inside-is, ← c.self.view_is)
          (put_alone c.self.inside.links c.self.told c.self.invariant.1 c.self.invariant.0 w.if-self.true c.args.link)
      | else-self w ↦ rw (w.self-inside-is, ← c.self.view_is)
          (put_beside c.self.inside.links c.self.told c.self.invariant.1 w.if-self.false c.args.link)
    ]

pub returns-clause-out : goal.returns-clause-out
returns-clause-out g c =
    elim c.if-self.branch [
      | then-self w ↦ rw (w.out-is, ← c.self.view_is)
          (first_out c.self.inside.links c.self.told c.self.invariant.1 c.self.invariant.0 w.if-self.true)
      | else-self w ↦ rw (w.out-is, ← c.self.view_is)
          (none_out c.self.inside.links c.self.told c.self.invariant.1 w.if-self.false)
    ]
