-- What was written is the front of the text; at the end, all of it.
use Rattle.std.proofs.Common.{arith, ◌≡◌, ℕ, ◌+◌, ◌-◌, ◌≤◌, List, ◌++◌, length, take, drop, subst, sym, ap, ◌∙◌, take_all}
use Rattle.std.specs.Io.KnownBytes.{Appends}
use Rattle.std.proofs.KnownBytes.{Appends-nil, Appends-trans, Appends-kept}
use lib.Seq.{take-add, take-take}
use lib.ListN.{length-take, length-drop}
use Rattle.console_streams.proofs.put.Goals as goal
use Rattle.console_streams.proofs.put.Goals.{in-Ok, in-Err}

grows : (a n : ℕ) (xs : List ℕ) → n ≤ length (take (length xs - a) (drop a xs))
    → take a xs ++ take n (take (length xs - a) (drop a xs)) ≡ take (a + n) xs
grows a n xs fits =
    ap (λ l. take a xs ++ l) (take-take n (length xs - a) (drop a xs) (omega (arith, fits, length-take (length xs - a) (drop a xs)))) ∙ sym (take-add a n xs)

pub loop-init : goal.loop-init
loop-init g c = (omega arith, Appends-nil _)

pub loop-preserved : goal.loop-preserved
loop-preserved g c =
    let (inside, appended) = c.loop.invariant in
    elim c.match-write.branch [
      | in-Ok w ↦
          let fits = w.in-Ok.ensures.bound in
          let more = Appends-trans _ _ _ _ _ appended w.in-Ok.ensures.bytes in
          rw w.done-is (
            omega (arith, fits, length-take (length c.args.text.now - c.loop.done) (drop c.loop.done c.args.text.now), length-drop c.loop.done c.args.text.now),
            subst (Appends _ _) (grows c.loop.done w.in-Ok.got c.args.text.now fits) more,
          )
      | in-Err w ↦ rw w.done-is (inside, Appends-kept _ _ _ _ appended w.in-Err.ensures.bytes)
    ]

pub returns-clause-all : goal.returns-clause-all
returns-clause-all g c =
    let (inside, appended) = c.loop.invariant in
    subst (Appends _ _) (take_all c.loop.done c.args.text.now (omega arith)) appended
