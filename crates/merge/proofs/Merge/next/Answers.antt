-- `merge::Merge::next` meets its contract. The loop passes over cells with the key of the last entry; the measure is how many branches the cells have left.
use mathlib.Core.Path.{◌≡◌, sym, ◌∙◌}
use mathlib.Core.Bool.{false, true≢false}
use Prim.Native.Nat.{ℕ}
use Rattle.std.proofs.Common.{Some}
use Rattle.std.proofs.lemmas.Option.{none-some, same_Some}
use Rattle.source.specs.Shared.{same}
use Rattle.memory.specs.Layout.{key_at}
use Rattle.merge.specs.Stream.{state_of}
use Rattle.merge.proofs.Steps.{all_ready, all_end, all_fewer, all_branch, all_last, all_on, all_gives, passing_label}
use Rattle.merge.proofs.Merge.next.Goals as goal
use Rattle.merge.proofs.Merge.next.Goals.{in-Some-last, in-None}

pub take-requires : goal.take-requires
take-requires c =
    all_ready c.loop-given.invariant c.requires

pub same_key-again-requires-clause-a_nonzero : goal.same_key-again-requires-clause-a_nonzero
same_key-again-requires-clause-a_nonzero c =
    all_branch c.loop-given.invariant c.requires (rw c.in-Some.is at c.take.ensures)

pub same_key-again-requires-clause-b_nonzero : goal.same_key-again-requires-clause-b_nonzero
same_key-again-requires-clause-b_nonzero c =
    all_last c.loop-given.invariant c.requires (rw c.in-Some.is at c.take.ensures) c.in-Some-last.is

pub returns-then-not-again-clause-gives : goal.returns-then-not-again-clause-gives
returns-then-not-again-clause-gives c =
    let words = c.args.words.now in
    let text = c.args.text.now in
    let new : (l : ℕ) → c.take.new.self.last ≡ Some l
    → same (key_at words text c.in-Some.given.branch) (key_at words text l) ≡ false =
    elim c.match-self.branch [
      | in-Some-last w ↦ λ l e. rw (same_Some w.in-Some-last.last l (sym w.in-Some-last.is ∙ e)) at
          (sym w.same_key-again.ensures ∙ sym w.again-is ∙ c.if-not-again.true)
      | in-None w ↦ λ l e. absurd (none-some l (sym w.in-None.is ∙ e))
    ] in
    all_gives c.loop-given.invariant (rw c.in-Some.is at c.take.ensures) new

pub returns-then-not-again-clause-label_is : goal.returns-then-not-again-clause-label_is
returns-then-not-again-clause-label_is c =
    passing_label c.loop-given.invariant (rw c.in-Some.is at c.take.ensures)

pub returns-then-not-again-clause-n_stays : goal.returns-then-not-again-clause-n_stays
returns-then-not-again-clause-n_stays c =
    c.take.ensures.n_stays ∙ c.loop-given.invariant.n_stays

pub returns-then-not-again-clause-labels_stay : goal.returns-then-not-again-clause-labels_stay
returns-then-not-again-clause-labels_stay c =
    c.take.ensures.labels_stay ∙ c.loop-given.invariant.labels_stay

pub loop-given-smaller : goal.loop-given-smaller
loop-given-smaller c =
    all_fewer c.loop-given.invariant c.requires (rw c.in-Some.is at c.take.ensures)

pub loop-given-preserved : goal.loop-given-preserved
loop-given-preserved c =
    elim c.match-self.branch [
      | in-Some-last w ↦
          all_on c.loop-given.invariant (rw c.in-Some.is at c.take.ensures)
          (all_fewer c.loop-given.invariant c.requires (rw c.in-Some.is at c.take.ensures)) w.in-Some-last.is
          (sym w.same_key-again.ensures ∙ sym w.again-is ∙ c.if-not-again.false)
      | in-None w ↦ absurd (true≢false (sym c.if-not-again.false ∙ w.again-is))
    ]

pub returns-clause-gives : goal.returns-clause-gives
returns-clause-gives c =
    all_end c.loop-given.invariant (state_of c.take.new.self) (rw c.in_default.is at c.take.ensures)

pub returns-clause-n_stays : goal.returns-clause-n_stays
returns-clause-n_stays c =
    c.take.ensures.n_stays ∙ c.loop-given.invariant.n_stays

pub returns-clause-labels_stay : goal.returns-clause-labels_stay
returns-clause-labels_stay c =
    c.take.ensures.labels_stay ∙ c.loop-given.invariant.labels_stay

pub returns-clause-last_is : goal.returns-clause-last_is
returns-clause-last_is c =
    c.take.ensures.last_is ∙ c.loop-given.invariant.last_is
