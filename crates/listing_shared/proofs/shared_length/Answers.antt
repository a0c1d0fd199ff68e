-- `shared_length` meets its contract: what the first i candidates share is the front of the first.
use mathlib.Core.Path.{refl, sym, ap, ◌∙◌}
use native.Mathlib.Omega.{arith}
use Rattle.memory.specs.declared.Span.{Span}
use Rattle.listing_shared.proofs.Shared.{first_texts, first_length, narrowed_start, next_text, narrowed_next, narrowed_none, narrowed_end}
use Rattle.listing_shared.proofs.Shared.{none_seen}
use Rattle.listing_shared.proofs.shared_length.Goals as goal

pub returns-then-n-eq0 : goal.returns-then-n-eq0
returns-then-n-eq0 c =
    rw c.if-n-eq0.true (sym (none_seen _ _))

pub text_of-first-requires : goal.text_of-first-requires
text_of-first-requires c =
    rw c.candidate_at-candidate.ensures (first_texts c.requires (omega arith)).0

pub loop-i-init : goal.loop-i-init
loop-i-init c =
    rw c.candidate_at-candidate.ensures
    (narrowed_start c.requires (omega arith) (c.text_of-first.ensures ∙ rw c.candidate_at-candidate.ensures refl))

pub returns-then-shared-eq0 : goal.returns-then-shared-eq0
returns-then-shared-eq0 c =
    narrowed_none c.loop-i.invariant c.if-shared-eq0.true

pub text_of-next-requires : goal.text_of-next-requires
text_of-next-requires c =
    rw c.candidate_at.ensures (next_text c.loop-i.invariant (omega arith)).0

pub loop-i-preserved : goal.loop-i-preserved
loop-i-preserved c =
    narrowed_next c.loop-i.invariant (omega arith) (c.text_of-next.ensures ∙ rw c.candidate_at.ensures refl)
    c.string_compare-shared.ensures.agree

pub overflow_cast-result : goal.overflow_cast-result
overflow_cast-result c =
    omega (
      arith,
      c.loop-i.invariant.short,
      first_length c.requires (omega arith) (c.text_of-first.ensures ∙ rw c.candidate_at-candidate.ensures refl),
      ap (λ (sp : Span). sp.len) c.candidate_at-candidate.ensures,
    )

pub returns : goal.returns
returns c =
    narrowed_end c.loop-i.invariant (omega arith)
