-- Keys past a bound, and how those that begin with a prefix stand among them.
use Prim.Native.Nat.{Ordering}
use mathlib.Core.Path.{◌≡◌, refl, sym, ap, ◌∙◌}
use mathlib.Core.Bool.{Bool, true, false, true≢false, false≢true}
use Rattle.source.specs.Text.{Str, string_compare, starts_with}
use Rattle.source.specs.Rules.{◌<ˢ◌}
use Rattle.source.proofs.Order.{View, compare_strings, <ˢ_irrefl, <ˢ_trans, starts_self}
use Rattle.source.proofs.Trees.{before_prefix, past_prefix}
use Rattle.find_tree.specs.Links.{past_by, past}

-- By cases on how two texts compare.
pub by_order : {G : Type 0} (s t : Str) → (string_compare s t ≡ Ordering.lt → s <ˢ t → G)
    → (string_compare s t ≡ Ordering.eq → s ≡ t → G) → (string_compare s t ≡ Ordering.gt → t <ˢ s → G) → G
by_order {G} s t f g h = go (string_compare s t) refl (compare_strings s t)
  where
    go : (o : Ordering) → string_compare s t ≡ o → View s t o → G
    go Ordering.lt e v = f e v
    go Ordering.eq e v = g e v
    go Ordering.gt e v = h e v

-- ---- What is past a bound

pub past_is : (strict : Bool) (low k : Str) {o : Ordering} → o ≡ string_compare low k
    → past_by strict o ≡ past strict low k
unfolding past
past_is strict low k e = ap (past_by strict) e

pub past_low : (strict : Bool) (low z : Str) → z <ˢ low → past strict low z ≡ false
unfolding past past_by
past_low strict low z h =
    by_order low z (λ e v. absurd (<ˢ_irrefl z (<ˢ_trans z low z h v))) (λ e v. absurd (<ˢ_irrefl z (rw v at h))) (λ e v. rw e)

pub past_after : (strict : Bool) (low z : Str) → low <ˢ z → past strict low z ≡ true
unfolding past past_by
past_after strict low z h =
    by_order low z (λ e v. rw e) (λ e v. absurd (<ˢ_irrefl z (rw v at h))) (λ e v. absurd (<ˢ_irrefl low (<ˢ_trans low z low h v)))

-- What is after a key that is past is past.
pub past_up : (strict : Bool) (low k z : Str) → past strict low k ≡ true → k <ˢ z → past strict low z ≡ true
unfolding past past_by
past_up strict low k z e h =
    by_order low k (λ o v. past_after strict low z (<ˢ_trans low k z v h)) (λ o v. past_after strict low z (rw v h)) (λ o v. absurd (false≢true (rw o at e)))

-- What is before a key that is not past is not past.
pub past_down : (strict : Bool) (low k z : Str) → past strict low k ≡ false → z <ˢ k → past strict low z ≡ false
unfolding past past_by
past_down strict low k z e h =
    by_order low k (λ o v. absurd (true≢false (rw o at e))) (λ o v. past_low strict low z (rw v h)) (λ o v. past_low strict low z (<ˢ_trans z k low h v))

pub past_true : (k z : Str) → past true k z ≡ true → k <ˢ z
unfolding past past_by
past_true k z q = by_order k z (λ e v. v) (λ e v. absurd (true≢false (sym (rw e at q)))) (λ e v. absurd (true≢false (sym (rw e at q))))

pub past_self : (k : Str) → past true k k ≡ false
unfolding past past_by
past_self k = by_order k k (λ e v. absurd (<ˢ_irrefl k v)) (λ e v. rw e) (λ e v. rw e)

-- ---- Keys that begin with a prefix

-- A key that begins with p is past it.
pub prefix_past : (p k : Str) → starts_with k p ≡ true → past false p k ≡ true
unfolding past past_by
prefix_past p k s = by_order p k (λ o v. rw o) (λ o v. rw o) (λ o v. absurd (false≢true (sym (before_prefix k p v) ∙ s)))

-- A key past a bound that begins with p is past p.
pub past_of_prefix : (strict : Bool) (low p k : Str) → starts_with low p ≡ true → past strict low k ≡ true
    → past false p k ≡ true
unfolding past past_by
past_of_prefix strict low p k s e =
    by_order p k
    (λ o v. rw o)
    (λ o v. rw o)
    (λ o v. by_order p low
    (λ o' u. absurd (false≢true (sym (past_low strict low k (<ˢ_trans k p low v u)) ∙ e)))
    (λ o' u. absurd (false≢true (sym (past_low strict low k (rw (sym u) v)) ∙ e)))
    (λ o' u. absurd (false≢true (sym (before_prefix low p u) ∙ s))))

-- What is after a key past p that does not begin with p does not begin with p.
pub past_begun : (p k z : Str) → past false p k ≡ true → starts_with k p ≡ false → k <ˢ z → starts_with z p ≡ false
unfolding past past_by
past_begun p k z e f h =
    by_order p k
    (λ o v. past_prefix k z p v f h)
    (λ o v. absurd (true≢false (sym (starts_self k) ∙ rw v at f)))
    (λ o v. absurd (false≢true (rw o at e)))
