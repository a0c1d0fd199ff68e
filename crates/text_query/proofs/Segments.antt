-- Laws of segments and ends-in-dot by before-dot: a query taken segment by segment, also from a position on.
use Prim.Native.Nat.{ℕ, suc, ◌+◌, ◌-◌, ◌≤◌, ◌<◌, min}
use mathlib.Core.Path.{◌≡◌, refl, sym, ap, ◌∙◌}
use mathlib.Core.Bool.{Bool, true, false, cond}
use mathlib.Core.List.{[], ◌∷◌}
use native.Mathlib.Omega.{arith}
use lib.Dec.{eqb, ltb}
use borrow.Author.Tests.{eq-eqb, ne_eqb, eqb-true, eqb-false, ltb-true, ltb-false}
use lib.ListN.{length, get_or, take, drop, length-drop, drop_of_length-le}
use lib.Seq.{drop-drop, take_all}
use Rattle.std.specs.Prelude.{Option, None, Some}
use Rattle.std.specs.Option.{unwrap_or}
use Rattle.std.specs.List.{position_or_len}
use Rattle.std.proofs.lemmas.List.Recursion.{is_position_or_len}
use Rattle.std.proofs.lemmas.List.Sums.{prefix_len-le-length}
use Rattle.source.specs.Text.{Str, dot, onto_first, segments, ends_in_dot}
use Rattle.text_query.specs.Queries.{before_dot}
use Rattle.source.proofs.Queries.{segments_dot, segments_other}
use Rattle.text.proofs.Texts.{drop_at, tail_is}
use Rattle.text_query.specs.Queries.{Segment}

-- ---- The last byte

ends_cons : (b : ℕ) (s : Str) → 0 < length s → ends_in_dot (b ∷ s) ≡ ends_in_dot s
unfolding ends_in_dot
ends_cons b [] h = absurd (omega arith)
ends_cons b (c ∷ s) h = refl

ends_dot : (b : ℕ) (s : Str) → eqb b dot ≡ true → ends_in_dot (b ∷ s) ≡ ends_in_dot s
unfolding ends_in_dot
ends_dot b [] e = e
ends_dot b (c ∷ s) e = refl

-- ---- The first segment

-- Of a text with a dot: its segments, and how it ends.
pub record First (s : Str) : Type 0 where
  pub splits : segments s ≡ take (before_dot s) s ∷ segments (drop (suc (before_dot s)) s)
  pub ends : ends_in_dot (drop (suc (before_dot s)) s) ≡ ends_in_dot s

first_cons : (b : ℕ) (s : Str) (test : Bool) → eqb b dot ≡ test → before_dot (b ∷ s) < suc (length s)
    → (before_dot s < length s → First s) → First (b ∷ s)
unfolding before_dot onto_first
first_cons b s true e h f = record { splits = rw (e, segments_dot b s e); ends = rw e (sym (ends_dot b s e)) }
first_cons b s false e h f =
    let k : before_dot s < length s = omega (arith, rw e at h) in
    record {
      splits = rw (e, segments_other b s e, (f k).splits);
      ends = rw e ((f k).ends ∙ sym (ends_cons b s (omega arith)));
    }

pub first_segment : (s : Str) → before_dot s < length s → First s
first_segment [] h = absurd (omega arith)
first_segment (b ∷ s) h = first_cons b s (eqb b dot) refl h (first_segment s)

-- A text that ends in a dot has one.
before_cons : (b : ℕ) (s : Str) → before_dot (b ∷ s) ≤ suc (before_dot s)
unfolding before_dot
before_cons b s = go (eqb b dot) (before_dot s)
  where
    go : (test : Bool) (n : ℕ) → cond test 0 (suc n) ≤ suc n
    go true n = omega arith
    go false n = omega arith

dotted : (b : ℕ) (s : Str) → ends_in_dot (b ∷ s) ≡ true → before_dot (b ∷ s) ≤ length s
unfolding ends_in_dot before_dot
dotted b [] e = rw e (omega arith)
dotted b (c ∷ s) e = omega (arith, before_cons b (c ∷ s), dotted c s e)

pub before_inside : (s : Str) → ends_in_dot s ≡ true → 0 < length s → before_dot s < length s
before_inside [] e h = absurd (omega arith)
before_inside (b ∷ s) e h = omega (arith, dotted b s e)

-- A text with no dot is one segment, and does not end in a dot.
no_dot_cons : (b : ℕ) (s : Str) → before_dot (b ∷ s) ≡ suc (length s) → (eqb b dot ≡ false) × (before_dot s ≡ length s)
unfolding before_dot
no_dot_cons b s = go (eqb b dot) (before_dot s) (length s)
  where
    go : (test : Bool) (n m : ℕ) → cond test 0 (suc n) ≡ suc m → (test ≡ false) × (n ≡ m)
    go true n m e = absurd (omega arith)
    go false n m e = (refl, omega arith)

whole : (b : ℕ) (s : Str) → before_dot s ≡ length s → onto_first b (segments s) ≡ (b ∷ s) ∷ []
unfolding segments onto_first
whole b [] e = refl
whole b (c ∷ s) e =
    let h : (eqb c dot ≡ false) × (before_dot s ≡ length s) = no_dot_cons c s e in
    rw (segments_other c s h.0, whole c s h.1)

pub no_dot : (s : Str) → 0 < length s → before_dot s ≡ length s → segments s ≡ s ∷ []
no_dot [] h e = absurd (omega arith)
no_dot (b ∷ s) h e = let k : (eqb b dot ≡ false) × (before_dot s ≡ length s) = no_dot_cons b s e in segments_other b s k.0 ∙ whole b s k.1

pub segment_undotted : (s : Str) → 0 < length s → before_dot s ≡ length s → ends_in_dot s ≡ false
segment_undotted s h e = go (ends_in_dot s) refl
  where
    go : (b : Bool) → ends_in_dot s ≡ b → b ≡ false
    go true d = absurd (omega (arith, before_inside s d h))
    go false d = refl

-- ---- From a position on

pub before_at_dot : (s : Str) (i : ℕ) → i < length s → get_or s i 0 ≡ dot → before_dot (drop i s) ≡ 0
unfolding before_dot
before_at_dot s i h e = rw (drop_at s i, eq-eqb (get_or s i 0) dot e)

pub before_at_other : (s : Str) (i : ℕ) → i < length s → (get_or s i 0 ≡ dot → ⊥)
    → before_dot (drop i s) ≡ suc (before_dot (drop (i + 1) s))
unfolding before_dot
before_at_other s i h n = rw (drop_at s i, ne_eqb (get_or s i 0) dot n)

pub before_end : (s : Str) (i : ℕ) → length s ≤ i → before_dot (drop i s) ≡ 0
unfolding before_dot
before_end s i h = rw (drop_of_length-le s h)

pub segments_end : (s : Str) (i : ℕ) → length s ≤ i → segments (drop i s) ≡ []
unfolding segments
segments_end s i h = rw (drop_of_length-le s h)

pub segment_at : (s : Str) (at n : ℕ) → n ≡ before_dot (drop at s) → at + n < length s → Segment s at n
segment_at s at n e h =
    let f : First (drop at s) = first_segment (drop at s) (omega (arith, length-drop at s)) in
    let j : at + suc (before_dot (drop at s)) ≡ at + n + 1 = omega arith in
    let k : drop (suc (before_dot (drop at s))) (drop at s) ≡ drop (at + n + 1) s = rw (drop-drop, j) in
    record { inside = h; splits = cc; ends = cc }

-- ---- The place of the first dot, as `position` tells it

pub before_is : (s : Str) → before_dot s ≡ position_or_len (λ b. eqb b dot) s
unfolding before_dot
before_is s = is_position_or_len before_dot (λ b. eqb b dot) refl (λ b t. ap (λ (n : ℕ). cond (eqb b dot) 0 n) (omega arith)) s

pub before_within : (s : Str) → before_dot s ≤ length s
before_within s = rw before_is (prefix_len-le-length _ s)

pub or_length : (s : Str) (r : ℕ) (o : Option ℕ)
    → o ≡ cond (ltb (position_or_len (λ b. eqb b dot) s) (length s)) (Some (position_or_len (λ b. eqb b dot) s)) None
    → r ≡ unwrap_or o (length s) → r ≡ before_dot s
or_length s r o e f = go (ltb (before_dot s) (length s)) refl (rw (← before_is s) at e)
  where
    go : (test : Bool) → ltb (before_dot s) (length s) ≡ test → o ≡ cond test (Some (before_dot s)) None
        → r ≡ before_dot s
    go true t k = rw k at f
    go false t k = omega (arith, rw k at f, before_within s, ltb-false _ _ t)

-- ---- The segments one after another

pub segments_none : (s : Str) → length s ≡ 0 → segments s ≡ []
segments_none s e = segments_end s 0 (omega arith)

-- The first segment is cut off, with its dot if it has one.
pub segments_cut : (s : Str) (n m : ℕ) → n ≡ before_dot s → m ≡ min (length s) (n + 1) → 0 < length s
    → segments s ≡ take n s ∷ segments (take (length s - m) (drop m s))
segments_cut s n m e f h = rw tail_is (by_end (ltb n (length s)) refl)
  where
    by_end : (test : Bool) → ltb n (length s) ≡ test → segments s ≡ take n s ∷ segments (drop m s)
    by_end true t =
        let k : m ≡ suc (before_dot s) = omega (arith, ltb-true _ _ t) in
        rw (e, k) (first_segment s (omega (arith, ltb-true _ _ t))).splits
    by_end false t =
        let k : n ≡ length s = omega (arith, ltb-false _ _ t, before_within s) in
        rw (k, take_all (length s) s (omega arith), segments_end s m (omega arith)) (no_dot s h (omega arith))

pub segments_some : (s : Str) → 0 < length s → 0 < length (segments s)
segments_some s h = rw (segments_cut s _ _ refl refl h) (omega arith)

-- No segment is left at the end only.
pub at_last : (s : Str) {b : Bool} → b ≡ eqb (length s) 0 → b ≡ true → segments s ≡ []
at_last s e f = segments_none s (eqb-true _ _ (sym e ∙ f))

pub before_last : (s : Str) {b : Bool} → b ≡ eqb (length s) 0 → b ≡ false → 0 < length (segments s)
before_last s e f = segments_some s (omega (arith, eqb-false _ _ (sym e ∙ f)))
