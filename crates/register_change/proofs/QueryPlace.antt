-- A query in the text, segment by segment: what is passed, what is left, and the full name up to a segment.
use Prim.Native.Nat.{ℕ, zero, suc, ◌+◌, ◌-◌, ◌≤◌, ◌<◌}
use mathlib.Core.Path.{◌≡◌, refl, sym, ap, ◌∙◌}
use mathlib.Core.Bool.{Bool, true, false, cond}
use mathlib.Core.List.{List, [], ◌∷◌, ◌++◌, reverse_aux-eq, reverse-append, reverse-reverse}
use native.Mathlib.Omega.{arith}
use lib.Dec.{eqb}
use lib.ListN.{length, take, drop, drop_of_length-le}
use lib.Seq.{take-add, take-take, drop-drop, drop_at, length-take-le}
use Rattle.source.specs.Text.{Str, Query, dot, segments, ends_in_dot}
use Rattle.source.specs.Rules.{IsKey, IsFullName}
use Rattle.source.specs.Table.{name_of_revq}
use Rattle.source.specs.Shared.{Allˡ}
use Rattle.source.specs.Queries.{IsQuery}
use Rattle.source.proofs.Queries.{segments_append, string_is, name_of_revq_full_name}
use Rattle.text_query.specs.Queries.{before_dot}
use Rattle.text_query.specs.Queries.{Segment}
use Rattle.text_query.proofs.Segments.{segment_at, before_inside}
use Rattle.memory.proofs.Pasted.{span_length}
use Rattle.memory.specs.Layout.{span}
use Rattle.memory.specs.Sound.{TextOk}
use Rattle.register_change.specs.Changes.{between, passed, QueryPlace, SegmentCut}

-- ---- Parts of the text
pub span_join : (txt : List ℕ) (a b c : ℕ) → a ≤ b → b ≤ c
    → span txt a (c - a) ≡ span txt a (b - a) ++ span txt b (c - b)
unfolding span
span_join txt a b c h k =
    let e : c - a ≡ b - a + (c - b) = omega arith in
    let f : a + (b - a) ≡ b = omega arith in
    rw e (take-add (b - a) (c - b) (drop a txt) ∙ rw (drop-drop, f))

-- The dot after a segment is the last byte of a shorter text too.
before_take : (s : Str) (n : ℕ) → before_dot s ≤ n → before_dot (take (suc n) s) ≡ before_dot s
unfolding before_dot
before_take [] n h = refl
before_take (b ∷ s) n h = go (eqb b dot) n h (before_take s)
  where
    go : (test : Bool) (n : ℕ) → cond test 0 (suc (before_dot s)) ≤ n
        → ((m : ℕ) → before_dot s ≤ m → before_dot (take (suc m) s) ≡ before_dot s)
        → cond test 0 (suc (before_dot (take n s))) ≡ cond test 0 (suc (before_dot s))
    go true n h f = refl
    go false zero h f = absurd (omega arith)
    go false (suc n) h f = ap suc (f n (omega arith))

part_drop : (txt : List ℕ) (a b : ℕ) → a ≤ b → b ≤ length txt → drop a (take b txt) ≡ span txt a (b - a)
unfolding span
part_drop txt a b h k =
    let e : b ≡ a + (b - a) = omega arith in
    ap (λ (n : ℕ). drop a (take n txt)) e
    ∙ rw (take-add a (b - a) txt) (drop_at (take a txt) (take (b - a) (drop a txt)) a (length-take-le a txt (omega arith)))

-- The next segment, where n is what segment_length answers.
pub cut_in : (txt : List ℕ) (at end n : ℕ) → n ≡ before_dot (span txt at (end - at))
    → ends_in_dot (span txt at (end - at)) ≡ true → at < end → end ≤ length txt
    → SegmentCut txt at n end
unfolding segments span ends_in_dot
cut_in txt at end n e d h k =
    let i : at + n < end = omega (
      arith,
      before_inside (span txt at (end - at)) d (omega (arith, span_length txt at (end - at) (omega arith))),
      span_length txt at (end - at) (omega arith),
    ) in
    let whole : Segment (take end txt) at n =
    segment_at (take end txt) at n (rw (part_drop txt at end (omega arith) k) e) (omega (arith, length-take-le end txt k)) in
    let j : at + n + 1 - at ≡ suc n = omega arith in
    let short : span txt at (at + n + 1 - at) ≡ take (suc n) (span txt at (end - at)) = rw j (sym (take-take (suc n) (end - at) (drop at txt) (omega arith))) in
    let m : n ≡ before_dot (drop at (take (at + n + 1) txt)) =
    rw (part_drop txt at (at + n + 1) (omega arith) (omega arith), short, before_take (span txt at (end - at)) n (omega arith)) e in
    let first : Segment (take (at + n + 1) txt) at n =
    segment_at (take (at + n + 1) txt) at n m (omega (arith, length-take-le (at + n + 1) txt (omega arith))) in
    let none : drop (at + n + 1) (take (at + n + 1) txt) ≡ [] =
    drop_of_length-le (take (at + n + 1) txt) {i = at + n + 1} (omega (arith, length-take-le (at + n + 1) txt (omega arith))) in
    record {
      inside = i;
      alone = rw (
        part_drop txt at (at + n + 1) (omega arith) (omega arith),
        none,
        take-take n (at + n + 1 - at) (drop at txt) (omega arith),
      ) at first.splits;
      splits = rw (
        part_drop txt at end (omega arith) k,
        part_drop txt (at + n + 1) end (omega arith) k,
        take-take n (end - at) (drop at txt) (omega arith),
      ) at whole.splits;
      passes = sym (rw (part_drop txt at (at + n + 1) (omega arith) (omega arith), none) at first.ends);
      ends = rw (part_drop txt at end (omega arith) k, part_drop txt (at + n + 1) end (omega arith) k) at whole.ends
          ∙ d;
    }

-- The same, as the code cuts the text.
pub cut_part : (txt : List ℕ) (at end n : ℕ) → n ≡ before_dot (take (end - at) (drop at txt))
    → ends_in_dot (span txt at (end - at)) ≡ true → at < end → end ≤ length txt → SegmentCut txt at n end
unfolding span
cut_part = cut_in

-- ---- One segment on
module _ {txt : List ℕ} {used from at len end : ℕ} (p : QueryPlace txt used from at end)
    (c : SegmentCut txt at len end) where
  ends_append : (s t : Str) → ends_in_dot s ≡ true → ends_in_dot t ≡ true → ends_in_dot (s ++ t) ≡ true
  unfolding ends_in_dot
  ends_append [] t d e = e
  ends_append (b ∷ []) [] d e = d
  ends_append (b ∷ []) (x ∷ t) d e = e
  ends_append (b ∷ (y ∷ s)) t d e = ends_append (y ∷ s) t d e

  -- What is passed with the segment.
  joins : span txt from (at + len + 1 - from) ≡ span txt from (at - from) ++ span txt at (at + len + 1 - at)
  joins = span_join txt from at (at + len + 1) p.early (omega arith)

  between_next : between txt from (at + len + 1) ≡ between txt from at ++ (span txt at len ∷ [])
  between_next = rw joins (segments_append _ _ p.passes ∙ rw c.alone)

  pub place_next : QueryPlace txt used from (at + len + 1) end
  place_next = record {
    early = omega (arith, p.early);
    inside = omega (arith, c.inside);
    within = p.within;
    passes = rw joins (ends_append _ _ p.passes c.passes);
    ends = c.ends;
    query = p.query;
  }

  pub passed_next : passed txt from (at + len + 1) ≡ span txt at len ∷ passed txt from at
  passed_next = rw between_next (reverse-append (between txt from at) (span txt at len ∷ []))

  -- The whole query.
  whole_is : between txt from end ≡ between txt from at ++ (span txt at len ∷ between txt (at + len + 1) end)
  whole_is = rw (span_join txt from at end p.early p.inside) (segments_append _ _ p.passes ∙ rw c.splits)

  middle : (q : Query) (x : Str) (m : Query) → Allˡ IsKey (q ++ (x ∷ m)) → IsKey x
  middle [] x m a = a.0
  middle (y ∷ q) x m a = middle q x m a.1

  pub key_in : TextOk IsKey txt used at len
  key_in = record { inside = omega (arith, c.inside, p.within); keeps = middle (between txt from at) _ _ (rw whole_is at p.query.keys) }

  -- The full name down to the segment.
  pub full_name_is : used ≤ length txt
      → name_of_revq (span txt at len ∷ passed txt from at) ≡ span txt from (at + len - from)
  unfolding name_of_revq span
  full_name_is h =
      let e : at + len + 1 - from - 1 ≡ at + len - from = omega (arith, p.early) in
      rw (← passed_next, reverse-reverse (between txt from (at + len + 1)))
      (string_is (span txt from (at + len + 1 - from)) place_next.passes
      ∙ rw (span_length txt from (at + len + 1 - from) (omega (arith, p.early, p.within, c.inside)), e)
      (take-take (at + len - from) (at + len + 1 - from) (drop from txt) (omega arith)))

  pub full_name_in : used ≤ length txt → TextOk IsFullName txt used from (at + len - from)
  full_name_in h = record {
    inside = omega (arith, p.early, c.inside, p.within);
    keeps = rw (← full_name_is h) (name_of_revq_full_name (span txt at len) (passed txt from at) (between txt (at + len + 1) end)
        (rw (reverse_aux-eq, reverse-reverse, ← whole_is) p.query));
  }

-- The first place of a query.
pub place_first : {txt : List ℕ} {used at end : ℕ} → at ≤ end → end ≤ used → ends_in_dot (span txt at (end - at)) ≡ true
    → IsQuery (between txt at end) → QueryPlace txt used at at end
unfolding span ends_in_dot
place_first {at = at} h k d q =
    let z : at - at ≡ 0 = omega arith in
    record { early = omega arith; inside = h; within = k; passes = rw z; ends = d; query = q }
