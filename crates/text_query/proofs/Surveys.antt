-- What a survey knows of a query at a position, and how a byte and the end add to it.
use Prim.Native.Nat.{ℕ, suc, ◌+◌, ◌-◌, ◌≤◌, ◌<◌}
use mathlib.Core.Path.{◌≡◌, refl, sym, ap, ◌∙◌}
use mathlib.Core.Bool.{Bool, true, false, ◌&&◌, ◌||◌, not, and-true, or_assoc, or-false}
use mathlib.Core.List.{List, [], ◌∷◌}
use native.Mathlib.Omega.{arith}
use lib.Dec.{eqb, ltb}
use borrow.Author.Tests.{ne_eqb}
use lib.ListN.{length, get_or, take, drop, length-drop, length-take, drop_of_length-le}
use Rattle.source.specs.Text.{Str, Query, dot, segments, ends_in_dot, name_byte, query_byte}
use Rattle.source.specs.Calls.{is_empty, any, bad_query, long_query}
use Rattle.text_query.specs.Queries.{before_dot}
use Rattle.text_query.specs.Queries.{Surveyed}
use Rattle.text.proofs.Texts.{other_byte, Passing, pass_byte, pass_end}
use Rattle.text_query.specs.Queries.{Segment}
use Rattle.text_query.proofs.Segments.{before_at_dot, before_at_other, before_end, no_dot, segment_undotted, segments_end, segment_at}

abbrev over : Str → Bool
over g = ltb 31 (length g)

-- The segments before start are counted and tested, and the bytes before i are.
pub record Surveying (s : Str) (ok empty long : Bool) (n start i : ℕ) : Type 0 where
  pub passing : Passing query_byte s ok i
  pub begun : start ≤ i
  pub few : n ≤ start
  pub ends : ends_in_dot (drop start s) ≡ ends_in_dot s
  pub empties : any is_empty (segments s) ≡ empty || any is_empty (segments (drop start s))
  pub longs : any over (segments s) ≡ long || any over (segments (drop start s))
  pub count : length (segments s) ≡ n + length (segments (drop start s))
  pub scanned : before_dot (drop start s) ≡ i - start + before_dot (drop i s)

-- One segment more is tested.
any_more : (p : Str → Bool) (b test : Bool) (q : Query) {r rest : Query} {g : Str} → any p q ≡ b || any p r
    → r ≡ g ∷ rest
    → p g ≡ test → any p q ≡ (b || test) || any p rest
unfolding any
any_more p b test q {rest = rest} h e k = h ∙ rw (e, k) (sym (or_assoc b test (any p rest)))

pub empty_length : {A : Type 0} (g : List A) → is_empty g ≡ eqb (length g) 0
unfolding is_empty
empty_length [] = refl
empty_length (b ∷ g) = sym (ne_eqb (suc (length g)) 0 (omega arith))

module _ {s : Str} {o e test : Bool} {n a i : ℕ} (f : Surveying s o e test n a i) where
  -- The segment from start to i is tested.
  tested : {g : Str} {rest : Query} → segments (drop a s) ≡ g ∷ rest → length g ≡ i - a
      → (any is_empty (segments s) ≡ (e || eqb (i - a) 0) || any is_empty rest)
      × (any over (segments s) ≡ (test || ltb 31 (i - a)) || any over rest)
  tested {g} x k = (
    any_more is_empty e (eqb (i - a) 0) (segments s) f.empties x (empty_length g ∙ ap (λ (j : ℕ). eqb j 0) k),
    any_more over test (ltb 31 (i - a)) (segments s) f.longs x (ap (ltb 31) k),
  )

  pub survey_dot : i < length s → get_or s i 0 ≡ dot
      → Surveying s o (e || eqb (i - a) 0) (test || ltb 31 (i - a)) (n + 1) (i + 1) (i + 1)
  unfolding query_byte name_byte
  survey_dot h d =
      let g : Segment s a (i - a) = segment_at s a (i - a) (omega (arith, before_at_dot s i h d)) (omega arith) in
      let j : a + (i - a) + 1 ≡ i + 1 = omega arith in
      let k : length (take (i - a) (drop a s)) ≡ i - a = simp (length-take, length-drop) (omega arith) in
      let x : segments (drop a s) ≡ take (i - a) (drop a s) ∷ segments (drop (i + 1) s) = rw j at g.splits in
      record {
        passing = rw and-true at (pass_byte f.passing h (ap query_byte (sym d)));
        begun = omega arith;
        few = omega arith;
        ends = rw (← j) (g.ends ∙ f.ends);
        empties = (tested x k).0;
        longs = (tested x k).1;
        count = omega (arith, ap length x);
        scanned = omega arith;
      }

  pub survey_byte : i < length s → (get_or s i 0 ≡ dot → ⊥) → {b : Bool} → b ≡ name_byte (get_or s i 0)
      → Surveying s (o && b) e test n a (i + 1)
  survey_byte h d k =
      record {
        passing = pass_byte f.passing h (k ∙ sym (other_byte (get_or s i 0) d));
        begun = omega arith;
        few = f.few;
        ends = f.ends;
        empties = f.empties;
        longs = f.longs;
        count = f.count;
        scanned = omega (arith, before_at_other s i h d);
      }

  -- The last segment has no dot.
  pub survey_open : length s ≤ i → a < length s
      → Surveyed s (record { malformed = true; empty = e; long = test || ltb 31 (length s - a) || ltb 17 (n + 1); segments = n + 1 })
  unfolding bad_query long_query any
  survey_open h k =
      let j : length (drop a s) ≡ i - a = simp length-drop (omega arith) in
      let z : i - a ≡ length s - a = omega arith in
      let b : before_dot (drop a s) ≡ length (drop a s) = omega (arith, before_end s i h) in
      let x : segments (drop a s) ≡ drop a s ∷ [] = no_dot (drop a s) (omega arith) b in
      let w : ends_in_dot s ≡ false = sym f.ends ∙ segment_undotted (drop a s) (omega arith) b in
      let c : length (segments s) ≡ n + 1 = omega (arith, ap length x) in
      record {
        malformed = rw w;
        empty = rw ((tested x j).0, ne_eqb (i - a) 0 (omega arith)) (simp or-false);
        long = rw ((tested x j).1, z, c) (simp or-false);
        segments = sym c;
      }

  -- The last byte is a dot, or there is none.
  pub survey_closed : length s ≤ i → length s ≤ a
      → Surveyed s (record { malformed = not o; empty = e; long = test || ltb 17 n; segments = n })
  unfolding bad_query long_query any ends_in_dot
  survey_closed h k =
      let x : segments (drop a s) ≡ [] = segments_end s a k in
      let w : ends_in_dot s ≡ true = sym f.ends ∙ ap ends_in_dot (drop_of_length-le s k) in
      let c : length (segments s) ≡ n = omega (arith, ap length x) in
      record {
        malformed = rw (w, ← pass_end f.passing h);
        empty = rw (f.empties, x) (simp or-false);
        long = rw (f.longs, x, c) (simp or-false);
        segments = sym c;
      }
