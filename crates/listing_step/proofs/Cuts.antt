-- A query's first segment: what it asks, and the match length of what it takes.
use Prim.Native.Nat.{ℕ, suc, ◌+◌, ◌-◌, ◌≤◌, ◌<◌}
use mathlib.Core.Path.{◌≡◌, refl, sym, ap, ◌∙◌}
use mathlib.Core.Bool.{true}
use mathlib.Core.List.{[], ◌∷◌, nil≢cons}
use mathlib.Core.Option.{none, some}
use native.Mathlib.Omega.{arith}
use native.Mathlib.Numerals.{add-one}
use lib.IntN.{pos}
use lib.ListN.{length, take, drop, length-drop}
use lib.Seq.{length-take-le, take_all}
use borrow.Author.Tests.{ne_eqb}
use Rattle.source.specs.Calls.{signed_word}
use Rattle.source.specs.Text.{Str, Query, segments, ends_in_dot}
use Rattle.source.specs.Listing.{NSTNone, ns_search_term, bindings_search_term}
use Rattle.source.proofs.Paths.{match_length_skip, match_length_some, so_far_is}
use Rattle.text_query.specs.Queries.{before_dot}
use Rattle.text_query.proofs.Segments.{first_segment, before_inside}
use Rattle.find_list.specs.Entries.{by_prefix, by_all}
use Rattle.listing_output.specs.declared.Want.{Want}
use Rattle.listing_step.specs.declared.Cut.{Cut}
use Rattle.listing_step.specs.Steps.{Cuts}

signed_small : (m : ℕ) → m < 4294967295 → signed_word m ≡ pos m
unfolding signed_word
signed_small m h = rw (ne_eqb m 4294967295 (λ e. omega arith))

-- No segment left: an element that is not matched adds nothing.
pub cuts_none : (query : Str) (len : ℕ) (c : Cut) → length query ≡ 0 → c.prefix.now ≡ query → c.rest.now ≡ query
    → Cuts query len c.want c
unfolding segments ns_search_term bindings_search_term ends_in_dot
cuts_none [] len c e p r = record {
  len = 0;
  next = 0;
  within = omega arith;
  inside = omega arith;
  prefix_part = p;
  rest_part = r;
  ends = rw r;
  prefix_is = none;
  asks = rw p by_all;
  rest = rw r;
  last_one = λ h. refl;
  more = λ h. absurd (omega (arith, ap length r));
  steps = λ path l m el p. record { length_is = match_length_skip el path p ∙ m.length_is; all_matched = λ n. absurd (n refl) };
  told = λ h. h;
  ask_same = refl;
}
cuts_none (b ∷ s) len c e p r = absurd (omega arith)

no_rest : (s : Str) → length s ≡ 0 → segments s ≡ []
unfolding segments
no_rest [] e = refl
no_rest (b ∷ s) e = absurd (omega arith)

some_rest : (s : Str) → ends_in_dot s ≡ true → 0 < length s → (g : Str) × (q : Query) × (segments s ≡ g ∷ q)
some_rest s e h = let f = first_segment s (before_inside s e h) in (take (before_dot s) s, segments (drop (suc (before_dot s)) s), f.splits)

two : (s : Str) {r : Query} → (g : Str) × (q : Query) × (r ≡ g ∷ q) → bindings_search_term (s ∷ r) ≡ NSTNone
unfolding bindings_search_term
two s x = rw x.2

-- A segment: what it takes is matched.
pub cuts_some : (query : Str) (len : ℕ) (want : Want) (c : Cut) (k : ℕ) → ends_in_dot query ≡ true
    → (length query ≡ 0 → ⊥)
    → length query ≤ 544 → len ≤ 544
    → k ≡ before_dot query → c.prefix.now ≡ take k query → c.rest.now ≡ drop (k + 1) query
    → c.want.ask ≡ want.ask → c.want.matched ≡ pos (len + k) → Cuts query len want c
unfolding ns_search_term bindings_search_term
cuts_some query len want c k d n short small e ep er ea em =
    let inside = before_inside query d (omega arith) in
    let f = first_segment query inside in
    let split : segments query ≡ take k query ∷ segments (drop (k + 1) query) = rw (add-one k, e) f.splits in
    let left : length (drop (k + 1) query) ≡ length query - (k + 1) = length-drop (k + 1) query in
    record {
      len = k;
      next = k + 1;
      within = omega arith;
      inside = omega arith;
      prefix_part = ep;
      rest_part = er;
      ends = rw (er, add-one k, e) (f.ends ∙ d);
      prefix_is = some (take k query);
      asks = rw (ep, split) by_prefix;
      rest = rw (er, split);
      last_one = λ h. rw (split, no_rest (drop (k + 1) query) (omega (arith, ap length er))) refl;
      more = λ h. rw split
          (two (take k query)
          (some_rest (drop (k + 1) query) (rw (add-one k, e) (f.ends ∙ d)) (omega (arith, ap length er))));
      steps = λ path l g el p.
          record {
            length_is =
                match_length_some el path (take k query) p
                ∙ ap pos (let q : _ ≡ len + k = omega (
                  arith,
                  so_far_is path (g.all_matched (λ z. nil≢cons (sym z ∙ split))),
                  l,
                  length-take-le k query (omega arith),
                ) in q)
                ∙ sym em;
            all_matched = λ z. ((take k query, p), g.all_matched (λ z. nil≢cons (sym z ∙ split)));
          };
      told = λ h. rw em (signed_small (len + k) (omega arith));
      ask_same = ea;
    }

-- What `&s[n..]` holds.
pub back_is : (s : Str) (n : ℕ) → take (length s - n) (drop n s) ≡ drop n s
back_is s n = take_all (length s - n) (drop n s) (omega (arith, length-drop n s))
