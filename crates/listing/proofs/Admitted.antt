-- A query that is admitted ends in a dot and is no longer than a query may be.
use Prim.Native.Nat.{ℕ, zero, suc, ◌-◌, ◌*◌, ◌≤◌, ◌<◌}
use mathlib.Core.Path.{◌≡◌, ap, ◌∙◌}
use mathlib.Core.Bool.{true, false, not}
use mathlib.Core.List.{[], ◌∷◌}
use mathlib.Core.Option.{none}
use native.Mathlib.Omega.{arith}
use lib.Dec.{ltb}
use lib.ListN.{length, take, drop, length-drop}
use lib.Seq.{length-take-le}
use borrow.Author.Tests.{not-false, ltb-false}
use Rattle.source.specs.Text.{Str, segments, ends_in_dot}
use Rattle.source.specs.Calls.{a_completion, any, bad_query, long_query, malformed, too_long, first_row, argument_rows}
use Rattle.source.proofs.Queries.{or_parts}
use Rattle.source.proofs.Refusals.{Admitted, argument_rows_none}
use Rattle.text_query.specs.Queries.{before_dot}
use Rattle.text_query.proofs.Segments.{First, first_segment, before_inside}

-- Segments of at most 31 bytes, each with a dot.
abbrev Bounded : Str → Type 0
Bounded s = ends_in_dot s ≡ true → any (λ g. ltb 31 (length g)) (segments s) ≡ false → length s ≤ length (segments s) * 32

bounded_step : (n : ℕ) → ((s : Str) → length s ≤ n → Bounded s) → (s : Str) → length s ≤ suc n → Bounded s
unfolding any
bounded_step n ih [] h e a = omega arith
bounded_step n ih (b ∷ s) h e a =
    let k : ℕ = before_dot (b ∷ s) in
    let i : k < length (b ∷ s) = before_inside (b ∷ s) e (omega arith) in
    let f : First (b ∷ s) = first_segment (b ∷ s) i in
    let l : length (drop (suc k) (b ∷ s)) ≡ length (b ∷ s) - suc k = length-drop (suc k) (b ∷ s) in
    let p = or_parts (ltb 31 (length (take k (b ∷ s)))) _ (rw f.splits at a) in
    omega (
      arith,
      ih (drop (suc k) (b ∷ s)) (omega arith) (f.ends ∙ e) p.1,
      ap length f.splits,
      ltb-false 31 (length (take k (b ∷ s))) p.0,
      length-take-le k (b ∷ s) (omega arith),
    )

bounded : (n : ℕ) (s : Str) → length s ≤ n → Bounded s
bounded zero s h e a = omega arith
bounded (suc n) s h e a = bounded_step n (bounded n) s h e a

module _ (query : Str) (e : first_row (argument_rows true (a_completion query ∷ [])) ≡ none) where
  admitted : Admitted true (a_completion query ∷ [])
  admitted = argument_rows_none true _ e

  query_ends : ends_in_dot query ≡ true
  unfolding any malformed bad_query
  query_ends = not-false (ends_in_dot query) (or_parts (not (ends_in_dot query)) _ (or_parts _ false admitted.well_formed).0).0

  query_short : length query ≤ 544
  unfolding any too_long long_query
  query_short =
      let p = or_parts (any (λ g. ltb 31 (length g)) (segments query)) (ltb 17 (length (segments query))) (or_parts _ false admitted.short).0 in
      omega (arith, bounded (length query) query (omega arith) query_ends p.0, ltb-false 17 (length (segments query)) p.1)

  pub query_whole : (ends_in_dot query ≡ true) × (length query ≤ 544)
  query_whole = (query_ends, query_short)
