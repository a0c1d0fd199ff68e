-- What the functions on queries are proved against, beside the source's definitions.
use Rattle.std.specs.Prelude.{ℕ, suc, ◌+◌, ◌<◌, ◌≡◌, Bool, cond, [], ◌∷◌, eqb, length, take, drop}
use Rattle.source.specs.Text.{Str, dot, segments, ends_in_dot, name_byte, query_byte, path_byte}
use Rattle.text_query.specs.declared.Rule.{Rule}
use Rattle.text_query.specs.declared.Rule.TheVariants.{Name, Query, Path}
use Rattle.source.specs.Calls.{is_empty, any, bad_query, long_query}
use Rattle.text_query.specs.declared.Survey.{Survey}

-- The source's test that a rule stands for.
abbrev pub byte_rule : Rule → ℕ → Bool
byte_rule Name b = name_byte b
byte_rule Query b = query_byte b
byte_rule Path b = path_byte b

-- How many bytes stand before the first dot; all of them where there is none.
unfoldable pub before_dot : Str → ℕ
before_dot [] = 0
before_dot (b ∷ s) = cond (eqb b dot) 0 (suc (before_dot s))

-- The n bytes from at on are a segment, with a dot after them.
pub record Segment (s : Str) (at n : ℕ) : Type 0 where
  pub inside : at + n < length s
  pub splits : segments (drop at s) ≡ take n (drop at s) ∷ segments (drop (at + n + 1) s)
  pub ends : ends_in_dot (drop (at + n + 1) s) ≡ ends_in_dot (drop at s)

-- A survey tells of a query whether it is malformed, has an empty segment, is too long, and how many segments it has.
pub record Surveyed (s : Str) (r : Survey) : Type 0 where
  pub malformed : r.malformed ≡ bad_query s
  pub empty : r.empty ≡ any is_empty (segments s)
  pub long : r.long ≡ long_query s
  pub segments : r.segments ≡ length (segments s)
