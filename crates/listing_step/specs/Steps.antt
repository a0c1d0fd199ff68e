-- What the steps between two lists give: the cut of a query, the path, what is skipped.
use Rattle.std.specs.Prelude.{ℕ, ◌+◌, ◌<◌, ◌≤◌, ◌≡◌, Bool, true, false, ◌⊎◌, eqb, ℤ, length, get_or, take, drop}
use mathlib.Core.List.{List, [], ◌∷◌, reverse, tail}
use Rattle.std.proofs.Math.Option.{Option, some}
use Rattle.source.specs.Text.{Str, Query, segments, ends_in_dot}
use Rattle.source.specs.Trees.{PathElem}
use Rattle.source.specs.Listing.{PathOf, NSTNone, ns_search_term, bindings_search_term}
use Rattle.source.specs.Table.{match_length_of_path}
use Rattle.source.specs.Shared.{Allˡ}
use Rattle.source.specs.Forward.{base}
use Rattle.memory.specs.Layout.{record_at, text_len, pick}
use Rattle.find_list.specs.Entries.{Asks}
use Rattle.listing_output.specs.declared.run.Path.{Path}
use Rattle.listing_line.specs.Goes.{Past}
use Rattle.listing_output.specs.Run.{Told}
use Rattle.listing_output.specs.declared.run.Run.{Run}
use Rattle.listing_output.specs.declared.run.Tally.{Tally}
use Rattle.listing_output.specs.declared.Want.{Want}
use Rattle.listing_step.specs.declared.Before.{Before}
use Rattle.listing_step.specs.declared.Cut.{Cut}

-- ---- The place in the source's listing

-- The match length of a path; where segments are left each element was matched.
pub record Matching (path : PathOf) (q : Query) (m : ℤ) : Type 0 where
  pub length_is : match_length_of_path (reverse path) ≡ m
  pub all_matched : (q ≡ [] → ⊥) → Allˡ (λ el. (p : Str) × (el.segment.prefix ≡ some p)) path

-- The same of each path that an element with the prefix field o makes.
abbrev pub MatchingOn : (path : PathOf) (o : Option Str) (q : Query) (m : ℤ) → Type 0
MatchingOn path o q m = (el : PathElem) → el.segment.prefix ≡ o → Matching (el ∷ path) q m

-- Where a query is cut: before its first dot, and after it. An empty one has no segment.
pub record Cuts (query : Str) (base_len : ℕ) (want : Want) (c : Cut) : Type 0 where
  pub len : ℕ
  pub next : ℕ
  pub within : len ≤ next
  pub inside : next ≤ length query
  pub prefix_part : c.prefix.now ≡ take len query
  pub rest_part : c.rest.now ≡ drop next query
  pub ends : ends_in_dot c.rest.now ≡ true
  pub prefix_is : Option Str
  pub asks : Asks (ns_search_term (segments query)) c.prefix.now prefix_is
  pub rest : segments c.rest.now ≡ tail (segments query)
  pub last_one : length c.rest.now ≡ 0 → bindings_search_term (segments query) ≡ ns_search_term (segments query)
  pub more : 0 < length c.rest.now → bindings_search_term (segments query) ≡ NSTNone
  pub steps : (path : PathOf) → base_len ≡ length (base path) → Matching path (segments query) want.matched
      → MatchingOn path prefix_is (tail (segments query)) c.want.matched
  pub told : Told want.matched → Told c.want.matched
  pub ask_same : c.want.ask ≡ want.ask

-- Bindings are skipped only where more than one segment is left, or the tally is past the limits.
pub record Skips (run : Run) (rest : Str) (r : Bool) : Type 0 where
  pub when : r ≡ true → (0 < length rest) ⊎ Past run.limits run.tally.lines run.tally.bytes
  pub unless : r ≡ false → length rest ≡ 0

-- The tally with one more trie entered.
abbrev pub begun : Tally → Tally
begun τ = record { entered = τ.entered + 1; lines = τ.lines; bytes = τ.bytes }

-- What a path has before a namespace is entered.
abbrev pub before_of : Path → Before
before_of p = record { n = p.n; len = p.len; label = p.label }

-- The path with that again.
abbrev pub left : Path → Before → Path
left p b = record { links = p.links; n = b.n; len = b.len; label = b.label }

-- The path p with one more branch.
pub record PathDown (ws : List ℕ) (p : Path) (branch label : ℕ) (r : Path) : Type 0 where
  pub before : (j : ℕ) → j < p.n → get_or r.links j 0 ≡ get_or p.links j 0
  pub last : get_or r.links p.n 0 ≡ branch
  pub count : r.n ≡ p.n + 1
  pub len_is : r.len ≡ p.len + text_len (record_at ws branch) + 1
  pub label_is : r.label ≡ pick (eqb p.n 0) label p.label
