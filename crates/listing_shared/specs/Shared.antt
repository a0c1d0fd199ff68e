-- The candidates of rows that stand in the lent output, and what they share.
use Rattle.std.specs.Prelude.{ℕ, ◌+◌, ◌*◌, ◌≤◌, List, map, length}
use Rattle.source.specs.Text.{string_length}
use Rattle.source.specs.Calls.{shared_beginning}
use Rattle.source.specs.Shared.{Allˡ}
use Rattle.listing_output.specs.Output.{line_bytes, candidate_start, candidate_len}
use Rattle.listing_row.specs.Rows.{words_from, candidate_seen}

-- The candidate of a row lies in the output text.
abbrev pub CandidateIn : List ℕ → List ℕ → Type 0
CandidateIn out r = candidate_start r + candidate_len r ≤ length out

-- n whole rows are lent, and their candidates lie in the output text.
pub record CandidatesIn (flat out : List ℕ) (n : ℕ) : Type 0 where
  pub whole : n * line_bytes ≤ length flat
  pub texts : Allˡ (CandidateIn out) (words_from flat 0 n)

-- The length of what the candidates of n rows share, as a reader sees them.
unfoldable pub shared_seen : (flat out : List ℕ) → ℕ → ℕ
shared_seen flat out n = string_length (shared_beginning (map (candidate_seen out) (words_from flat 0 n)))
