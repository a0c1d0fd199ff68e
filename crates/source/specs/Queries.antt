-- What the texts of a call keep once rows 2 to 4 are passed.
use Rattle.std.specs.Prelude.{◌≤◌, length}
use Rattle.source.specs.Limits.{longest_name, most_segments}
use Rattle.source.specs.Text.{Query, segments, name_byte}
use Rattle.source.specs.Rules.{Fits, IsKey, IsPath}
use Rattle.source.specs.Shared.{Allˡ}
use Rattle.source.specs.Calls.{Argument, a_query, a_name, a_path, a_look_up, a_completion}

-- At most 17 segments, each a key.
pub record IsQuery (q : Query) : Type 0 where
  pub keys : Allˡ IsKey q
  pub few : length q ≤ most_segments

-- At most 17 segments, which may be empty.
pub record IsCompletion (q : Query) : Type 0 where
  pub prefixes : Allˡ (λ g. Fits name_byte 0 longest_name g) q
  pub few : length q ≤ most_segments

-- What rows 2 to 4 give of an argument.
abbrev pub Keeps : Argument → Type 0
Keeps (a_query s) = IsQuery (segments s)
Keeps (a_name s) = IsKey s
Keeps (a_path s) = IsPath s
Keeps (a_look_up s) = IsQuery (segments s) × (1 ≤ length (segments s))
Keeps (a_completion s) = IsCompletion (segments s)
