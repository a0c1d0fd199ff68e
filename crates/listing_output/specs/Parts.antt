-- What the parts of writing a line need and give.
use Rattle.std.specs.Prelude.{ℕ, ◌+◌, ◌*◌, ◌<◌, ◌≤◌, ◌≡◌, List, [], ◌∷◌, ◌++◌, length, get_or}
use Rattle.source.specs.Calls.{signed_word}
use Rattle.source.specs.Limits.{longest_full_name, deepest_trie, most_used, record_words}
use Rattle.source.specs.Text.{Str}
use Rattle.source.specs.Types.{bind}
use Rattle.source.specs.Table.{Line}
use Rattle.memory.specs.Layout.{record_at, Which, Item, item_of, key_at, text_start, text_len, number_word, name_start, name_len, path_start, path_len}
use Rattle.memory.specs.Layout.{loaded_word}
use Rattle.text.specs.Laid.{Laid}
use Rattle.listing_output.specs.Path.{joined, BranchAt}
use Rattle.listing_output.specs.declared.run.Path.{Path}
use Rattle.listing_output.specs.Output.{line_bytes, line_words}
use Rattle.listing_output.specs.Run.{Small, Job}

-- ---- What is read

-- Link x names a record with a text, a key or a label, that is in the table's text.
pub record TextAt (ws txt : List ℕ) (x : ℕ) : Type 0 where
  pub some : 0 < x
  pub within : x * record_words ≤ length ws
  pub inside : text_start (record_at ws x) + text_len (record_at ws x) ≤ length txt
  pub size : length (key_at ws txt x) ≡ text_len (record_at ws x)
  pub short : text_len (record_at ws x) ≤ longest_full_name
  pub few : x ≤ most_used

-- The links of a path name keys, and the length is that of their text.
pub record PathAt (ws txt : List ℕ) (p : Path) : Type 0 where
  pub few : p.n ≤ deepest_trie
  pub each : (j : ℕ) → j < p.n → TextAt ws txt (get_or p.links j 0)
  pub len_is : p.len ≡ length (joined ws txt p.links p.n)
  pub short : p.len ≤ p.n * 32

-- A line can be listed.
pub record JobOk (ws txt : List ℕ) (j : Job) : Type 0 where
  pub path : PathAt ws txt j.path
  pub branch : TextAt ws txt j.branch
  pub small : Small j.lim

-- The candidate of a branch below a path.
abbrev pub candidate_of : (ws txt : List ℕ) → Path → ℕ → Str
candidate_of ws txt p branch = joined ws txt p.links p.n ++ key_at ws txt branch

-- ---- What is written

-- The line of a branch below a path.
pub record Spells (ws txt : List ℕ) (w : Which) (p : Path) (branch matched : ℕ) (note : Str)
    (ln : Line (Item w)) : Type 0 where
  pub branch_at : BranchAt ws txt w bind branch
  pub length_is : ln.match_length ≡ signed_word matched
  pub item_is : ln.item_of ≡ item_of w txt (record_at ws branch)
  pub candidate_is : ln.candidate ≡ joined ws txt p.links p.n ++ key_at ws txt branch
  pub annotation_is : ln.annotation ≡ note

-- The words of a line from the branch r.
abbrev pub line_row : (r : List ℕ) (matched start len note : ℕ) → List ℕ
line_row r matched start len note =
    matched ∷ start ∷ len ∷ (start + len) ∷ note ∷ number_word r ∷ name_start r ∷ name_len r ∷ path_start r
    ∷ path_len r ∷ loaded_word r ∷ 0 ∷ []

-- The bytes of a line.
abbrev pub size_of : (ws : List ℕ) → Job → Str → ℕ
size_of ws j note = j.path.len + text_len (record_at ws j.branch) + length note

-- A line fits what is lent.
pub record LineFits (ws : List ℕ) (j : Job) (note flat out : List ℕ) : Type 0 where
  pub flat_room : j.tally.lines * line_bytes + line_bytes ≤ length flat
  pub out_room : j.tally.bytes + size_of ws j note ≤ length out
  pub small : j.tally.bytes + size_of ws j note ≤ 4294967295

-- A line is written after those of the tally.
pub record LinePut (ws txt : List ℕ) (j : Job) (note flat flat' out out' : List ℕ) : Type 0 where
  pub bytes : List ℕ
  pub spell : line_words bytes ≡ line_row (record_at ws j.branch) j.matched j.tally.bytes
      (length (candidate_of ws txt j.path j.branch)) (length note)
  pub flat_laid : Laid flat flat' (j.tally.lines * line_bytes) (j.tally.lines * line_bytes + line_bytes) bytes
  pub out_laid : Laid out out' j.tally.bytes
      (j.tally.bytes + length (candidate_of ws txt j.path j.branch ++ note))
      (candidate_of ws txt j.path j.branch ++ note)
