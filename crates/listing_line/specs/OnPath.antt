-- A path of links that are there, and the path of the source that they spell.
use Rattle.std.specs.Prelude.{ℕ, ◌*◌, ◌<◌, ◌≤◌, ◌≡◌, List, reverse, length, get_or}
use Rattle.source.specs.Limits.{deepest_trie}
use Rattle.source.specs.Types.{Level, ns}
use Rattle.source.specs.Listing.{PathOf}
use Rattle.source.specs.Table.{first_import_of_path}
use Rattle.source.specs.Forward.{base}
use Rattle.memory.specs.Layout.{Which, record_at, sort_word, list}
use Rattle.memory.specs.Sound.{At}
use Rattle.find_list.specs.Entries.{label_at}
use Rattle.listing_output.specs.Path.{joined, BranchAt}
use Rattle.listing_output.specs.declared.run.Path.{Path}

-- Link x is 0, or that of a collection with a label.
pub record LabelAt (ws txt : List ℕ) (w : Which) (ℓ : Level) (x : ℕ) : Type 0 where
  pub at : At ws txt w (list ℓ) x
  pub imports : 0 < x → sort_word (record_at ws x) ≡ 1

-- The links are branches of namespaces, at most 16, and the length is that of their text.
pub record PathOk (ws txt : List ℕ) (w : Which) (p : Path) : Type 0 where
  pub few : p.n ≤ deepest_trie
  pub each : (j : ℕ) → j < p.n → BranchAt ws txt w ns (get_or p.links j 0)
  pub len_is : p.len ≡ length (joined ws txt p.links p.n)
  pub short : p.len ≤ p.n * 32
  pub label_level : Level
  pub label_ok : LabelAt ws txt w label_level p.label

-- They spell the path of the source, innermost first.
pub record OnPath (ws txt : List ℕ) (p : Path) (path : PathOf) : Type 0 where
  pub count : p.n ≡ length path
  pub text : joined ws txt p.links p.n ≡ base path
  pub label_is : label_at ws txt p.label ≡ first_import_of_path (reverse path)
