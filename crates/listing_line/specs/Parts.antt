-- What the parts of a line that is counted and written need and give.
use Rattle.std.specs.Prelude.{ℕ, ◌+◌, ◌≡◌, List, [], ◌∷◌, length}
use Rattle.source.specs.Text.{Str}
use Rattle.source.specs.Table.{Line}
use Rattle.memory.specs.Layout.{Which, Item}
use Rattle.listing_output.specs.Run.{Job}
use Rattle.listing_output.specs.declared.run.Tally.{Tally}
use Rattle.listing_line.specs.Goes.{Fit, Goes}
use Rattle.listing_output.specs.Parts.{Spells, size_of, LinePut}
use Rattle.listing_line.specs.Lines.{only}

-- A line is written where it fits.
pub record TriedLine (ws txt : List ℕ) (j : Job) (note flat flat' out out' : List ℕ) : Type 0 where
  pub flat_size : length flat' ≡ length flat
  pub out_size : length out' ≡ length out
  pub put : (e : ℕ) → Fit j.lim flat out e (j.tally.lines + 1) (j.tally.bytes + size_of ws j note)
      → LinePut ws txt j note flat flat' out out'

-- The run went on by the line, whatever the table.
abbrev pub PutLine : (ws txt : List ℕ) (j : Job) (note : Str) (τ : Tally) (flat flat' out out' : List ℕ) → Type 0
PutLine ws txt j note τ flat flat' out out' =
    (w : Which) (ln : Line (Item w)) → Spells ws txt w j.path j.branch j.matched note ln
    → Goes w ws txt j.lim j.tally τ flat flat' out out' (only (ln ∷ []))
