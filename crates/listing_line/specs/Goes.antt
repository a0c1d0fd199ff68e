-- A run goes on by a part of a listing: it is counted, and where all fits it is written.
use Rattle.std.specs.Prelude.{ℕ, ◌+◌, ◌*◌, ◌<◌, ◌≤◌, ◌≡◌, ◌⊎◌, List, ◌++◌, length}
use Rattle.source.specs.Table.{Line}
use Rattle.source.specs.Calls.{output_text}
use Rattle.memory.specs.Layout.{Which, Item}
use Rattle.listing_output.specs.Output.{line_bytes, Written}
use Rattle.listing_output.specs.declared.run.Tally.{Tally}
use Rattle.listing_output.specs.declared.run.Limits.{Limits}

-- What a part of a listing gives: its lines, and the tries entered.
pub record Result (A : Type 0) : Type 0 where
  pub lines : List (Line A)
  pub entered : ℕ

infixr 20 ◌⊕◌
-- One part, then the next.
unfoldable pub ◌⊕◌ : {A : Type 0} → Result A → Result A → Result A
r ⊕ s = record { lines = r.lines ++ s.lines; entered = r.entered + s.entered }

-- a is x, or both are past the limit.
abbrev pub Capped : (limit x a : ℕ) → Type 0
Capped limit x a = (a ≡ x) ⊎ ((limit < x) × (limit < a))

-- Lines or bytes past the limits.
abbrev pub Past : (lim : Limits) (n b : ℕ) → Type 0
Past lim n b = (lim.lines < n) ⊎ (lim.bytes < b)

-- A tally of e tries entered, n lines and b bytes. Past the budget it says only that; past the lines or bytes it says that of lines and bytes.
pub record Shows (lim : Limits) (e n b : ℕ) (τ : Tally) : Type 0 where
  pub spent : lim.budget < e → lim.budget < τ.entered
  pub entered_is : e ≤ lim.budget → τ.entered ≡ e
  pub counted : e ≤ lim.budget → ((τ.lines ≡ n) × (τ.bytes ≡ b)) ⊎ (Past lim n b × Past lim τ.lines τ.bytes)

-- Totals within the limits, and these within what is lent.
pub record Fit (lim : Limits) (flat out : List ℕ) (e n b : ℕ) : Type 0 where
  pub entered_fit : e ≤ lim.budget
  pub lines_fit : n ≤ lim.lines
  pub bytes_fit : b ≤ lim.bytes
  pub flat_lent : lim.lines * line_bytes ≤ length flat
  pub out_lent : lim.bytes ≤ length out

-- The run went on by the part r: it is counted, and where all fits it is written.
pub record Goes (w : Which) (ws txt : List ℕ) (lim : Limits) (τ τ' : Tally) (flat flat' out out' : List ℕ)
    (r : Result (Item w)) : Type 0 where
  pub flat_size : length flat' ≡ length flat
  pub out_size : length out' ≡ length out
  pub shows : (e n b : ℕ) → Shows lim e n b τ
      → Shows lim (e + r.entered) (n + length r.lines) (b + length (output_text r.lines)) τ'
  pub writes : (e n b : ℕ) → Shows lim e n b τ
      → Fit lim flat out (e + r.entered) (n + length r.lines) (b + length (output_text r.lines))
      → Written w ws txt flat flat' out out' n b r.lines
