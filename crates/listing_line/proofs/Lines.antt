-- A line is counted, and written where it fits.
use Prim.Native.Nat.{ℕ, ◌+◌}
use mathlib.Core.Path.{◌≡◌, refl}
use mathlib.Core.List.{List, [], ◌∷◌}
use native.Mathlib.Omega.{arith}
use lib.ListN.{length}
use Rattle.source.specs.Text.{Str}
use Rattle.source.specs.Table.{Line}
use Rattle.memory.specs.Layout.{Which, Item}
use Rattle.listing_output.specs.Output.{Written}
use Rattle.listing_output.specs.Run.{Job}
use Rattle.listing_output.specs.declared.run.Tally.{Tally}
use Rattle.listing_line.specs.Goes.{Capped, Fit}
use Rattle.listing_output.specs.Parts.{Spells, JobOk, size_of}
use Rattle.listing_line.specs.Parts.{TriedLine, PutLine}
use Rattle.listing_line.proofs.Capped.{tells_is, tells_more}
use Rattle.listing_output.proofs.Put.{line_size, written_line}

-- The tally after a line of some bytes.
pub record Counted (j : Job) (size : ℕ) (τ : Tally) : Type 0 where
  pub entered_same : τ.entered ≡ j.tally.entered
  pub lines_more : (x : ℕ) → Capped j.lim.lines x j.tally.lines → Capped j.lim.lines (x + 1) τ.lines
  pub bytes_more : (x : ℕ) → Capped j.lim.bytes x j.tally.bytes → Capped j.lim.bytes (x + size) τ.bytes

pub counts_kept : {j : Job} {size n m b : ℕ} → n ≡ size
    → ((x : ℕ) → Capped j.lim.lines x j.tally.lines → Capped j.lim.lines (x + 1) m)
    → ((x : ℕ) → Capped j.lim.bytes x j.tally.bytes → Capped j.lim.bytes (x + n) b)
    → Counted j size (record { entered = j.tally.entered; lines = m; bytes = b })
counts_kept e f g = record { entered_same = refl; lines_more = f; bytes_more = rw e at g }

module _ {ws txt : List ℕ} {j : Job} (ok : JobOk ws txt j) where
  module _ {note : Str} {τ : Tally} (c : Counted j (size_of ws j note) τ) where
    goes_line : {flat flat' out out' : List ℕ} → length flat' ≡ length flat → length out' ≡ length out
        → ((w : Which) (ln : Line (Item w)) → Spells ws txt w j.path j.branch j.matched note ln
        → (e : ℕ) → Fit j.lim flat out e (j.tally.lines + 1) (j.tally.bytes + size_of ws j note)
        → Written w ws txt flat flat' out out' j.tally.lines j.tally.bytes (ln ∷ []))
        → PutLine ws txt j note τ flat flat' out out'
    goes_line f o put w ln s =
        let size = line_size ok s in
        record {
          flat_size = f;
          out_size = o;
          shows = λ e i b h. record {
            spent = λ k. omega (arith, c.entered_same, h.spent (omega arith));
            entered_is = λ k. omega (arith, c.entered_same, h.entered_is (omega arith));
            counted = λ k. rw size (tells_more j.lim 1 (size_of ws j note) j.tally τ c.lines_more
                c.bytes_more i b (h.counted (omega arith)));
          };
          writes = λ e i b h k.
              let is = tells_is j.lim j.tally (omega (arith, k.lines_fit)) (omega (arith, k.bytes_fit))
              (h.counted (omega (arith, k.entered_fit))) in
              let el = is.0 in
              let eb = is.1 in
              rw (← el, ← eb) (put w ln s e (record {
                entered_fit = omega (arith, k.entered_fit);
                lines_fit = omega (arith, k.lines_fit);
                bytes_fit = omega (arith, k.bytes_fit);
                flat_lent = k.flat_lent;
                out_lent = k.out_lent;
              }));
        }

    -- It is written where it fits.
    pub line_counted : {flat flat' out out' : List ℕ} → TriedLine ws txt j note flat flat' out out'
        → PutLine ws txt j note τ flat flat' out out'
    line_counted p = goes_line p.flat_size p.out_size (λ w l s e f. written_line ok s (p.put e f))
