-- A run goes on by parts: nothing, one part then the next, past the budget anything, past the lines or bytes any lines.
use Prim.Native.Nat.{ℕ, ◌+◌, ◌<◌, ◌≤◌}
use mathlib.Core.Path.{◌≡◌, refl, ap, ◌∙◌}
use mathlib.Core.List.{List, [], ◌++◌}
use mathlib.Core.Logic.{inr}
use native.Mathlib.Omega.{arith}
use lib.ListN.{length, length-append}
use Rattle.source.specs.Calls.{output_text}
use Rattle.source.proofs.Lines.{output_text_append}
use Rattle.memory.specs.Layout.{Which, Item}
use Rattle.listing_output.specs.declared.run.Tally.{Tally}
use Rattle.listing_output.specs.declared.run.Limits.{Limits}
use Rattle.listing_output.proofs.Written.{written_none, written_then}
use Rattle.listing_line.specs.Goes.{Result, ◌⊕◌, Past, Goes}
use Rattle.listing_line.specs.Lines.{only}
use Rattle.listing_line.proofs.Capped.{past_more, not_past, tells_past}

module _ {w : Which} {ws txt : List ℕ} {lim : Limits} where
  pub goes_none : (a : Tally) (flat out : List ℕ) → Goes w ws txt lim a a flat flat out out (only [])
  unfolding output_text
  goes_none a flat out = record {
    flat_size = refl;
    out_size = refl;
    shows = λ e l b s. let ee : e + 0 ≡ e = omega arith in let el : l + 0 ≡ l = omega arith in let eb : b + 0 ≡ b = omega arith in rw (ee, el, eb) s;
    writes = λ e l b s f. written_none flat out l b (omega (arith, f.lines_fit, f.flat_lent)) (omega (arith, f.bytes_fit, f.out_lent));
  }

  -- One part, then the next.
  pub goes_then : {a m τ : Tally} {flat flat₁ flat₂ out out₁ out₂ : List ℕ} {r r₂ : Result (Item w)}
      → Goes w ws txt lim a m flat flat₁ out out₁ r → Goes w ws txt lim m τ flat₁ flat₂ out₁ out₂ r₂
      → Goes w ws txt lim a τ flat flat₂ out out₂ (r ⊕ r₂)
  unfolding ◌⊕◌
  goes_then {a} {m} {τ} {flat} {flat₁} {flat₂} {out} {out₁} {out₂} {r} {r₂} x y = record {
    flat_size = y.flat_size ∙ x.flat_size;
    out_size = y.out_size ∙ x.out_size;
    shows = λ e n b h. rw (entered e, count n, bytes b) (y.shows _ _ _ (x.shows e n b h));
    writes = λ e n b h f.
        written_then
        (x.writes e n b h (record {
          entered_fit = omega (arith, f.entered_fit);
          lines_fit = omega (arith, f.lines_fit, count n);
          bytes_fit = omega (arith, f.bytes_fit, bytes b);
          flat_lent = f.flat_lent;
          out_lent = f.out_lent;
        }))
        (y.writes _ _ _ (x.shows e n b h) (record {
          entered_fit = omega (arith, f.entered_fit);
          lines_fit = omega (arith, f.lines_fit, count n);
          bytes_fit = omega (arith, f.bytes_fit, bytes b);
          flat_lent = omega (arith, f.flat_lent, x.flat_size);
          out_lent = omega (arith, f.out_lent, x.out_size);
        }));
  }
    where
      entered : (e : ℕ) → e + (r.entered + r₂.entered) ≡ e + r.entered + r₂.entered
      entered e = omega arith

      count : (n : ℕ) → n + length (r.lines ++ r₂.lines) ≡ n + length r.lines + length r₂.lines
      count n = omega (arith, length-append r.lines r₂.lines)

      bytes : (b : ℕ) → b + length (output_text (r.lines ++ r₂.lines))
          ≡ b + length (output_text r.lines) + length (output_text r₂.lines)
      bytes b = omega (arith, ap length (output_text_append r.lines r₂.lines), length-append (output_text r.lines) (output_text r₂.lines))

  -- Past the budget nothing more is said.
  pub goes_spent : {a : Tally} (flat out : List ℕ) (r : Result (Item w)) → lim.budget < a.entered
      → Goes w ws txt lim a a flat flat out out r
  goes_spent {a} flat out r p = record {
    flat_size = refl;
    out_size = refl;
    shows = λ e l b s.
        let never : e ≤ lim.budget → ⊥ = λ h. omega (arith, s.entered_is h) in
        record {
          spent = λ h. p;
          entered_is = λ h. absurd (never (omega arith));
          counted = λ h. absurd (never (omega arith));
        };
    writes = λ e l b s f. absurd (omega (arith, s.entered_is (omega (arith, f.entered_fit)), f.entered_fit));
  }

  -- Past the lines or bytes, lines need no more counting.
  pub goes_past : {a : Tally} (flat out : List ℕ) (r : Result (Item w)) → r.entered ≡ 0
      → Past lim a.lines a.bytes → Goes w ws txt lim a a flat flat out out r
  goes_past {a} flat out r z p = record {
    flat_size = refl;
    out_size = refl;
    shows = λ e l b s. record {
      spent = λ h. s.spent (omega arith);
      entered_is = λ h. omega (arith, s.entered_is (omega arith));
      counted = λ h. inr (past_more lim (length r.lines) (length (output_text r.lines)) (tells_past lim a p (s.counted (omega arith))), p);
    };
    writes = λ e l b s f.
        not_past lim f.lines_fit f.bytes_fit
        (past_more lim (length r.lines) (length (output_text r.lines)) (tells_past lim a p (s.counted (omega (arith, f.entered_fit)))));
  }
