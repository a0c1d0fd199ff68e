-- An item as it is written, by its first byte.
use Prim.Native.Nat.{ℕ, ◌-◌, ◌<◌}
use mathlib.Core.Path.{◌≡◌, refl, sym, ◌∙◌}
use mathlib.Core.List.{[], ◌∷◌}
use native.Mathlib.Omega.{arith}
use lib.ListN.{length, get_or, take, drop}
use lib.Seq.{take_all}
use borrow.Author.Tests.{ne_eqb}
use Rattle.source.specs.Items.{kind_letter}
use Rattle.source.specs.declared.ItemKind.{ItemKind}
use Rattle.source.specs.declared.LidSymbol.{LidSymbol}
use Rattle.source.specs.declared.ItemKind.TheVariants.{Timer, Port, Register}
use Rattle.script_decimal.specs.Bytes.{Str}
use Rattle.script_decimal.specs.Items.{written_kind, written_digits}
use Rattle.script_parts.specs.Parts.{ItemSays, NumberedSays}
use Rattle.std.specs.Prelude.{Option, Some, None}

-- A text that begins with a letter has a byte.
pub letter_inside : (s : Str) {b : ℕ} → get_or s 0 0 ≡ b → 0 < b → 0 < length s
letter_inside [] e h = omega (arith, e)
letter_inside (a ∷ s) e h = omega arith

-- What is read of the digits as of the kind is the item, where these are what is written.
pub item_says : (s : Str) (k : ItemKind) (ds : Str) → written_kind s ≡ k → written_digits s ≡ ds
    → (r : Option LidSymbol)
    → NumberedSays k ds r → ItemSays s r
item_says s k ds e f (Some c) h = record { kind_is = h.0 ∙ sym e; number_is = rw f h.1 }
item_says s k ds e f None h = λ c t. h c.number (rw f at t.number_is)

-- What is lent on after the first byte.
abbrev rest : Str → Str
rest s = take (length s - 1) (drop 1 s)

rest_is : (s : Str) → drop 1 s ≡ rest s
rest_is [] = refl
rest_is (a ∷ s) = sym (take_all (length (a ∷ s) - 1) s (omega arith))

module _ (s : Str) where
  -- A letter, and the digits after it.
  pub letter_written : (k : ItemKind) → get_or s 0 0 ≡ kind_letter k
      → (written_kind s ≡ k) × (written_digits s ≡ rest s)
  unfolding written_kind written_digits kind_letter
  letter_written Timer e = (rw e refl, rw e (rest_is s))
  letter_written Port e = (rw e refl, rw e (rest_is s))
  letter_written Register e = (rw e refl, rw e (rest_is s))

  -- No letter.
  pub bare_written : (get_or s 0 0 ≡ kind_letter Timer → ⊥) → (get_or s 0 0 ≡ kind_letter Port → ⊥)
      → (get_or s 0 0 ≡ kind_letter Register → ⊥)
      → (written_kind s ≡ Register) × (written_digits s ≡ s)
  unfolding written_kind written_digits
  bare_written t p r =
      let t = ne_eqb (get_or s 0 0) (kind_letter Timer) t in
      let p = ne_eqb (get_or s 0 0) (kind_letter Port) p in
      let r = ne_eqb (get_or s 0 0) (kind_letter Register) r in
      (rw (t, p) refl, rw (t, p, r) refl)
