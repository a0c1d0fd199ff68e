-- What is free, and what a call takes of the text.
use Prim.Native.Nat.{ℕ, ◌+◌, ◌-◌, ◌*◌, ◌/◌, ◌≤◌, ◌<◌, min}
use mathlib.Core.Path.{◌≡◌, refl}
use mathlib.Core.Bool.{Bool, true, false, ◌&&◌, ◌||◌}
use native.Mathlib.Omega.{arith}
use lib.Dec.{ltb}
use lib.ListN.{length}
use borrow.Author.Tests.{ltb-true, ltb-false, lt-ltb, le-ltb}
use Rattle.source.specs.Limits.{record_words, most_used}
use Rattle.source.specs.Text.{Str}
use Rattle.source.specs.Calls.{text_of, name, include, opens, alias, module_path, arguments, whole_records, free, text_taken}
use Rattle.source.specs.declared.LidSymbol.{LidSymbol}

-- Twelve words to a record: the whole records lent, and less than a record over.
pub whole_records_are : (words : ℕ) → (whole_records words * 12 ≤ words) × (words < whole_records words * 12 + 12)
unfolding whole_records
whole_records_are words = omega arith

-- Free is what is lent, up to 65,536, less what is used.
pub free_below : (lent used : ℕ) → lent ≤ 65536 → free lent used ≡ lent - used
unfolding free
free_below lent used h = omega arith

pub free_above : (lent used : ℕ) → 65536 ≤ lent → free lent used ≡ 65536 - used
unfolding free
free_above lent used h = omega arith

-- Row 7 by multiplication: some records are needed, and with those used they are over 65,536, or more than the words lent.
module _ (words used needed : ℕ) where
  abbrev records : ℕ
  records = used + needed

  abbrev room : ℕ
  room = min (words / record_words) most_used - used

  by_product : (a b c : Bool) → ltb 0 needed ≡ a → ltb most_used records ≡ b → ltb words (records * record_words) ≡ c
      → ltb room needed ≡ a && (b || c)
  by_product false b c p q r = le-ltb room needed (omega (arith, ltb-false 0 needed p))
  by_product true true c p q r = lt-ltb room needed (omega (arith, ltb-true 0 needed p, ltb-true most_used records q))
  by_product true false true p q r = lt-ltb room needed (omega (arith, ltb-true 0 needed p, ltb-true words (records * record_words) r))
  by_product true false false p q r = le-ltb room needed (omega (arith, ltb-false most_used records q, ltb-false words (records * record_words) r))

  pub full_by_product : ltb (free (whole_records words) used) needed
      ≡ ltb 0 needed && (ltb most_used (used + needed) || ltb words ((used + needed) * record_words))
  unfolding whole_records free
  full_by_product = by_product _ _ _ refl refl refl

-- A call takes the bytes of its texts, each once and whole.
pub record Taken : Type 0 where
  pub of_name : (host id : Str) (c : LidSymbol) → text_taken (arguments (name host id c)) ≡ length host + length id
  pub of_include : (host q : Str) → text_taken (arguments (include host q)) ≡ length host + length q
  pub of_open : (is_module : Bool) (host q : Str)
      → text_taken (arguments (opens is_module host q)) ≡ length host + length q
  pub of_alias : (key host q : Str) → text_taken (arguments (alias key host q)) ≡ length key + length host + length q
  pub of_module : (loaded : Bool) (query path : Str)
      → text_taken (arguments (module_path loaded query path)) ≡ length query + length path

pub texts_taken : Taken
unfolding text_taken arguments text_of
texts_taken = record {
  of_name = λ host id number. omega arith;
  of_include = λ host q. omega arith;
  of_open = λ is_module host q. omega arith;
  of_alias = λ key host q. omega arith;
  of_module = λ loaded query path. omega arith;
}
