-- The flags of arguments, what a registration would make and what is free; rows 2 to 8 by them.
use Rattle.std.specs.Prelude.{◌≡◌, false, ◌||◌, List, [], ◌∷◌, ltb}
use Rattle.source.specs.Calls.{Argument, any, malformed, empty_name, too_long, Row, ◌when◌, whole_records, free}
use Rattle.refusals.specs.Refusals.{number}
use Rattle.refusals.specs.declared.Refusal.TheVariants.{Malformed, Empty, TooLong, Crowded, Deep, Full, TextFull}
use Rattle.refusals.specs.declared.Flags.{Flags}
use Rattle.refusals.specs.declared.Capacity.{Capacity}
use Rattle.refusals.specs.declared.Demand.{Demand}

-- An argument's flags are the conditions of rows 2, 3 and 4.
pub record Flagged (a : Argument) (r : Flags) : Type 0 where
  pub malformed : r.malformed ≡ malformed a
  pub empty : r.empty ≡ empty_name a
  pub long : r.long ≡ too_long a

-- The flags of several arguments.
pub record AllFlagged (args : List Argument) (r : Flags) : Type 0 where
  pub malformed : r.malformed ≡ any malformed args
  pub empty : r.empty ≡ any empty_name args
  pub long : r.long ≡ any too_long args

-- No flag.
abbrev pub no_flags : Flags
no_flags = record { malformed = false; empty = false; long = false }

-- Of two lots of flags, those that either has.
abbrev pub both_flags : Flags → Flags → Flags
both_flags a b =
    record { malformed = a.malformed || b.malformed; empty = a.empty || b.empty; long = a.long || b.long }

-- Rows 2 to 4, by the flags of the arguments.
abbrev pub flag_rows : Flags → List Row
flag_rows f = (number Malformed when f.malformed) ∷ (number Empty when f.empty) ∷ (number TooLong when f.long) ∷ []

-- Rows 5 to 8, by what a registration would make and what is free.
abbrev pub capacity_rows : Demand → Capacity → List Row
capacity_rows d c =
    (number Crowded when d.crowded)
    ∷ (number Deep when d.deep)
    ∷ (number Full when ltb (free (whole_records c.words) c.records) d.records)
    ∷ (number TextFull when ltb (free c.text c.used) d.text)
    ∷ []
