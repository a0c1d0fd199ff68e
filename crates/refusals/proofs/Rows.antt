-- The flags of a call's arguments, and rows 1 to 4 by them.
use Rattle.std.specs.Prelude.{Result, Ok, Err, ⊤}
use mathlib.Core.Path.{◌≡◌, refl, sym, ap, ◌∙◌}
use mathlib.Core.Bool.{true, false, not, or-false}
use mathlib.Core.List.{List, [], ◌∷◌, ◌++◌}
use mathlib.Core.Option.{none, some}
use borrow.Author.Tests.{not-false}
use Rattle.source.specs.Text.{Str, ends_in_dot}
use Rattle.source.specs.Calls.{Argument, a_query, any, bad_query, malformed, empty_name, too_long, Row, ◌when◌, first_row, argument_rows}
use Rattle.source.proofs.Queries.{or_parts}
use Rattle.source.proofs.Refusals.{any_append}
use Rattle.refusals.specs.Refusals.{number, row_of}
use Rattle.refusals.specs.Rows.{Flagged, AllFlagged, no_flags, both_flags, flag_rows}
use Rattle.refusals.specs.declared.Flags.{Flags}
use Rattle.refusals.specs.declared.Refusal.{Refusal}

pub one_flagged : {a : Argument} {f : Flags} → Flagged a f → AllFlagged (a ∷ []) f
unfolding any
one_flagged h = record { malformed = rw or-false h.malformed; empty = rw or-false h.empty; long = rw or-false h.long }

pub none_flagged : AllFlagged [] no_flags
unfolding any
none_flagged = record { malformed = refl; empty = refl; long = refl }

pub both_flagged : {xs ys : List Argument} {f g : Flags} → AllFlagged xs f → AllFlagged ys g
    → AllFlagged (xs ++ ys) (both_flags f g)
both_flagged {xs} {ys} h i = record {
  malformed = rw (any_append malformed xs ys, h.malformed, i.malformed);
  empty = rw (any_append empty_name xs ys, h.empty, i.empty);
  long = rw (any_append too_long xs ys, h.long, i.long);
}

-- A query that is not malformed ends in a dot.
pub query_ends : (s : Str) → malformed (a_query s) ≡ false → ends_in_dot s ≡ true
unfolding malformed bad_query
query_ends s h = not-false (ends_in_dot s) (or_parts (not (ends_in_dot s)) _ h).0

rows_by_flags : {args : List Argument} {f : Flags} → AllFlagged args f
    → ◌≡◌ {A = List Row} ((2 when any malformed args) ∷ (3 when any empty_name args) ∷ (4 when any too_long args) ∷ []) (flag_rows f)
rows_by_flags h = rw (h.malformed, h.empty, h.long)

-- Rows 1 to 4 of a sound memory.
pub rows_of : {args : List Argument} {f : Flags} → AllFlagged args f
    → first_row (argument_rows true args) ≡ first_row (flag_rows f)
unfolding first_row argument_rows
rows_of h = ap first_row (rows_by_flags h)

-- A call that admit lets through, and one that it refuses.
module _ {args : List Argument} {f : Flags} {a : Result ⊤ Refusal} (h : AllFlagged args f)
    (e : row_of a ≡ first_row (flag_rows f)) where
  pub admitted_none : {x : ⊤} → a ≡ Ok x → first_row (argument_rows true args) ≡ none
  admitted_none k = rows_of h ∙ sym (rw k at e)

  pub refused_lowest : {x : Refusal} → a ≡ Err x → first_row (argument_rows true args) ≡ some (number x)
  refused_lowest k = rows_of h ∙ sym (rw k at e)
