-- The first of the matches of a tree that are still to come, and notes of the rest.
use Rattle.std.specs.Prelude.{ℕ, ◌≡◌, true, List, ◌∷◌, Option, slice_get}
use Rattle.source.specs.Text.{Str}
use Rattle.memory.specs.Layout.{record_at, right_link, key_at}
use Rattle.find_tree.specs.Links.{matches, past}
use Rattle.match_notes.specs.Noting.{Noting}
use Rattle.match_marks.specs.declared.Notes.{Notes}

-- The list xs, all after the branch at, begins with the matches to its right and what the notes say.
abbrev pub Noted : (ws txt : List ℕ) (prefix : Str) (notes : Notes) (at : ℕ) (xs : List ℕ) → Type 0
Noted ws txt prefix notes at xs =
    Noting ws txt prefix (past true (key_at ws txt at)) notes (matches ws txt (right_link (record_at ws at)) prefix) xs

-- The first of the list xs, None where it is empty, and notes of the rest.
pub record Matched (ws txt : List ℕ) (prefix : Str) (notes : Notes) (xs : List ℕ) (r : Option ℕ) : Type 0 where
  pub head : r ≡ slice_get xs 0
  pub noted : (x : ℕ) (after : List ℕ) → xs ≡ x ∷ after → Noted ws txt prefix notes x after
