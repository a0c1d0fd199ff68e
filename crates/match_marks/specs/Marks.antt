-- What is put on and taken from a stack, and from the notes of a walk.
use Rattle.std.specs.Prelude.{ℕ, ◌≡◌, true, false, cond, eqb, List, [], ◌∷◌, ◌++◌, ◌⊎◌, length, slice_get, Option, Some, None}
use Rattle.source.specs.Shared.{Allˡ}
use Rattle.match_marks.specs.declared.Notes.{Notes}

-- At most so many notes, near marks and far marks.
abbrev pub most_notes : ℕ
most_notes = 32

abbrev pub most_near : ℕ
most_near = 14

abbrev pub most_far : ℕ
most_far = 15

-- A stack of at most n with x on top: alone where n were there already.
unfoldable pub put : (n : ℕ) → List ℕ → ℕ → List ℕ
put n xs x = cond (eqb (length xs) n) [] xs ++ x ∷ []

-- The first of those that are dropped then.
unfoldable pub put_out : (n : ℕ) → List ℕ → Option ℕ
put_out n xs = cond (eqb (length xs) n) (slice_get xs 0) None

-- A stack with one more on top, where there is one.
abbrev pub put_any : (n : ℕ) → List ℕ → Option ℕ → List ℕ
put_any n xs None = xs
put_any n xs (Some x) = put n xs x

-- The top is taken, None where the stack is empty.
abbrev pub Taken : (xs xs' : List ℕ) → Option ℕ → Type 0
Taken xs xs' None = (xs ≡ []) × (xs' ≡ [])
Taken xs xs' (Some x) = xs ≡ xs' ++ x ∷ []

-- No note and no mark.
abbrev pub none : Notes
none = record { branches = []; near = []; far = []; dropped = false }

-- A branch is marked. Where the near marks are full their first becomes a far one.
abbrev pub marked : Notes → ℕ → Notes
marked notes x = record {
  branches = notes.branches;
  near = put most_near notes.near x;
  far = put_any most_far notes.far (put_out most_near notes.near);
  dropped = notes.dropped;
}

-- Where notes are dropped the first of them is marked, and it is told.
abbrev pub marked_any : Notes → Option ℕ → Notes
marked_any notes None = notes
marked_any notes (Some first) =
    let m = marked notes first in record { branches = m.branches; near = m.near; far = m.far; dropped = true }

-- A branch is noted.
abbrev pub noted : Notes → ℕ → Notes
noted notes x =
    let m = marked_any notes (put_out most_notes notes.branches) in
    record { branches = put most_notes notes.branches x; near = m.near; far = m.far; dropped = m.dropped }

-- The last note is taken.
pub record NoteTaken (notes notes' : Notes) (r : Option ℕ) : Type 0 where
  pub taken : Taken notes.branches notes'.branches r
  pub near : notes'.near ≡ notes.near
  pub far : notes'.far ≡ notes.far
  pub dropped : notes'.dropped ≡ notes.dropped

-- The last mark is taken, a near one where there is one.
pub record MarkTaken (notes notes' : Notes) (r : Option ℕ) : Type 0 where
  pub taken : (Taken notes.near notes'.near r × (notes'.far ≡ notes.far)) ⊎
      ((notes.near ≡ []) × (notes'.near ≡ []) × Taken notes.far notes'.far r)
  pub branches : notes'.branches ≡ notes.branches
  pub dropped : notes'.dropped ≡ notes.dropped

-- N holds of the notes, M of the marks.
pub record Holds (N M : ℕ → Type 0) (notes : Notes) : Type 0 where
  pub note : Allˡ N notes.branches
  pub near : Allˡ M notes.near
  pub far : Allˡ M notes.far
