-- Notes of branches still to come, and what they say of the matches of a tree.
use Rattle.std.specs.Prelude.{ℕ, ◌<◌, ◌≡◌, Bool, true, false, List, [], ◌∷◌, ◌++◌}
use Rattle.source.specs.Text.{Str, starts_with}
use Rattle.source.specs.Rules.{◌<ˢ◌}
use Rattle.source.specs.Shared.{Allˡ}
use Rattle.memory.specs.Layout.{record_at, right_link, key_at}
use Rattle.find_tree.specs.Tree.{AnyTree}
use Rattle.find_tree.specs.Links.{branches, matches, keep, past}
use Rattle.match_marks.specs.Marks.{Holds}
use Rattle.match_marks.specs.declared.Notes.{Notes}

-- What notes say is to come: the last one, the matches to its right, then what the others say.
unfoldable pub to_come : (ws txt : List ℕ) (prefix : Str) → List ℕ → List ℕ
to_come ws txt prefix [] = []
to_come ws txt prefix (x ∷ xs) =
    to_come ws txt prefix xs ++ (x ∷ matches ws txt (right_link (record_at ws x)) prefix)

-- The matches of the tree m whose keys pass the test b.
abbrev pub passing : (ws txt : List ℕ) (prefix : Str) → (Str → Bool) → ℕ → List ℕ
passing ws txt prefix b m = keep (key_at ws txt) b (matches ws txt m prefix)

-- The list xs begins with the matches of the tree x that pass b.
pub record Ahead (ws txt : List ℕ) (prefix : Str) (b : Str → Bool) (xs : List ℕ) (x : ℕ) : Type 0 where
  pub any : AnyTree ws txt x
  pub rest : List ℕ
  pub says : xs ≡ passing ws txt prefix b x ++ rest

-- A branch that matches, and the same of its tree.
pub record NoteOk (ws txt : List ℕ) (prefix : Str) (b : Str → Bool) (xs : List ℕ) (x : ℕ) : Type 0 where
  pub some : 0 < x
  pub begins : starts_with (key_at ws txt x) prefix ≡ true
  pub ahead : Ahead ws txt prefix b xs x

-- The list xs begins with h and what the notes say, and is that where no notes were dropped. Each note and each mark is ahead.
pub record Noting (ws txt : List ℕ) (prefix : Str) (b : Str → Bool) (notes : Notes) (h xs : List ℕ) : Type 0 where
  pub holds : Holds (NoteOk ws txt prefix b xs) (Ahead ws txt prefix b xs) notes
  pub rest : List ℕ
  pub says : xs ≡ h ++ (to_come ws txt prefix notes.branches ++ rest)
  pub whole : notes.dropped ≡ false → rest ≡ []

-- The matches of the tree from that are past low are noted. With none noted there are none.
pub record Descends (ws txt : List ℕ) (prefix low : Str) (strict : Bool) (from : ℕ)
    (notes notes' : Notes) : Type 0 where
  pub notes_on : (xs : List ℕ) → Noting ws txt prefix (past strict low) notes
      (passing ws txt prefix (past strict low) from) xs → Noting ws txt prefix (past strict low) notes' [] xs
  pub none : notes'.branches ≡ [] → passing ws txt prefix (past strict low) from ≡ []

-- The branches of the tree from are all after the prefix.
abbrev pub AllAfter : (ws txt : List ℕ) (prefix : Str) (from : ℕ) → Type 0
AllAfter ws txt prefix from = Allˡ (λ x. prefix <ˢ key_at ws txt x) (branches ws from)

-- The matches of the tree from are noted before what was noted already.
pub record NotesLeft (ws txt : List ℕ) (prefix : Str) (from : ℕ) (notes notes' : Notes) : Type 0 where
  pub notes_on : (b : Str → Bool) (xs : List ℕ) → Allˡ (λ x. b (key_at ws txt x) ≡ true) (branches ws from)
      → Noting ws txt prefix b notes (matches ws txt from prefix) xs → Noting ws txt prefix b notes' [] xs
