-- The last line of an input, where it has no line feed.
use Rattle.std.specs.Prelude.{◌≡◌, Bool, true, false, List, [], ◌∷◌}
use Rattle.source.specs.Text.{Str}

-- The lines that the bytes left at the end are.
abbrev pub last_line : Str → List Str
last_line [] = []
last_line (b ∷ s) = (b ∷ s) ∷ []

-- Whether they are a line.
abbrev pub LastLine : Bool → Str → Type 0
LastLine true s = last_line s ≡ s ∷ []
LastLine false s = last_line s ≡ []
