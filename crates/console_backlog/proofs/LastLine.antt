-- The last line of an input (`last-line`), by how many bytes are left.
use Prim.Native.Nat.{◌<◌}
use mathlib.Core.Path.{◌≡◌, refl}
use mathlib.Core.List.{[], ◌∷◌}
use native.Mathlib.Omega.{arith}
use mathlib.Core.Bool.{Bool, true, false}
use lib.ListN.{length}
use Rattle.source.specs.Text.{Str}
use Rattle.console_backlog.specs.LastLine.{last_line, LastLine}

pub last_some : (s : Str) → 0 < length s → last_line s ≡ s ∷ []
last_some [] h = absurd (omega arith)
last_some (b ∷ s) h = refl

last_none : (s : Str) → length s ≡ 0 → last_line s ≡ []
last_none [] h = refl
last_none (b ∷ s) h = absurd (omega arith)

-- The bytes left are a line if there are any.
pub is_line : (s : Str) (line : Bool) → (line ≡ true → 0 < length s) → (line ≡ false → length s ≡ 0) → LastLine line s
is_line s true h n = last_some s (h refl)
is_line s false h n = last_none s (n refl)
