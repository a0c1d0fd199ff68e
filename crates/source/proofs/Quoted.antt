-- Quoted texts as bytes.
use Prim.Native.Char.{code}
use Prim.Native.String as S
use mathlib.Core.List.{[], ◌∷◌}
use Rattle.source.specs.Text.{Str}

-- A quoted text's bytes.
unfoldable pub bytes : S.String → Str
bytes S.[] = []
bytes (S.◌∷◌ c s) = code c ∷ bytes s
