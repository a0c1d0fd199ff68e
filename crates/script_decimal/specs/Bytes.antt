-- Texts as bytes, the sorts of bytes that stand in a part of a line, and where a line ends.
use Rattle.std.specs.Prelude.{◌≡◌, Bool, true, not, ◌&&◌, List, [], ◌∷◌, ◌++◌, ℕ, ◌<◌, ◌≤◌, eqb, leb, length, get_or, take}
use Prim.Native.Char.{code}
use Prim.Native.String as S
use Rattle.script_decimal.specs.declared.Sort.{Sort}
use Rattle.script_decimal.specs.declared.Sort.TheVariants.{Query, Word, Digit, Line}

-- A text is its bytes.
abbrev pub Str : Type 0
Str = List ℕ

-- The bytes of a text that is written out.
unfoldable pub bytes : S.String → Str
bytes S.[] = []
bytes (S.◌∷◌ c s) = code c ∷ bytes s

infixr 65 ◌·◌
-- One text, then the next.
abbrev pub ◌·◌ : Str → Str → Str
s · t = s ++ t

-- The bytes of a query, of an id or key, of a number, of a line.
unfoldable pub byte_ok : Sort → ℕ → Bool
byte_ok Query b = not (eqb b 93)
byte_ok Word b = not (eqb b 32) && not (eqb b 91) && not (eqb b 93)
byte_ok Digit b = leb 48 b && leb b 57
byte_ok Line b = not (eqb b 10)

-- Every byte may stand in a part of this sort.
abbrev pub All : Sort → Str → Type 0
All sort [] = Unit {0}
All sort (b ∷ s) = (byte_ok sort b ≡ true) × All sort s

-- Where the first line of an input ends: at its first line feed, or at the input's end.
pub record LineEnd (input : Str) (r : ℕ) : Type 0 where
  pub within : r ≤ length input
  pub line : All Line (take r input)
  pub feed : r < length input → get_or input r 0 ≡ 10
