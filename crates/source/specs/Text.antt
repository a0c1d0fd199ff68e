-- Text, as the requirements settle it: bytes, comparison, prefix, queries and the byte rules.
use Prim.Native.Nat.{ℕ, compare, Ordering}
use Rattle.std.specs.Prelude.{Bool, true, false, ◌&&◌, ◌||◌, not, List, [], ◌∷◌, ◌++◌, eqb, leb, length}

-- A text is its bytes.
abbrev pub Str : Type 0
Str = List ℕ

-- The source's query: segments, outermost first.
abbrev pub Query : Type 0
Query = List Str

-- The first answer, or the second where the first says equal.
unfoldable pub then : Ordering → Ordering → Ordering
then Ordering.lt o = Ordering.lt
then Ordering.eq o = o
then Ordering.gt o = Ordering.gt

-- string_compare, that is String.compare: bytewise, a proper beginning first. Its int is used by its sign alone.
unfoldable pub string_compare : Str → Str → Ordering
string_compare [] [] = Ordering.eq
string_compare [] (b ∷ t) = Ordering.lt
string_compare (a ∷ s) [] = Ordering.gt
string_compare (a ∷ s) (b ∷ t) = then (compare a b) (string_compare s t)

-- Util.starts_with: bytewise.
unfoldable pub starts_with : Str → Str → Bool
starts_with s [] = true
starts_with [] (b ∷ p) = false
starts_with (a ∷ s) (b ∷ p) = eqb a b && starts_with s p

-- The longest beginning that both texts have.
unfoldable pub common_prefix : Str → Str → Str
common_prefix [] t = []
common_prefix (a ∷ s) [] = []
common_prefix (a ∷ s) (b ∷ t) = elim (eqb a b) [ true ↦ a ∷ common_prefix s t | false ↦ [] ]

-- String.length: counts bytes.
unfoldable pub string_length : Str → ℕ
string_length s = length s

-- The dot, hexadecimal 2E.
abbrev pub dot : ℕ
dot = 46

-- query_to_string, that is String.concat ".".
unfoldable pub query_to_string : Query → Str
query_to_string [] = []
query_to_string (s ∷ []) = s
query_to_string (s ∷ (t ∷ q)) = s ++ (dot ∷ query_to_string (t ∷ q))

-- ---- A query as bytes

-- A byte put before the first segment.
unfoldable pub onto_first : ℕ → Query → Query
onto_first b [] = (b ∷ []) ∷ []
onto_first b (s ∷ q) = (b ∷ s) ∷ q

-- The segments of a text in which each segment ends with a dot.
unfoldable pub segments : Str → Query
segments [] = []
segments (b ∷ s) = elim (eqb b dot) [ true ↦ [] ∷ segments s | false ↦ onto_first b (segments s) ]

-- Empty, or the last byte is a dot.
unfoldable pub ends_in_dot : Str → Bool
ends_in_dot [] = true
ends_in_dot (b ∷ []) = eqb b dot
ends_in_dot (b ∷ (c ∷ s)) = ends_in_dot (c ∷ s)

-- ---- Byte rules

-- Name bytes: hexadecimal 21 to 7E without 2E, 5B and 5D.
unfoldable pub name_byte : ℕ → Bool
name_byte b = leb 33 b && leb b 126 && not (eqb b dot || eqb b 91 || eqb b 93)

-- Bytes of a query, of a label and of a full name: name bytes and dots.
unfoldable pub query_byte : ℕ → Bool
query_byte b = name_byte b || eqb b dot

-- File path bytes: hexadecimal 20 to 7E.
unfoldable pub path_byte : ℕ → Bool
path_byte b = leb 32 b && leb b 126
