-- The parts of a line: what each function of this crate says of one.
use Rattle.std.specs.Prelude.{◌≡◌, false, Option, Some, None, MatchOption, [], ◌∷◌, ℕ, ◌<◌, length}
use Rattle.std.specs.List.{prefix_len}
use denote.Ref.{Bor}
use Rattle.source.specs.declared.ItemKind.{ItemKind}
use Rattle.source.specs.declared.LidSymbol.{LidSymbol}
use Rattle.script_decimal.specs.declared.Sort.{Sort}
use Rattle.script_decimal.specs.declared.Sort.TheVariants.{Query, Word}
use Rattle.script_parts.specs.declared.Pair.{Pair}
use Rattle.script_parts.specs.declared.Tail.{Tail}
use Rattle.script_decimal.specs.Bytes.{Str, bytes, ◌·◌, byte_ok, All}
use Rattle.script_decimal.specs.Numerals.{Numeral}
use Rattle.script_decimal.specs.Items.{ItemText}

-- How many bytes at the start may stand in a part.
abbrev pub run_length : Sort → Str → ℕ
run_length sort s = prefix_len (byte_ok sort) s

-- What follows the word that s begins with, or that it does not.
abbrev pub WordSays : Str → Str → Option (Bor Str) → Type 0
WordSays s word r = MatchOption r ((rest : Str) → s ≡ word · rest → ⊥) (λ rest. s ≡ word · rest.now)

-- The text begins with a byte that may not stand in the part before it.
abbrev pub Stops : Sort → Str → Type 0
Stops sort [] = ⊥
Stops sort (b ∷ s) = byte_ok sort b ≡ false

-- A part, the text that closes it, and the rest.
pub record Piece (sort : Sort) (close s part rest : Str) : Type 0 where
  pub ok : All sort part
  pub spelled : s ≡ part · close · rest

-- The part that s begins with and the rest, or that there is none.
abbrev pub PieceSays : Sort → Str → Str → Option (Bor Str × Bor Str) → Type 0
PieceSays sort close s (Some p) = Piece sort close s p.0.now p.1.now
PieceSays sort close s None = (part rest : Str) → Piece sort close s part rest → ⊥

-- A query and the last two brackets.
pub record QueryEnd (s q : Str) : Type 0 where
  pub query_ok : All Query q
  pub spelled : s ≡ q · bytes "]]"

-- The query that s is up to its last two brackets, or that it is none.
abbrev pub QuerySays : Str → Option (Bor Str) → Type 0
QuerySays s (Some q) = QueryEnd s q.now
QuerySays s None = (q : Str) → QueryEnd s q → ⊥

-- A host, a query and the last two brackets.
pub record PairEnd (s host q : Str) : Type 0 where
  pub host_ok : All Query host
  pub query_ok : All Query q
  pub spelled : s ≡ host · bytes "] [" · q · bytes "]]"

-- The host and the query that s is up to its last two brackets, or that it is none.
abbrev pub PairSays : Str → Option Pair → Type 0
PairSays s (Some p) = PairEnd s p.host.now p.query.now
PairSays s None = (host q : Str) → PairEnd s host q → ⊥

-- What s is up to its last bracket, or that it does not end so.
abbrev pub LastSays : Str → Option (Bor Str) → Type 0
LastSays s r = MatchOption r ((part : Str) → s ≡ part · bytes "]" → ⊥) (λ part. s ≡ part.now · bytes "]")

-- The item that is written, or that none is.
abbrev pub ItemSays : Str → Option LidSymbol → Type 0
ItemSays s (Some c) = ItemText s c
ItemSays s None = (c : LidSymbol) → ItemText s c → ⊥

-- The item of a kind and of digits, or that they are no number.
abbrev pub NumberedSays : ItemKind → Str → Option LidSymbol → Type 0
NumberedSays k ds (Some c) = (c.kind ≡ k) × Numeral ds c.number
NumberedSays k ds None = (n : ℕ) → Numeral ds n → ⊥

-- An id, an item and the last bracket.
pub record IdEnd (s id : Str) (c : LidSymbol) : Type 0 where
  pub id_ok : All Word id
  pub id_some : 0 < length id
  pub word : Str
  pub item : ItemText word c
  pub spelled : s ≡ id · bytes " " · word · bytes "]"

-- The id and the item that s is up to its last bracket, or that it is none.
abbrev pub IdSays : Str → Option Tail → Type 0
IdSays s (Some t) = IdEnd s t.id.now t.item
IdSays s None = (id : Str) (c : LidSymbol) → IdEnd s id c → ⊥
