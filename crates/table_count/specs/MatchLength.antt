-- The match length of a line struct.
use Rattle.std.specs.Prelude.{ℕ, eqb, ltb, ℤ, pos, negsuc}
use Rattle.memory.specs.Layout.{pick}

-- A length that 32 bits with a sign hold. A longer one is never met: a sound table's lines have at most 543 (crates/table_typed/proofs/MatchLength.antt).
abbrev pub held : ℕ → ℤ
held m = pick (ltb 2147483647 m) (pos 2147483647) (pos m)

-- The match length that a word holds.
abbrev pub held_length : ℕ → ℤ
held_length m = pick (eqb m 4294967295) (negsuc 0) (held m)
