-- What the functions on bytes are proved against, beside the source's definitions.
use Prim.Native.Nat.{ℕ, zero, suc, ◌+◌, ◌*◌, Ordering}
use Rattle.std.specs.Prelude.{◌≡◌, length, get_or}
use Rattle.source.specs.Text.{Str, string_compare, common_prefix}
use Rattle.std.specs.declared.cmp.Ordering.{Ordering as Order}
use Rattle.std.specs.declared.cmp.Ordering.TheVariants.{Less, Equal, Greater}
use Rattle.text.specs.declared.Comparison.{Comparison}

-- The source's answer that an answer of string_compare stands for.
abbrev pub ordering : Order → Ordering
ordering Less = Ordering.lt
ordering Equal = Ordering.eq
ordering Greater = Ordering.gt

-- How two texts compare: the source's order, and the bytes of the longest beginning that both have.
pub record Compares (a b : Str) (r : Comparison) : Type 0 where
  pub order : ordering r.order ≡ string_compare a b
  pub agree : r.agree ≡ length (common_prefix a b)

-- The number of the first k bytes, the first one the highest, with 0 past the end.
unfoldable pub leading : ℕ → Str → ℕ
leading zero s = 0
leading (suc k) s = leading k s * 256 + get_or s k 0

-- That of the first eight.
abbrev pub beginning : Str → ℕ
beginning s = leading 8 s
