-- Laws of a line's parts.
use mathlib.Core.Path.{◌≡◌, refl}
use mathlib.Core.List.{[], ◌∷◌, append_assoc}
use Prim.Native.Nat.{ℕ, ◌+◌}
use native.Mathlib.Omega.{arith}
use lib.IntN.{ℤ}
use lib.ListN.{length, length-append}
use borrow.Author.Tests.{eq-eqb, ne_eqb}
use Rattle.source.specs.Calls.{signed_word}
use Rattle.script_replies.specs.declared.ItemReply.{ItemReply}
use Rattle.script_decimal.specs.Bytes.{Str, ◌·◌, bytes}
use Rattle.script_decimal.specs.Numerals.{digits, decimal}
use Rattle.script_replies.specs.Replies.{signed, item_text, line_reply}

pub line_joined : (l : ℤ) (item : ItemReply) (annotation candidate : Str)
    → (bytes "[line " · signed l · bytes " " · item_text
    item) · bytes " [" · annotation · bytes "] " · candidate · bytes "]\n" ≡ line_reply l item annotation candidate
unfolding bytes line_reply
line_joined l item annotation candidate = simp append_assoc

-- A length that is a word.
pub word_minus : (m : ℕ) → m ≡ 4294967295 → signed (signed_word m) ≡ 45 ∷ 49 ∷ []
unfolding signed_word signed decimal digits bytes
word_minus m h = rw (eq-eqb m 4294967295 h, signed) refl

pub word_plus : (m : ℕ) → (m ≡ 4294967295 → ⊥) → signed (signed_word m) ≡ decimal m
unfolding signed_word signed
word_plus m h = rw (ne_eqb m 4294967295 h, signed) refl

pub row_size : (annotation candidate : Str) → length (annotation · bytes "] " · candidate · bytes "]\n")
    ≡ length annotation + length candidate + 4
unfolding bytes
row_size annotation candidate = simp length-append (omega arith)
