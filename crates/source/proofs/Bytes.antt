-- The bytes that the requirements allows, one by one: of names, of queries, labels and full names, of file paths.
use Prim.Native.Nat.{ℕ, zero, suc, ◌<◌}
use mathlib.Core.Path.{◌≡◌, refl}
use mathlib.Core.Bool.{Bool, true, false, cond}
use mathlib.Core.List.{List, [], ◌∷◌}
use native.Mathlib.Omega.{arith}
use lib.Dec.{leb, eqb}
use borrow.Author.Tests.{le-leb, lt-leb, ne_eqb}
use Rattle.source.specs.Text.{dot, name_byte, query_byte, path_byte}
use Rattle.source.proofs.Quoted.{bytes}

-- The numbers below n, ascending, before xs.
unfoldable pub below : ℕ → List ℕ → List ℕ
below zero xs = xs
below (suc n) xs = below n (n ∷ xs)

-- Those that pass the test.
unfoldable pub passing : (ℕ → Bool) → List ℕ → List ℕ
passing p [] = []
passing p (b ∷ l) = cond (p b) (b ∷ passing p l) (passing p l)

-- Of the 256 bytes these are name bytes.
pub name_bytes : passing name_byte (below 256 [])
    ≡ bytes "!\"#$%&'()*+,-/0123456789:;<=>?@ABCDEFGHIJKLMNOPQRSTUVWXYZ\\^_`abcdefghijklmnopqrstuvwxyz{|}~"
unfolding below passing bytes name_byte
name_bytes = refl

-- These are allowed in a query, a label and a full name.
pub query_bytes : passing query_byte (below 256 [])
    ≡ bytes "!\"#$%&'()*+,-./0123456789:;<=>?@ABCDEFGHIJKLMNOPQRSTUVWXYZ\\^_`abcdefghijklmnopqrstuvwxyz{|}~"
unfolding below passing bytes name_byte query_byte
query_bytes = refl

-- These are allowed in a file path.
pub path_bytes : passing path_byte (below 256 [])
    ≡ bytes " !\"#$%&'()*+,-./0123456789:;<=>?@ABCDEFGHIJKLMNOPQRSTUVWXYZ[\\]^_`abcdefghijklmnopqrstuvwxyz{|}~"
unfolding below passing bytes path_byte
path_bytes = refl

-- No number above hexadecimal 7E is allowed anywhere.
pub none_above : (b : ℕ) → 126 < b → (name_byte b ≡ false) × (query_byte b ≡ false) × (path_byte b ≡ false)
unfolding name_byte query_byte path_byte
none_above b h =
    let low : leb 33 b ≡ true = le-leb 33 b (omega arith) in
    let space : leb 32 b ≡ true = le-leb 32 b (omega arith) in
    let high : leb b 126 ≡ false = lt-leb b 126 h in
    let dotted : eqb b dot ≡ false = ne_eqb b dot (λ e. omega arith) in
    (rw (low, high), rw (low, high, dotted), rw (space, high))
