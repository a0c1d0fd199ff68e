-- The comparator on cells: the signed difference of priorities, and the source's run-cmp seen through cells.
use Prim.Native.Nat.{ℕ, zero, suc, ◌+◌, ◌-◌, ◌<◌, compare, Ordering, zero-le}
use mathlib.Core.Path.{◌≡◌, refl, ap, ap₂, ◌∙◌}
use mathlib.Core.Bool.{Bool, true, false, cond}
use mathlib.Core.List.{List, [], ◌∷◌}
use native.Mathlib.Omega.{arith}
use lib.Dec.{ltb}
use lib.IntN.{ℤ, pos, negsuc, ◌-ℤ◌}
use lib.ListN.{get_or, get_or-map, take, drop}
use lib.Seq.{get_or-drop}
use lib.Signed.{mag}
use mir.Syntax.{w32}
use mir.Val.{SFits, to_z, of_z}
use mir.ValLaws.{to_z-of_z}
use borrow.Author.Tests.{lt-ltb, le-ltb}
use Rattle.source.specs.Text.{Str, then, string_compare}
use Rattle.source.specs.Heap.{is_lt}
use Rattle.source.specs.Lists.{Run, run_cmp}
use Rattle.source.proofs.Order.{Viewℕ, compare_view}
use Rattle.text.specs.Text.{ordering}
use Rattle.text.proofs.Beginnings.{Bytes, Before, beginning_says}
use Rattle.memory.specs.Layout.{record_at, text_start, text_len, span, key_at}
use Rattle.std.specs.declared.cmp.Ordering.{Ordering as Order}
use Rattle.std.specs.declared.cmp.Ordering.TheVariants.{Less, Equal, Greater}
use Rattle.std.specs.Ordering.{is_lt as less, MatchOrdering, nat_cmp, int_cmp, ordering_then}
use Rattle.std.proofs.lemmas.Cmp.{ranked}
use Rattle.merge_heads.specs.declared.Cell.{Cell}
use Rattle.merge_heads.specs.Compare.{heads, beginnings, Head, cell_cmp, sign, Stands}
use Rattle.merge_heads.proofs.Heads.{empty}

-- ---- Signed differences of small numbers
small : (n : ℕ) → n < 96 → to_z w32 n ≡ pos n
small n h = to_z-of_z w32 (pos n) (record { sfits = omega arith })

read_difference : (a b : ℕ) → a < 96 → b < 96 → to_z w32 a -ℤ to_z w32 b ≡ pos a -ℤ pos b
read_difference a b h k = ap₂ ◌-ℤ◌ (small a h) (small b k)

mag_cond : (b : Bool) (x y : ℕ) → x < 96 → y < 96 → mag (cond b (negsuc x) (pos y)) < 96
mag_cond true x y h k = h
mag_cond false x y h k = k

mag_difference : (a b : ℕ) → a < 96 → b < 96 → mag (pos a -ℤ pos b) < 96
mag_difference a zero h k = omega arith
mag_difference a (suc b) h k = mag_cond (ltb a (suc b)) (suc b - suc a) (a - suc b) (omega arith) (omega arith)

pub difference_fits : (a b : ℕ) → a < 96 → b < 96 → SFits w32 (to_z w32 a -ℤ to_z w32 b)
difference_fits a b h k = rw (read_difference a b h k) (record { sfits = omega (arith, mag_difference a b h k) })

-- What a read of the difference says.
pub difference_is : (a b : ℕ) → a < 96 → b < 96 → to_z w32 (of_z w32 (to_z w32 a -ℤ to_z w32 b)) ≡ pos a -ℤ pos b
difference_is a b h k = to_z-of_z w32 _ (difference_fits a b h k) ∙ read_difference a b h k

sign_pos : (n : ℕ) → 0 < n → sign (pos n) ≡ Ordering.gt
sign_pos zero h = absurd (omega arith)
sign_pos (suc n) h = refl

-- The sign of a difference compares.
sign_difference : (a b : ℕ) → sign (pos a -ℤ pos b) ≡ compare a b
sign_difference a b = go b (compare a b) (compare_view a b)
  where
    go : (b : ℕ) (o : Ordering) → Viewℕ a b o → sign (pos a -ℤ pos b) ≡ o
    go zero Ordering.lt v = absurd (omega arith)
    go zero Ordering.eq v = let e : a + 0 ≡ 0 = omega arith in rw e
    go zero Ordering.gt v = sign_pos (a + 0) (omega arith)
    go (suc b) Ordering.lt v = rw (lt-ltb a (suc b) v)
    go (suc b) Ordering.eq v = let e : a - suc b ≡ 0 = omega arith in rw (le-ltb a (suc b) (omega arith), e)
    go (suc b) Ordering.gt v = rw (le-ltb a (suc b) (omega arith)) (sign_pos (a - suc b) (omega arith))

-- A number's order against 0 is its sign.
sign_cmp : (z : ℤ) → ordering (int_cmp z (pos 0)) ≡ sign z
sign_cmp (negsuc k) = refl
sign_cmp (pos zero) = refl
sign_cmp (pos (suc k)) = rw (le-ltb (suc k) 0 zero-le, lt-ltb 0 (suc k) (omega arith)) refl

-- What the order of a read of the difference against 0 says of two places.
pub by_place : (a b : ℕ) → a < 96 → b < 96 → (z : ℤ) (o : Order) → z ≡ pos a -ℤ pos b
    → o ≡ int_cmp (to_z w32 (of_z w32 z)) (pos 0) → ordering o ≡ compare a b
by_place a b h k z o e f =
    let g : to_z w32 (of_z w32 z) ≡ pos a -ℤ pos b =
    rw e (to_z-of_z w32 _ (record { sfits = omega (arith, mag_difference a b h k) })) in
    rw f (sign_cmp (to_z w32 (of_z w32 z)) ∙ ap sign g ∙ sign_difference a b)

-- ---- The comparator

-- A part of bytes is of bytes.
take_bytes : (n : ℕ) (s : Str) → Bytes s → Bytes (take n s)
take_bytes zero s b j = omega arith
take_bytes (suc n) [] b j = omega arith
take_bytes (suc n) (x ∷ s) b zero = b 0
take_bytes (suc n) (x ∷ s) b (suc j) = take_bytes n s (λ i. b (suc i)) j

key_bytes : (ws txt : List ℕ) (x : ℕ) → Bytes txt → Bytes (key_at ws txt x)
unfolding key_at span
key_bytes ws txt x b =
    let at = text_start (record_at ws x) in
    take_bytes (text_len (record_at ws x)) (drop at txt) (λ j. rw (get_or-drop at txt j 0) (b (at + j)))

-- Cells whose beginnings are not the same stand as these do.
pub by_beginning : {ws txt : List ℕ} (cells : List Cell) {a b : ℕ} → Bytes txt
    → Head ws txt (heads cells) (beginnings cells) a
    → Head ws txt (heads cells) (beginnings cells) b
    → (o : Order) → o ≡ nat_cmp (get_or cells a empty).beginning (get_or cells b empty).beginning → (o ≡ Equal → ⊥)
    → ordering o ≡ cell_cmp ws txt (heads cells) a b
unfolding cell_cmp then
by_beginning {ws} {txt} cells {a} {b} f h k o e ne = go o (ranked _ _ o e) ne
  where
    x : Str
    x = key_at ws txt (get_or (heads cells) a 0)

    y : Str
    y = key_at ws txt (get_or (heads cells) b 0)

    at_a : get_or (beginnings cells) a 0 ≡ (get_or cells a empty).beginning
    at_a = get_or-map (λ c. c.beginning) cells a empty

    at_b : get_or (beginnings cells) b 0 ≡ (get_or cells b empty).beginning
    at_b = get_or-map (λ c. c.beginning) cells b empty

    go : (o : Order) → MatchOrdering o ((get_or cells a empty).beginning < (get_or cells b empty).beginning)
        ((get_or cells a empty).beginning ≡ (get_or cells b empty).beginning)
        ((get_or cells b empty).beginning < (get_or cells a empty).beginning)
        → (o ≡ Equal → ⊥) → ordering o ≡ then (string_compare x y) (compare a b)
    go Less l n =
        let r : Before x y =
        beginning_says x y (key_bytes ws txt (get_or (heads cells) a 0) f) (key_bytes ws txt (get_or (heads cells) b 0) f)
        (omega (arith, h.begun, k.begun, at_a, at_b)) in
        rw r.is_less
    go Equal l n = absurd (n refl)
    go Greater l n =
        let r : Before y x =
        beginning_says y x (key_bytes ws txt (get_or (heads cells) b 0) f) (key_bytes ws txt (get_or (heads cells) a 0) f)
        (omega (arith, h.begun, k.begun, at_a, at_b)) in
        rw r.is_more

-- Others by their keys, and by their places where those are the same.
pub by_key : (ws txt : List ℕ) (cells : List Cell) (a b : ℕ) (o p : Order) {r : Order} → r ≡ ordering_then o p
    → ordering o
    ≡ string_compare (key_at ws txt (get_or cells a empty).head) (key_at ws txt (get_or cells b empty).head)
    → ordering p ≡ compare a b → ordering r ≡ cell_cmp ws txt (heads cells) a b
unfolding cell_cmp then
by_key ws txt cells a b o p e f g =
    rw (e, get_or-map (λ c. c.head) cells a empty, get_or-map (λ c. c.head) cells b empty, ← f, ← g) (go o p)
  where
    go : (o p : Order) → ordering (ordering_then o p) ≡ then (ordering o) (ordering p)
    go Less p = refl
    go Equal p = refl
    go Greater p = refl

-- What the test of an answer says.
pub is_lt_test : (o : Order) {p : Ordering} {t b : Bool} → ordering o ≡ p → t ≡ less o → t ≡ b → is_lt p ≡ b
unfolding is_lt
is_lt_test o e f g = rw (← e, ← g, f) (go o)
  where
    go : (o : Order) → is_lt (ordering o) ≡ less o
    go Less = refl
    go Equal = refl
    go Greater = refl

-- run-cmp, seen through cells.
pub cell_cmp_run : {A : Type 0} (key : A → Str) (ws txt heads : List ℕ) (a b : ℕ) {r r₂ : Run A}
    → Stands key ws txt heads a r → Stands key ws txt heads b r₂ → run_cmp key r r₂ ≡ cell_cmp ws txt heads a b
unfolding cell_cmp run_cmp
cell_cmp_run key ws txt heads a b p q = rw (p.key_is, q.key_is, p.priority_is, q.priority_is)
