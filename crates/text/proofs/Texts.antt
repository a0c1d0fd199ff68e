-- Laws of string-compare, starts-with and all, by what is left from a position on.
use Prim.Native.Nat.{ℕ, ◌+◌, ◌-◌, ◌≤◌, ◌<◌, min, compare, Ordering}
use mathlib.Core.Path.{◌≡◌, refl, sym, ap, ◌∙◌}
use mathlib.Core.Bool.{Bool, false, ◌&&◌, and-true, and-false, and_assoc, or-false}
use mathlib.Core.List.{[], ◌∷◌}
use native.Mathlib.Decide.{ℕ_discrete}
use native.Mathlib.Omega.{arith}
use native.Mathlib.Numerals.{add-one}
use lib.Dec.{eqb, compare_is_eq, leb, leb-zero, leb-suc-zero, leb-suc-suc}
use borrow.Author.Tests.{eq-eqb, ne_eqb}
use lib.ListN.{length, get_or, take, drop, length-drop, drop_of_length-le}
use lib.Seq.{drop-cons, take_all}
use lib.Pointwise.{pointwise}
use Rattle.source.specs.Text.{Str, dot, then, string_compare, starts_with, common_prefix, name_byte, query_byte}
use Rattle.source.specs.Rules.{all}
use Rattle.source.proofs.Order.{Viewℕ, compare_view}
use Rattle.source.proofs.SharedBeginning.{common_same, common_differ}
use Rattle.text.specs.Text.{ordering, Compares}
use Rattle.std.specs.declared.cmp.Ordering.{Ordering as Order}
use Rattle.std.specs.declared.cmp.Ordering.TheVariants.{Less, Equal, Greater}
use Rattle.std.specs.Ordering.{MatchOrdering, nat_cmp}
use Rattle.std.proofs.lemmas.Cmp.{ranked}

-- The byte at a position, and what comes after it.
pub drop_at : (s : Str) (i : ℕ) → i < length s → drop i s ≡ get_or s i 0 ∷ drop (i + 1) s
drop_at s i h = rw (add-one, drop-cons s i 0)

-- What `&s[i..]` and `&s[i..i + n]` hold.
pub tail_is : (s : Str) (i : ℕ) → take (length s - i) (drop i s) ≡ drop i s
tail_is s i = take_all (length s - i) (drop i s) (omega (arith, length-drop i s))

pub part_is : (s : Str) (i n : ℕ) → take (i + n - i) (drop i s) ≡ take n (drop i s)
part_is s i n = let e : i + n - i ≡ n = omega arith in rw e

-- ---- Comparison

pub compare_is : (a b : ℕ) (o : Ordering) → Viewℕ a b o → compare a b ≡ o
compare_is a b o v = go (compare a b) o (compare_view a b) v
  where
    go : (p o : Ordering) → Viewℕ a b p → Viewℕ a b o → p ≡ o
    go Ordering.lt Ordering.lt u v = refl
    go Ordering.lt Ordering.eq u v = absurd (omega arith)
    go Ordering.lt Ordering.gt u v = absurd (omega arith)
    go Ordering.eq Ordering.lt u v = absurd (omega arith)
    go Ordering.eq Ordering.eq u v = refl
    go Ordering.eq Ordering.gt u v = absurd (omega arith)
    go Ordering.gt Ordering.lt u v = absurd (omega arith)
    go Ordering.gt Ordering.eq u v = absurd (omega arith)
    go Ordering.gt Ordering.gt u v = refl

-- What `x.cmp(&y)` answers.
pub order_is : (x y : ℕ) (o : Order) → o ≡ nat_cmp x y → ordering o ≡ compare x y
order_is x y o e = go o (ranked x y o e)
  where
    go : (p : Order) → MatchOrdering p (x < y) (x ≡ y) (y < x) → ordering p ≡ compare x y
    go Less h = sym (compare_is x y Ordering.lt h)
    go Equal h = sym (compare_is x y Ordering.eq h)
    go Greater h = sym (compare_is x y Ordering.gt h)

-- What is left from i on says how the whole compares, and how many leading bytes are equal.
pub record Comparing (a b : Str) (i : ℕ) : Type 0 where
  pub a_has : i ≤ length a
  pub b_has : i ≤ length b
  pub says : string_compare (drop i a) (drop i b) ≡ string_compare a b
  pub counts : i + length (common_prefix (drop i a) (drop i b)) ≡ length (common_prefix a b)

-- The first answer stands, where it does not say equal.
then_stands : (x y : ℕ) (o : Ordering) → (x ≡ y → ⊥) → then (compare x y) o ≡ compare x y
unfolding then
then_stands x y o n = go (compare x y) (compare_view x y)
  where
    go : (p : Ordering) → Viewℕ x y p → then p o ≡ p
    go Ordering.lt v = refl
    go Ordering.eq v = absurd (n v)
    go Ordering.gt v = refl

-- Of texts of which one is empty, the order is that of their lengths, and they share nothing.
pub record Ended (s t : Str) : Type 0 where
  pub says : string_compare s t ≡ compare (length s) (length t)
  pub none : common_prefix s t ≡ []

either_ends : (s t : Str) → min (length s) (length t) ≡ 0 → Ended s t
unfolding string_compare common_prefix
either_ends [] [] e = record { says = sym (compare_is 0 0 Ordering.eq refl); none = refl }
either_ends [] (b ∷ t) e = record { says = sym (compare_is 0 (length (b ∷ t)) Ordering.lt (omega arith)); none = refl }
either_ends (a ∷ s) [] e = record { says = sym (compare_is (length (a ∷ s)) 0 Ordering.gt (omega arith)); none = refl }
either_ends (a ∷ s) (b ∷ t) e = absurd (omega arith)

module _ {a b : Str} {i : ℕ} (f : Comparing a b i) where
  module _ (h : i < length a) (k : i < length b) where
    bytes_say : string_compare a b
        ≡ then (compare (get_or a i 0) (get_or b i 0)) (string_compare (drop (i + 1) a) (drop (i + 1) b))
    unfolding string_compare
    bytes_say = rw (← f.says, drop_at a i, drop_at b i)

    pub bytes_same : get_or a i 0 ≡ get_or b i 0 → Comparing a b (i + 1)
    unfolding then
    bytes_same e =
        let same : common_prefix (drop i a) (drop i b) ≡ get_or a i 0 ∷ common_prefix (drop (i + 1) a) (drop (i + 1) b) =
        rw (drop_at a i, drop_at b i) (common_same _ _ _ _ e) in
        record {
          a_has = omega arith;
          b_has = omega arith;
          says = rw (compare_is (get_or a i 0) (get_or b i 0) Ordering.eq e) at (sym bytes_say);
          counts = omega (arith, f.counts, ap length same);
        }

    pub bytes_differ : (get_or a i 0 ≡ get_or b i 0 → ⊥) → (o : Order)
        → ordering o ≡ compare (get_or a i 0) (get_or b i 0)
        → Compares a b (record { order = o; agree = i })
    bytes_differ n o e =
        let none : common_prefix (drop i a) (drop i b) ≡ [] = rw (drop_at a i, drop_at b i) (common_differ _ _ _ _ n) in
        record { order = e ∙ sym (bytes_say ∙ then_stands _ _ _ n); agree = omega (arith, f.counts, ap length none) }

  -- One of them ends at i.
  pub compares_ended : (n : ℕ) → n ≡ min (length a) (length b) → n ≤ i → (o : Order)
      → ordering o ≡ compare (length a) (length b) → Compares a b (record { order = o; agree = n })
  compares_ended n e h o p =
      record {
        order = p ∙ same_order ∙ sym x.says ∙ f.says;
        agree = omega (arith, f.counts, f.a_has, f.b_has, ap length x.none);
      }
    where
      x : Ended (drop i a) (drop i b)
      x = either_ends (drop i a) (drop i b) (omega (arith, length-drop i a, length-drop i b, f.a_has, f.b_has))

      view : (q : Ordering) → Viewℕ (length (drop i a)) (length (drop i b)) q → Viewℕ (length a) (length b) q
      view Ordering.lt v = omega (arith, length-drop i a, length-drop i b, f.a_has, f.b_has)
      view Ordering.eq v = omega (arith, length-drop i a, length-drop i b, f.a_has, f.b_has)
      view Ordering.gt v = omega (arith, length-drop i a, length-drop i b, f.a_has, f.b_has)

      same_order : compare (length a) (length b) ≡ compare (length (drop i a)) (length (drop i b))
      same_order = compare_is (length a) (length b) (compare (length (drop i a)) (length (drop i b)))
          (view (compare (length (drop i a)) (length (drop i b))) (compare_view (length (drop i a)) (length (drop i b))))

-- ---- Prefix

-- A text begins with another if as many leading bytes are equal as the other has.
pub starts_counted : (s p : Str) → leb (length p) (length (common_prefix s p)) ≡ starts_with s p
unfolding starts_with common_prefix
starts_counted s [] = leb-zero (length (common_prefix s []))
starts_counted [] (b ∷ p) = leb-suc-zero (length p)
starts_counted (a ∷ s) (b ∷ p) =
    elim (ℕ_discrete a b) [
      | yes e ↦ rw (common_same a b s p e, eq-eqb a b e) (leb-suc-suc (length p) (length (common_prefix s p)) ∙ starts_counted s p)
      | no n ↦ rw (common_differ a b s p n, ne_eqb a b n) (leb-suc-zero (length p))
    ]

pub starts_short : (s p : Str) → length s < length p → false ≡ starts_with s p
unfolding starts_with
starts_short s [] h = absurd (omega arith)
starts_short [] (b ∷ p) h = refl
starts_short (a ∷ s) (b ∷ p) h = rw (← starts_short s p (omega arith)) (sym (and-false (eqb a b)))

-- ---- Byte rules

pub other_byte : (b : ℕ) → (b ≡ dot → ⊥) → query_byte b ≡ name_byte b
unfolding query_byte
other_byte b n = rw (ne_eqb b dot n) (or-false (name_byte b))

-- The bytes before i are tested, and ok says whether each passed.
pub record Passing (p : ℕ → Bool) (s : Str) (ok : Bool) (i : ℕ) : Type 0 where
  pub within : i ≤ length s
  pub says : all p s ≡ ok && all p (drop i s)

module _ {p : ℕ → Bool} {s : Str} {ok : Bool} {i : ℕ} (f : Passing p s ok i) where
  pub pass_byte : i < length s → {b : Bool} → b ≡ p (get_or s i 0) → Passing p s (ok && b) (i + 1)
  unfolding all
  pass_byte h {b} e = record { within = omega arith; says = f.says ∙ rw (drop_at s i, ← e) (sym (and_assoc ok b (all p (drop (i + 1) s)))) }

  pub pass_end : length s ≤ i → ok ≡ all p s
  unfolding all
  pass_end h = rw (f.says, drop_of_length-le s h) (sym (and-true ok))

-- Whether two texts are equal, by which of the three orders it is.
pub same_order : {o k : Order} {y : Ordering} → ordering o ≡ y → o ≡ k → compare_is_eq (ordering k) ≡ compare_is_eq y
same_order e f = ap compare_is_eq (ap ordering (sym f) ∙ e)

-- What `s == t` answers.
pub equal_is : (s t : Str) → pointwise eqb s t ≡ compare_is_eq (string_compare s t)
unfolding string_compare then
equal_is [] [] = refl
equal_is [] (b ∷ t) = refl
equal_is (a ∷ s) [] = refl
equal_is (a ∷ s) (b ∷ t) =
    elim (ℕ_discrete a b) [
      | yes e ↦ rw (eq-eqb a b e, compare_is a b Ordering.eq e) (equal_is s t)
      | no n ↦ rw (ne_eqb a b n, then_stands a b (string_compare s t) n) (sym (differ (compare a b) (compare_view a b) n))
    ]
  where
    differ : {x y : ℕ} (o : Ordering) → Viewℕ x y o → (x ≡ y → ⊥) → compare_is_eq o ≡ false
    differ Ordering.lt v m = refl
    differ Ordering.eq v m = absurd (m v)
    differ Ordering.gt v m = refl
