-- Words spelled by bytes: which bytes a word depends on, words put one after another, and words read back.
use Prim.Native.Nat.{ℕ, zero, suc, ◌+◌, ◌*◌, ◌/◌, ◌%◌, ◌≤◌, ◌<◌}
use mathlib.Core.Path.{◌≡◌, refl, sym, ap, ◌∙◌}
use mathlib.Core.List.{List, [], ◌∷◌}
use mathlib.Core.Bool.{Bool, true, false}
use mathlib.Core.Logic.{⊎_elim}
use native.Mathlib.Nat.{eq-or-lt_of_le}
use native.Mathlib.Omega.{arith}
use native.Mathlib.Numerals.{add-one}
use lib.ListN.{length, get_or, set, take, length-set, length-append, get_or-append}
use lib.Dec.{ltb}
use borrow.Author.Tests.{ltb-true, ltb-false}
use lib.Seq.{ext_get_or, get_or-set_same, get_or-set_other, get_or-take, get_or_at, take-suc-set}
use Rattle.source.specs.Lent.{Outside}
use Rattle.memory_bytes.specs.Bytes.{word_at, words_at, Put, Stored}
use Rattle.source.proofs.Outside.{outside_set, outside_then, outside_wider, getD_before, get_d_after}

-- ---- One word

word_same : (k : ℕ) (bs bs' : List ℕ) → ((j : ℕ) → j < 4 → get_or bs' (k * 4 + j) 0 ≡ get_or bs (k * 4 + j) 0)
    → word_at bs' k ≡ word_at bs k
unfolding word_at
word_same k bs bs' h =
    let z : k * 4 + 0 ≡ k * 4 = omega arith in
    omega (arith, rw z at (h 0 (omega arith)), h 1 (omega arith), h 2 (omega arith), h 3 (omega arith))

module _ {a b : ℕ} {bs bs' : List ℕ} (p : Outside a b bs bs') (k : ℕ) where
  pub word_before : k * 4 + 4 ≤ a → word_at bs' k ≡ word_at bs k
  word_before h = word_same k bs bs' (λ j g. getD_before p (k * 4 + j) (omega arith))

  pub word_after : b ≤ k * 4 → word_at bs' k ≡ word_at bs k
  word_after h = word_same k bs bs' (λ j g. get_d_after p (k * 4 + j) (omega arith))

-- The four bytes of a word are it.
bytes_word : (w : ℕ) → w % 256 + 256 * (w / 256 % 256) + 65536 * (w / 65536 % 256) + 16777216 * (w / 16777216) ≡ w
bytes_word w = omega arith

-- Four bytes stored one after another are a word put.
module _ (bs : List ℕ) (k a b c d : ℕ) where
  abbrev set₁ : List ℕ
  set₁ = set bs (k * 4) a

  abbrev set₂ : List ℕ
  set₂ = set set₁ (k * 4 + 1) b

  abbrev set₃ : List ℕ
  set₃ = set set₂ (k * 4 + 2) c

  abbrev set₄ : List ℕ
  set₄ = set set₃ (k * 4 + 3) d

  module _ (room : k * 4 + 4 ≤ length bs) where
    room₁ : k * 4 + 1 < length set₁
    room₁ = rw length-set (omega arith)

    room₂ : k * 4 + 2 < length set₂
    room₂ = rw (length-set, length-set) (omega arith)

    room₃ : k * 4 + 3 < length set₃
    room₃ = rw (length-set, length-set, length-set) (omega arith)

    lowest_byte : get_or set₄ (k * 4) 0 ≡ a
    lowest_byte =
        get_or-set_other set₃ (k * 4 + 3) (k * 4) d 0 (λ e. omega arith)
        ∙ get_or-set_other set₂ (k * 4 + 2) (k * 4) c 0 (λ e. omega arith)
        ∙ get_or-set_other set₁ (k * 4 + 1) (k * 4) b 0 (λ e. omega arith)
        ∙ get_or-set_same bs (k * 4) a 0 (omega arith)

    second_byte : get_or set₄ (k * 4 + 1) 0 ≡ b
    second_byte =
        get_or-set_other set₃ (k * 4 + 3) (k * 4 + 1) d 0 (λ e. omega arith)
        ∙ get_or-set_other set₂ (k * 4 + 2) (k * 4 + 1) c 0 (λ e. omega arith)
        ∙ get_or-set_same set₁ (k * 4 + 1) b 0 room₁

    third_byte : get_or set₄ (k * 4 + 2) 0 ≡ c
    third_byte = get_or-set_other set₃ (k * 4 + 3) (k * 4 + 2) d 0 (λ e. omega arith) ∙ get_or-set_same set₂ (k * 4 + 2) c 0 room₂

    fourth_byte : get_or set₄ (k * 4 + 3) 0 ≡ d
    fourth_byte = get_or-set_same set₃ (k * 4 + 3) d 0 room₃

    put_rest : Outside (k * 4) (k * 4 + 4) bs set₄
    put_rest =
        outside_then (outside_set bs a (omega arith) (omega arith))
        (outside_then (outside_set set₁ b (omega arith) (omega arith))
        (outside_then (outside_set set₂ c (omega arith) (omega arith)) (outside_set set₃ d (omega arith) (omega arith))))

    pub word_put : (w : ℕ) → a ≡ w % 256 → b ≡ w / 256 % 256 → c ≡ w / 65536 % 256 → d ≡ w / 16777216
        → Put k w bs set₄
    unfolding word_at
    word_put w p q r s = record { word = omega (arith, lowest_byte, second_byte, third_byte, fourth_byte, bytes_word w); rest = put_rest }

-- ---- Words one after another

pub words_length : (bs : List ℕ) (n : ℕ) → length (words_at bs n) ≡ n
unfolding words_at
words_length bs zero = refl
words_length bs (suc n) = omega (arith, length-append (words_at bs n) (word_at bs n ∷ []), words_length bs n)

pub words_getD : (bs : List ℕ) (n k : ℕ) → k < n → get_or (words_at bs n) k 0 ≡ word_at bs k
unfolding words_at
words_getD bs zero k h = absurd (omega arith)
words_getD bs (suc n) k h =
    ⊎_elim
    (λ e. rw e (get_or_at (words_at bs n) (word_at bs n) [] 0 n (words_length bs n)))
    (λ g. get_or-append (words_at bs n) (word_at bs n ∷ []) 0 k (rw words_length g) ∙ words_getD bs n k g)
    (eq-or-lt_of_le {n = k} {m = n} (omega arith))

-- A loop that reads words has read the first i.
pub record Loading (bs ws ws' : List ℕ) (i n : ℕ) : Type 0 where
  pub below : i ≤ n
  pub words : take i ws' ≡ words_at bs i
  pub size : length ws' ≡ length ws

pub loading_none : (bs ws : List ℕ) (n : ℕ) → Loading bs ws ws 0 n
unfolding words_at
loading_none bs ws n = record { below = omega arith; words = refl; size = refl }

pub loading_more : {bs ws ws' : List ℕ} {i n w : ℕ} → i < length ws' → i < n → w ≡ word_at bs i → Loading bs ws ws' i n
    → Loading bs ws (set ws' i w) (i + 1) n
unfolding words_at
loading_more {bs} {ws} {ws'} {i} {n} {w} h g e p = record {
  below = omega arith;
  words = rw (add-one, take-suc-set ws' i w h, p.words, e);
  size = length-set ws' i w ∙ p.size;
}

pub loading_done : {bs ws ws' : List ℕ} {i n : ℕ} → n ≤ i → Loading bs ws ws' i n → take n ws' ≡ words_at bs n
loading_done {i = i} {n = n} h p = let e : i ≡ n = omega (arith, p.below) in rw e at p.words

-- A loop that stores words has stored those from a place up to i.
pub record Storing (ws : List ℕ) (from to : ℕ) (bs bs' : List ℕ) (i : ℕ) : Type 0 where
  pub above : from ≤ i
  pub words : (k : ℕ) → from ≤ k → k < i → word_at bs' k ≡ get_or ws k 0
  pub rest : Outside (from * 4) (to * 4) bs bs'

pub storing_more : {ws bs bs' bs'' : List ℕ} {from to i : ℕ} → i < to → Put i (get_or ws i 0) bs' bs''
    → Storing ws from to bs bs' i → Storing ws from to bs bs'' (i + 1)
storing_more {ws} {bs} {bs'} {bs''} {from} {to} {i} h p s = record {
  above = omega (arith, s.above);
  words = λ k g l. ⊎_elim (last k) (earlier k g) (eq-or-lt_of_le {n = k} {m = i} (omega arith));
  rest = outside_then s.rest (outside_wider _ _ (omega (arith, s.above)) (omega arith) p.rest);
} where
  last : (k : ℕ) → k ≡ i → word_at bs'' k ≡ get_or ws k 0
  last k e = rw e p.word

  earlier : (k : ℕ) → from ≤ k → k < i → word_at bs'' k ≡ get_or ws k 0
  earlier k g l = word_before p.rest k (omega arith) ∙ s.words k g l

-- Words that were changed from a place up to another, and stored there, are read back.
module _ {bs bs' ws new : List ℕ} (n : ℕ) {from to : ℕ} (changed : Outside from to (words_at bs n) new)
    (lent : take n ws ≡ new) (stored : Stored ws from to bs bs') where
  below : (k : ℕ) → k < n → k < from → word_at bs' k ≡ get_or new k 0
  below k h g = word_before stored.rest k (omega arith) ∙ sym (getD_before changed k g ∙ words_getD bs n k h)

  above : (k : ℕ) → k < n → to ≤ k → word_at bs' k ≡ get_or new k 0
  above k h g = word_after stored.rest k (omega arith) ∙ sym (get_d_after changed k g ∙ words_getD bs n k h)

  between : (k : ℕ) → k < n → from ≤ k → k < to → word_at bs' k ≡ get_or new k 0
  between k h g l = stored.words k g l ∙ sym (ap (λ (x : List ℕ). get_or x k 0) (sym lent) ∙ get_or-take n ws k 0 h)

  each : (k : ℕ) → k < n → (p q : Bool) → ltb k from ≡ p → ltb k to ≡ q → word_at bs' k ≡ get_or new k 0
  each k h true q e f = below k h (ltb-true k from e)
  each k h false true e f = between k h (ltb-false k from e) (ltb-true k to f)
  each k h false false e f = above k h (ltb-false k to f)

  pub read_back : words_at bs' n ≡ new
  read_back =
      ext_get_or 0 (words_at bs' n) new (words_length bs' n ∙ sym (changed.size ∙ words_length bs n))
      (λ k h. let g : k < n = omega (arith, words_length bs' n) in words_getD bs' n k g ∙ each k g _ _ refl refl)
