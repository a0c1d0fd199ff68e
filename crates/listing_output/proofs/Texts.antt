-- The texts and words of a line, written one after another.
use Prim.Native.Nat.{ℕ, zero, suc, ◌+◌, ◌-◌, ◌<◌, ◌≤◌}
use mathlib.Core.Path.{◌≡◌, refl, sym, ap, ◌∙◌}
use mathlib.Core.List.{List, [], ◌∷◌, ◌++◌}
use native.Mathlib.Omega.{arith}
use native.Mathlib.Numerals.{add-one}
use lib.ListN.{length, get_or, set, take, drop, length-append, take-append-drop}
use lib.Seq.{take-length, length-take-le}
use Rattle.std.proofs.Common.{length-take, get_or-take}
use Rattle.source.specs.Text.{dot}
use Rattle.memory.specs.Layout.{key_at}
use Rattle.memory.specs.Grown.{put_text}
use Rattle.text.specs.Laid.{Laid}
use Rattle.text.proofs.Laid.{laid_length, laid_none, laid_more, laid_next}
use Rattle.memory_bytes.specs.Bytes.{Stored}
use Rattle.memory_bytes.proofs.Parts.{words_front, words_stored}
use Rattle.listing_output.specs.Path.{joined}
use Rattle.listing_output.specs.Output.{line_bytes, line_words}

module _ {d d' s t : List ℕ} where
  pub text_laid : {n : ℕ} → n ≡ length t → length t ≤ length d → s ≡ t → d' ≡ put_text d 0 s → Laid d d' 0 n t
  unfolding put_text
  text_laid {n} l h e f = record {
    end = omega arith;
    fits = omega arith;
    is = f ∙ rw (e, take-length t) (ap (λ k. t ++ drop k d) (let z : 0 + length t ≡ n = omega arith in z));
  }

-- Words stored at the start: the bytes of a line.
module _ {d d' t : List ℕ} (size : length t ≡ 12) (room : line_bytes ≤ length d) (s : Stored t 0 12 d d') where
  pub row_laid : Laid d d' 0 line_bytes (take line_bytes d')
  row_laid = record {
    end = omega (arith, length-take-le line_bytes d' (omega (arith, s.rest.size)));
    fits = room;
    is = sym (take-append-drop line_bytes d') ∙ ap (λ l. take line_bytes d' ++ l) s.rest.after;
  }

  pub row_spelled : line_words (take line_bytes d') ≡ t
  row_spelled =
      sym (words_front (take line_bytes d') (drop line_bytes d') 12 (omega (arith, length-take-le line_bytes d' (omega (arith, s.rest.size)))))
      ∙ ap line_words (take-append-drop line_bytes d') ∙ words_stored size s

-- ---- The path of a candidate

module _ (ws txt links : List ℕ) where
  pub joined_more : (i : ℕ)
      → joined ws txt links (i + 1) ≡ joined ws txt links i ++ (key_at ws txt (get_or links i 0) ++ (dot ∷ []))
  unfolding joined
  joined_more i = rw (add-one i)

  pub joined_length : (i : ℕ) → length (joined ws txt links (i + 1))
      ≡ length (joined ws txt links i) + length (key_at ws txt (get_or links i 0)) + 1
  joined_length i = rw (joined_more i) (simp length-append (omega arith))

  joined_grows : (i k : ℕ) → length (joined ws txt links i) ≤ length (joined ws txt links (i + k))
  joined_grows i zero = let e : i + 0 ≡ i = omega arith in rw e (omega arith)
  joined_grows i (suc k) = let e : i + suc k ≡ i + k + 1 = omega arith in rw e (omega (arith, joined_grows i k, joined_length (i + k)))

-- A link of the path, by its place among those that are read.
pub link_at : (links : List ℕ) (n i : ℕ) → i < length (take n links)
    → (i < n) × (get_or (take n links) i 0 ≡ get_or links i 0)
link_at links n i h = let k : i < n = omega (arith, length-take n links) in (k, get_or-take n links i 0 k)

-- The loop has written the first i keys of the path, each with a dot.
pub record Joining (ws txt links : List ℕ) (n : ℕ) (d out : List ℕ) (at end i : ℕ) : Type 0 where
  pub below : i ≤ n
  pub written : Laid d out at end (joined ws txt links i)

module _ {ws txt links : List ℕ} {n : ℕ} {d : List ℕ} {at : ℕ} where
  pub joining_none : at ≤ length d → Joining ws txt links n d d at at 0
  unfolding joined
  joining_none h = record { below = omega arith; written = laid_none d at at refl h }

  module _ {out : List ℕ} {end i : ℕ} (g : Joining ws txt links n d out at end i) where
    -- The next key and its dot fit.
    pub joining_room : i < n → at + length (joined ws txt links n) ≤ length d
        → end + length (key_at ws txt (get_or links i 0)) < length out
    joining_room h room =
        let e : i + 1 + (n - (i + 1)) ≡ n = omega arith in
        omega (arith, g.written.end, laid_length g.written, joined_length ws txt links i, (rw e at (joined_grows ws txt links (i + 1) (n - (i + 1)))))

    pub joining_more : {out' : List ℕ} {end' : ℕ} → i < n → at + length (joined ws txt links n) ≤ length d
        → Laid out out' end end' (key_at ws txt (get_or links i 0))
        → Joining ws txt links n d (set out' end' 46) at (end' + 1) (i + 1)
    joining_more h room x = record {
      below = omega arith;
      written = rw (joined_more ws txt links i) (laid_more g.written (laid_next 46 x (omega (arith, x.end, joining_room h room))));
    }

    pub joining_done : n ≤ i → Laid d out at end (joined ws txt links n)
    joining_done h = let e : i ≡ n = omega arith in rw e at g.written
