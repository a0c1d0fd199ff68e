-- Laws of texts, or words, that are written one after another.
use mathlib.Core.Path.{◌≡◌, refl, sym, ap, ap₂, ◌∙◌}
use mathlib.Core.List.{List, [], ◌∷◌, ◌++◌, append_assoc, append-nil}
use Prim.Native.Nat.{ℕ, ◌+◌, ◌-◌, ◌<◌, ◌≤◌}
use native.Mathlib.Omega.{arith}
use native.Mathlib.Numerals.{add-one}
use lib.ListN.{length, take, drop, set, length-append, length-drop, take-append-drop}
use lib.Seq.{take_all, length-take-le, take_at, drop_at, drop-drop, drop-length, set_split}
use borrow.Rule.Slice.PartMut.{put_mid, mid_of}
use Rattle.text.specs.Laid.{Laid}

pub laid_length : {d d' s : List ℕ} {at r : ℕ} → Laid d d' at r s → length d' ≡ length d
laid_length {d} {d'} {s} {at} {r} x =
    ap length x.is
    ∙ length-append (take at d) (s ++ drop r d)
    ∙ (rw (length-append s (drop r d), length-take-le at d (omega (arith, x.end, x.fits)), length-drop r d) (omega (arith, x.end, x.fits)))

pub laid_none : (d : List ℕ) (at r : ℕ) → r ≡ at → r ≤ length d → Laid d d at r []
laid_none d at r e h = record { end = omega arith; fits = h; is = rw e (sym (take-append-drop at d)) }

-- One text, then the next.
pub laid_more : {d d' d'' s t : List ℕ} {at r r' : ℕ} → Laid d d' at r s → Laid d' d'' r r' t
    → Laid d d'' at r' (s ++ t)
laid_more {d} {d'} {d''} {s} {t} {at} {r} {r'} x y =
    record {
      end = omega (arith, x.end, y.end, length-append s t);
      fits = omega (arith, y.fits, laid_length x);
      is = y.is ∙ rw (
        front,
        back,
      ) (append_assoc (take at d) s (t ++ drop r' d)
          ∙ ap (λ (xs : List ℕ). take at d ++ xs) (sym (append_assoc s t (drop r' d))));
    }
  where
    whole : d' ≡ (take at d ++ s) ++ drop r d
    whole = x.is ∙ sym (append_assoc (take at d) s (drop r d))

    size : length (take at d ++ s) ≡ r
    size = length-append (take at d) s ∙ rw (length-take-le at d (omega (arith, x.end, x.fits))) (sym x.end)

    front : take r d' ≡ take at d ++ s
    front = ap (take r) whole ∙ take_at (take at d ++ s) (drop r d) r size

    back : drop r' d' ≡ drop r' d
    back =
        rw y.end (sym (drop-drop (length t) r d')
        ∙ ap (drop (length t)) (ap (drop r) whole ∙ drop_at (take at d ++ s) (drop r d) r size)
        ∙ drop-drop (length t) r d)

-- One text, then a byte.
pub laid_next : {d d' s : List ℕ} {at r : ℕ} (c : ℕ) → Laid d d' at r s → r < length d
    → Laid d (set d' r c) at (r + 1) (s ++ (c ∷ []))
laid_next {d} {d'} {s} {at} {r} c x h =
    laid_more x (record {
      end = refl;
      fits = omega (arith, laid_length x);
      is = rw (add-one r) (set_split d' r c (omega (arith, laid_length x)));
    })

-- ---- A part that is lent on, `&mut d[at..]`

part_all : (d : List ℕ) (at : ℕ) → at ≤ length d → mid_of at (length d - at) d ≡ drop at d
part_all d at h = take_all (length d - at) (drop at d) (omega (arith, length-drop at d))

none_after : (d : List ℕ) (at : ℕ) → at ≤ length d → drop (length d - at) (drop at d) ≡ []
none_after d at h = ap (λ (n : ℕ). drop n (drop at d)) (sym (length-drop at d)) ∙ drop-length (drop at d)

-- What is written at the start of the part stands from at on.
pub lent_laid : {d d'' s : List ℕ} {r : ℕ} (at : ℕ) → at ≤ length d → Laid (mid_of at (length d - at) d) d'' 0 r s
    → Laid d (put_mid at (length d - at) d d'') at (at + r) s
lent_laid {d} {d''} {s} {r} at h x = record {
  end = omega (arith, x.end);
  fits = omega (arith, x.fits, ap length (part_all d at h), length-drop at d);
  is = ap₂ (λ (u v : List ℕ). take at d ++ (u ++ v)) (x.is ∙ ap (λ (z : List ℕ). s ++ drop r z) (part_all d at h)) (none_after d at h)
      ∙ ap (λ (z : List ℕ). take at d ++ z) (append-nil (s ++ drop r (drop at d)))
      ∙ ap (λ (z : List ℕ). take at d ++ (s ++ z)) (drop-drop r at d);
}

pub room_left : (d : List ℕ) (at n : ℕ) → at + n ≤ length d → n ≤ length (mid_of at (length d - at) d)
room_left d at n h = omega (arith, ap length (part_all d at (omega arith)), length-drop at d)
