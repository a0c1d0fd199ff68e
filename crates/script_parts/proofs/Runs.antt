-- Laws of runs of bytes, and of a part that a text begins with.
use mathlib.Core.Path.{◌≡◌, refl, sym, ap, ◌∙◌}
use mathlib.Core.Bool.{Bool, true, false, cond}
use mathlib.Core.List.{[], ◌∷◌, ◌++◌}
use Prim.Native.Nat.{ℕ, suc, ◌+◌, ◌<◌, ◌≤◌, zero-le}
use native.Mathlib.Omega.{arith}
use lib.ListN.{length, get_or, take, drop}
use lib.Seq.{take_at, drop_at}
use Rattle.script_decimal.specs.declared.Sort.{Sort}
use Rattle.script_decimal.specs.Bytes.{Str, ◌·◌, byte_ok, All}
use Rattle.script_parts.specs.Parts.{run_length, Stops, Piece}

-- ---- What a run is

one_more : (n : ℕ) → 1 + n ≡ suc n
one_more n = omega arith

module _ (sort : Sort) where
  pub run_all : (s : Str) → All sort (take (run_length sort s) s)
  run_all [] = tt
  run_all (b ∷ s) = go (run_all s) (byte_ok sort b) refl
    where
      go : All sort (take (run_length sort s) s) → (test : Bool) → byte_ok sort b ≡ test
          → All sort (take (cond test (1 + run_length sort s) 0) (b ∷ s))
      go r true e = rw (one_more (run_length sort s)) (e, r)
      go r false e = tt

  pub run_le : (s : Str) → run_length sort s ≤ length s
  run_le [] = zero-le
  run_le (b ∷ s) = go (run_le s) (byte_ok sort b)
    where
      go : run_length sort s ≤ length s → (test : Bool) → cond test (1 + run_length sort s) 0 ≤ suc (length s)
      go r true = omega arith
      go r false = zero-le

  -- The byte after a run may not stand in it.
  pub run_after : (s : Str) → run_length sort s < length s → byte_ok sort (get_or s (run_length sort s) 0) ≡ false
  run_after [] l = absurd (omega arith)
  run_after (b ∷ s) l = go (λ h. run_after s h) (byte_ok sort b) refl l
    where
      go : (run_length sort s < length s → byte_ok sort (get_or s (run_length sort s) 0) ≡ false) → (test : Bool)
          → byte_ok sort b ≡ test → cond test (1 + run_length sort s) 0 < suc (length s)
          → byte_ok sort (get_or (b ∷ s) (cond test (1 + run_length sort s) 0) 0) ≡ false
      go f true e l = rw (one_more (run_length sort s)) (f (omega arith))
      go f false e l = e

  -- A part and a text that stops it: the run is the part.
  pub run_of : (part close rest : Str) → All sort part → Stops sort close
      → run_length sort (part ++ (close ++ rest)) ≡ length part
  run_of part [] rest a e = absurd e
  run_of [] (c ∷ close) rest a e = rw e refl
  run_of (b ∷ part) (c ∷ close) rest a e = rw a.0 (one_more _ ∙ ap suc (run_of part (c ∷ close) rest a.1 e))

  -- Where a part ends: every refusal rests on this.
  pub piece_cut : {close s part rest : Str} → Stops sort close → Piece sort close s part rest
      → (take (run_length sort s) s ≡ part) × (drop (run_length sort s) s ≡ close · rest)
  piece_cut {close} {s} {part} {rest} stops p =
      let n : length part ≡ run_length sort s = sym (ap (run_length sort) p.spelled ∙ run_of part close rest p.ok stops) in (
        ap (take (run_length sort s)) p.spelled ∙ take_at part (close · rest) (run_length sort s) n,
        ap (drop (run_length sort s)) p.spelled ∙ drop_at part (close · rest) (run_length sort s) n,
      )

  -- A text has one part and one rest at most.
  pub piece_once : {close s part rest part' rest' : Str} → Stops sort close → Piece sort close s part rest
      → Piece sort close s part' rest' → (part ≡ part') × (rest ≡ rest')
  piece_once {close} {s} {part} {rest} {part'} {rest'} stops p p' = (
    sym (piece_cut stops p).0 ∙ (piece_cut stops p').0,
    sym (drop_at close rest (length close) refl) ∙ ap (drop (length close)) (sym (piece_cut stops p).1 ∙ (piece_cut stops p').1)
        ∙ drop_at close rest' (length close) refl,
  )
