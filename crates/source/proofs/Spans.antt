-- The line records of a completion: each span reads its text back out of the output text, candidate then annotation, one after another.
use Prim.Native.Nat.{ℕ, ◌+◌}
use mathlib.Core.Path.{◌≡◌, refl, sym, ◌∙◌}
use mathlib.Core.List.{List, [], ◌∷◌, ◌++◌, append_assoc}
use native.Mathlib.Omega.{arith}
use lib.ListN.{length, take, drop, length-append}
use lib.Seq.{take_at, drop_at}
use Rattle.source.specs.Text.{Str}
use Rattle.source.specs.Table.{Line}
use Rattle.source.specs.Calls.{Span, LineRecord, output_text, output_lines}

-- The bytes of a span.
abbrev pub cut : Str → Span → Str
cut text sp = take sp.len (drop sp.start text)

module _ {A : Type 0} (text : Str) where
  -- Line records from a place on, and the lines that they stand for.
  abbrev pub Spell : ℕ → List (LineRecord A) → List (Line A) → Type 0
  Spell at [] [] = Unit {0}
  Spell at [] (l ∷ ls) = ⊥
  Spell at (r ∷ rs) [] = ⊥
  Spell at (r ∷ rs) (l ∷ ls) =
      (r.match_length ≡ l.match_length) × (r.item_of ≡ l.item_of)
      × (r.candidate.start ≡ at) × (cut text r.candidate ≡ l.candidate)
      × (r.annotation.start ≡ at + r.candidate.len) × (cut text r.annotation ≡ l.annotation)
      × Spell (r.annotation.start + r.annotation.len) rs ls

cut_at : (text before s after : Str) (at : ℕ) → length before ≡ at → text ≡ before ++ (s ++ after)
    → take (length s) (drop at text) ≡ s
cut_at text before s after at e f = rw f (rw (drop_at before (s ++ after) at e) (take_at s after (length s) refl))

module _ {A : Type 0} where
  spelled : (text before : Str) (at : ℕ) (ls : List (Line A)) → length before ≡ at → text ≡ before ++ output_text ls
      → Spell text at (output_lines at ls) ls
  unfolding output_text output_lines
  spelled text before at [] e f = tt
  spelled text before at (l ∷ ls) e f =
      let c = l.candidate in
      let a = l.annotation in
      let e₂ : length (before ++ c) ≡ at + length c = simp length-append (omega arith) in
      let f₂ : text ≡ (before ++ c) ++ (a ++ output_text ls) = f ∙ sym (append_assoc before c _) in
      let e₃ : length ((before ++ c) ++ a) ≡ at + length c + length a = simp length-append (omega arith) in
      let f₃ : text ≡ ((before ++ c) ++ a) ++ output_text ls = f₂ ∙ sym (append_assoc (before ++ c) a _) in (
        refl,
        refl,
        refl,
        cut_at text before c _ at e f,
        refl,
        cut_at text (before ++ c) a _ (at + length c) e₂ f₂,
        spelled text ((before ++ c) ++ a) (at + length c + length a) ls e₃ f₃,
      )

  -- The records of a listing, from the start of the output text.
  pub lines_spelled : (ls : List (Line A)) → Spell (output_text ls) 0 (output_lines 0 ls) ls
  lines_spelled ls = spelled (output_text ls) [] 0 ls refl refl
