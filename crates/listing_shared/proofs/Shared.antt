-- What the candidates of rows share, row by row, and of the lines that a completion wrote.
use Prim.Native.Nat.{ℕ, ◌+◌, ◌-◌, ◌≤◌, ◌<◌}
use mathlib.Core.Path.{◌≡◌, refl, sym, ap, ◌∙◌}
use mathlib.Core.Bool.{Bool}
use mathlib.Core.List.{List, [], ◌∷◌, map}
use native.Mathlib.Decide.{dec_le, ℕ_discrete}
use native.Mathlib.Omega.{arith}
use lib.ListN.{length, take}
use lib.Seq.{take_all, take-take, length-take-le}
use Rattle.source.specs.Text.{Str, string_length, common_prefix}
use Rattle.source.specs.Table.{Line}
use Rattle.source.specs.Listing.{fold_left}
use Rattle.source.specs.Calls as C
use Rattle.source.specs.Calls.{shared_beginning, shared_length}
use Rattle.source.specs.Shared.{Allˡ}
use Rattle.source.proofs.SharedBeginning.{begins_length, common_same, common_differ, common_begins}
use Rattle.memory.specs.Layout.{Which, Item}
use Rattle.text.proofs.Laid.{laid_length}
use Rattle.memory.specs.Sound.{Says}
use Rattle.memory.proofs.Says.{either_way}
use Rattle.memory.proofs.Pasted.{span_length}
use Rattle.listing_output.specs.Output.{candidate_start, candidate_len, Written}
use Rattle.listing_row.specs.Rows.{words_at, words_from, row_in, candidate_seen, line_seen, TextsIn}
use Rattle.listing_row.proofs.Rows.{rows_left}
use Rattle.listing_row.proofs.Written.{written_lines, written_texts}
use Rattle.listing_shared.specs.Shared.{CandidateIn, CandidatesIn, shared_seen}

-- ---- Two texts

-- What they share is the front of the first, as long as it is.
common_take : (s t : Str) → common_prefix s t ≡ take (length (common_prefix s t)) s
unfolding common_prefix
common_take [] t = refl
common_take (a ∷ s) [] = refl
common_take (a ∷ s) (b ∷ t) =
    elim (ℕ_discrete a b) [
      | yes e ↦ rw (common_same a b s t e) (ap (λ (u : Str). a ∷ u) (common_take s t))
      | no n ↦ rw (common_differ a b s t n) refl
    ]

common_short : (s t : Str) → length (common_prefix s t) ≤ length s
common_short s t = begins_length (common_prefix s t) s (common_begins s t).0

none_shared : (xs : List Str) → fold_left common_prefix [] xs ≡ []
unfolding fold_left common_prefix
none_shared [] = refl
none_shared (s ∷ xs) = none_shared xs

-- ---- Row by row

-- The candidates of the first i of n rows share the first so many bytes of the first.
pub record Narrowed (flat out : List ℕ) (n : ℕ) (first : Str) (shared i : ℕ) : Type 0 where
  pub below : i ≤ n
  pub short : shared ≤ length first
  pub texts : Allˡ (CandidateIn out) (words_from flat i (n - i))
  pub rest : fold_left common_prefix (take shared first) (map (candidate_seen out) (words_from flat i (n - i)))
      ≡ shared_beginning (map (candidate_seen out) (words_from flat 0 n))

rows_first : (flat : List ℕ) (n : ℕ) → 0 < n → words_from flat 0 n ≡ words_at flat 0 ∷ words_from flat 1 (n - 1)
rows_first flat n h = let e : n - 0 ≡ n = omega arith in rw e at (rows_left flat 0 n h)

module _ {flat out : List ℕ} {n : ℕ} where
  pub first_texts : CandidatesIn flat out n → 0 < n
      → CandidateIn out (words_at flat 0) × Allˡ (CandidateIn out) (words_from flat 1 (n - 1))
  first_texts o h = rw (rows_first flat n h) at o.texts

  module _ (o : CandidatesIn flat out n) (h : 0 < n) {first : Str}
      (e : first ≡ candidate_seen out (words_at flat 0)) where
    pub first_length : candidate_len (words_at flat 0) ≡ length first
    first_length = sym (ap length e ∙ span_length out (candidate_start (words_at flat 0)) (candidate_len (words_at flat 0)) (first_texts o h).0)

    pub narrowed_start : Narrowed flat out n first (candidate_len (words_at flat 0)) 1
    unfolding shared_beginning
    narrowed_start = record {
      below = omega arith;
      short = omega (arith, first_length);
      texts = (first_texts o h).1;
      rest = rw (take_all (candidate_len (words_at flat 0)) first (omega (arith, first_length)), rows_first flat n h, e) refl;
    }

  module _ {first : Str} {shared i : ℕ} (g : Narrowed flat out n first shared i) where
    module _ (l : i < n) where
      pub next_text : CandidateIn out (words_at flat i) × Allˡ (CandidateIn out) (words_from flat (i + 1) (n - (i + 1)))
      next_text = rw (rows_left flat i n l) at g.texts

      pub narrowed_next : {m : ℕ} {t : Str} → t ≡ candidate_seen out (words_at flat i)
          → m ≡ length (common_prefix (take shared first) t) → Narrowed flat out n first m (i + 1)
      unfolding fold_left
      narrowed_next {m} {t} d e =
          let p : Str = take shared first in
          let s : m ≤ shared = omega (arith, common_short p t, length-take-le shared first g.short) in
          let f : take m first ≡ common_prefix p t = sym (take-take m shared first s) ∙ rw e (sym (common_take p t)) in
          record {
            below = omega arith;
            short = omega (arith, g.short);
            texts = next_text.1;
            rest = rw (f, d) (rw (rows_left flat i n l) at g.rest);
          }

    -- Nothing is shared any more.
    pub narrowed_none : shared ≡ 0 → 0 ≡ shared_seen flat out n
    unfolding shared_seen string_length
    narrowed_none e = ap length (sym (none_shared _) ∙ (rw e at g.rest))

    pub narrowed_end : n ≤ i → shared ≡ shared_seen flat out n
    unfolding shared_seen string_length words_from fold_left
    narrowed_end h =
        let z : n - i ≡ 0 = omega arith in
        sym (length-take-le shared first g.short) ∙ ap length (rw z at g.rest)

-- No row, nothing shared.
pub none_seen : (flat out : List ℕ) → shared_seen flat out 0 ≡ 0
unfolding shared_seen string_length shared_beginning words_from
none_seen flat out = refl

none_in : (flat out : List ℕ) → CandidatesIn flat out 0
unfolding words_from
none_in flat out = record { whole = omega arith; texts = tt }

-- ---- The lines that a completion wrote

module _ {w : Which} {ws txt flat flat' out out' : List ℕ} {lines : List (Line (Item w))}
    (x : Written w ws txt flat flat' out out' 0 0 lines) where
  written_candidates : CandidatesIn flat' out' (length lines)
  written_candidates =
      record {
        whole = omega (arith, x.flat_laid.fits, laid_length x.flat_laid);
        texts = go (words_from flat' 0 (length lines)) (written_texts x);
      }
    where
      go : (rows : List (List ℕ)) → Allˡ (λ r. TextsIn out' (row_in w r)) rows → Allˡ (CandidateIn out') rows
      go [] a = tt
      go (r ∷ rows) a = (a.0.candidate, go rows a.1)

  written_shared : shared_seen flat' out' (length lines)
      ≡ string_length (shared_beginning (map (λ ln. ln.candidate) lines))
  unfolding shared_seen line_seen
  written_shared = ap (λ (ss : List Str). string_length (shared_beginning ss))
      (go (words_from flat' 0 (length lines)) ∙ ap (map (λ (ln : Line (Item w)). ln.candidate)) (written_lines x))
    where
      go : (rows : List (List ℕ))
          → map (candidate_seen out') rows
          ≡ map (λ (ln : Line (Item w)). ln.candidate) (map (line_seen w txt out') rows)
      go [] = refl
      go (r ∷ rows) = ap (λ (ss : List Str). candidate_seen out' r ∷ ss) (go rows)

module _ (w : Which) (ws txt flat flat' out out' : List ℕ) (k : ℕ) where
  -- A completion hands back k lines, 0 if it is refused, and has written them.
  abbrev pub Leaves : C.Completed (Item w) → Type 0
  Leaves (C.listed lines entered) = (k ≡ length lines) × Written w ws txt flat flat' out out' 0 0 lines
  Leaves (C.refused n) = k ≡ 0

  leaves_candidates : (v : C.Completed (Item w)) → Leaves v → CandidatesIn flat' out' k
  leaves_candidates (C.listed lines entered) a = rw a.0 (written_candidates a.1)
  leaves_candidates (C.refused n) a = rw a (none_in flat' out')

  pub leaves_shared : (v : C.Completed (Item w)) → Leaves v → shared_seen flat' out' k ≡ shared_length v
  unfolding shared_length
  leaves_shared (C.listed lines entered) a = rw a.0 (written_shared a.1)
  leaves_shared (C.refused n) a = rw a (none_seen flat' out')

-- ---- In any memory

-- That candidates lie in the output may be shown by contradiction.
le_stable : (a b : ℕ) → ((a ≤ b → ⊥) → ⊥) → a ≤ b
le_stable a b h = elim (dec_le a b) [ yes q ↦ q | no n ↦ absurd (h n) ]

all_stable : (out : List ℕ) (rows : List (List ℕ)) → ((Allˡ (CandidateIn out) rows → ⊥) → ⊥)
    → Allˡ (CandidateIn out) rows
all_stable out [] h = tt
all_stable out (r ∷ rows) h = (le_stable _ _ (λ n. h (λ a. n a.0)), all_stable out rows (λ n. h (λ a. n a.1)))

candidates_stable : (flat out : List ℕ) (n : ℕ) → ((CandidatesIn flat out n → ⊥) → ⊥) → CandidatesIn flat out n
candidates_stable flat out n h =
    record {
      whole = le_stable _ _ (λ k. h (λ c. k c.whole));
      texts = all_stable out (words_from flat 0 n) (λ k. h (λ c. k c.texts));
    }

-- So it need not be known whether the memory was sound, to read what a completion left.
pub left_candidates : {P : Type 0} (w : Which) (ws txt flat flat' out out' : List ℕ) (k : ℕ)
    (v : Bool → C.Completed (Item w))
    → ((b : Bool) → Says b P → Leaves w ws txt flat flat' out out' k (v b)) → CandidatesIn flat' out' k
left_candidates w ws txt flat flat' out out' k v h =
    either_way (candidates_stable flat' out' k) (λ b s. leaves_candidates w ws txt flat flat' out out' k (v b) (h b s))
