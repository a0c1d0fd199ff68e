-- Laws of notes: what holds of notes and marks is kept where a branch is noted, marked or taken.
use Rattle.std.proofs.Common.{◌≡◌, ℕ, ◌+◌, ◌<◌, ◌≤◌, ◌⊎◌, List, [], ◌∷◌, ◌++◌, length, get_or, take, set, Bool, true, false, Some, None, Option, slice_get, eqb}
use Rattle.std.proofs.Common.{cond, refl, sym, inl, inr, arith}
use Rattle.std.proofs.lemmas.Bool.{eq-eqb, ne_eqb}
use Rattle.std.proofs.lemmas.List.{take_more_set, take_all, length-take-le}
use Rattle.std.proofs.lemmas.Option.{slice_get-get_or, none-some, same_Some}
use mathlib.Core.Bool.{false≢true}
use Rattle.source.specs.Shared.{Allˡ}
use Rattle.match_marks.specs.Marks.{put, put_out, put_any, Taken, most_near, most_far, most_notes, marked, marked_any, noted, NoteTaken, MarkTaken, Holds}
use Rattle.match_marks.specs.declared.Notes.{Notes}

-- ---- A link is put on the first of a stack's links

module _ {n count : ℕ} (links : List ℕ) (sized : length links ≡ n) (few : count ≤ n) where
  held : length (take count links) ≡ count
  held = length-take-le count links (omega (arith, sized))

  module _ (h : count ≡ n → ⊥) where
    beside : eqb (length (take count links)) n ≡ false
    beside = rw held (ne_eqb count n h)

    pub put_beside : (x : ℕ) → take (count + 1) (set links count x) ≡ put n (take count links) x
    unfolding put
    put_beside x = rw beside (take_more_set links count x (omega (arith, sized)))

    pub none_out : None ≡ put_out n (take count links)
    unfolding put_out
    none_out = rw beside refl

  module _ (some : 0 < n) (h : count ≡ n) where
    alone : eqb (length (take count links)) n ≡ true
    alone = rw held (eq-eqb count n h)

    pub put_alone : (x : ℕ) → take 1 (set links 0 x) ≡ put n (take count links) x
    unfolding put
    put_alone x = rw alone (take_more_set links 0 x (omega (arith, sized)))

    pub first_out : Some (get_or links 0 0) ≡ put_out n (take count links)
    unfolding put_out
    first_out = rw (alone, take_all count links (omega (arith, sized))) (sym (slice_get-get_or links 0 0 (omega (arith, sized))))

-- ---- What holds of all is kept

all_map : {P Q : ℕ → Type 0} → ((x : ℕ) → P x → Q x) → (xs : List ℕ) → Allˡ P xs → Allˡ Q xs
all_map f [] a = tt
all_map f (x ∷ xs) a = (f x a.0, all_map f xs a.1)

module _ (P : ℕ → Type 0) where
  all_more : (xs : List ℕ) → Allˡ P xs → {x : ℕ} → P x → Allˡ P (xs ++ x ∷ [])
  all_more [] a p = (p, tt)
  all_more (y ∷ xs) a p = (a.0, all_more xs a.1 p)

  put_all : (n : ℕ) (xs : List ℕ) → Allˡ P xs → {x : ℕ} → P x → Allˡ P (put n xs x)
  unfolding put
  put_all n xs a {x} p = go (eqb (length xs) n)
    where
      go : (b : Bool) → Allˡ P (cond b [] xs ++ x ∷ [])
      go true = (p, tt)
      go false = all_more xs a p

  out_all : (n : ℕ) (xs : List ℕ) → Allˡ P xs → {x : ℕ} → put_out n xs ≡ Some x → P x
  unfolding put_out
  out_all n xs a {x} e = go (eqb (length xs) n) xs a e
    where
      go : (b : Bool) (l : List ℕ) → Allˡ P l → cond b (slice_get l 0) None ≡ Some x → P x
      go true [] i e = absurd (none-some x e)
      go true (y ∷ l) i e = rw (← same_Some y x e) i.0
      go false l i e = absurd (none-some x e)

  any_all : (n : ℕ) (xs : List ℕ) → Allˡ P xs → (o : Option ℕ) → ((x : ℕ) → o ≡ Some x → P x) → Allˡ P (put_any n xs o)
  any_all n xs a None p = a
  any_all n xs a (Some x) p = put_all n xs a (p x refl)

  top_all : (xs : List ℕ) {x : ℕ} → Allˡ P (xs ++ x ∷ []) → Allˡ P xs × P x
  top_all [] a = (tt, a.0)
  top_all (y ∷ xs) a = let t = top_all xs a.1 in ((a.0, t.0), t.1)

  taken_all : (xs xs' : List ℕ) (r : Option ℕ) → Taken xs xs' r → Allˡ P xs → Allˡ P xs'
  taken_all xs xs' None t a = rw t.1 tt
  taken_all xs xs' (Some x) t a = (top_all xs' (rw t at a)).0

  taken_top : (xs xs' : List ℕ) (x : ℕ) → Taken xs xs' (Some x) → Allˡ P xs → P x
  taken_top xs xs' x t a = (top_all xs' (rw t at a)).1

pub holds_map : {N M N' M' : ℕ → Type 0} {notes : Notes} → ((x : ℕ) → N x → N' x) → ((x : ℕ) → M x → M' x)
    → Holds N M notes → Holds N' M' notes
holds_map {notes = notes} f g o = record { note = all_map f notes.branches o.note; near = all_map g notes.near o.near; far = all_map g notes.far o.far }

module _ {N M : ℕ → Type 0} {notes : Notes} (o : Holds N M notes) where
  marked_holds : {x : ℕ} → M x → Holds N M (marked notes x)
  marked_holds m = record {
    note = o.note;
    near = put_all M most_near notes.near o.near m;
    far = any_all M most_far notes.far o.far (put_out most_near notes.near) (λ x e. out_all M most_near notes.near o.near e);
  }

  -- The first of the notes is a mark where they are dropped.
  pub noted_holds : ((x : ℕ) → N x → M x) → {x : ℕ} → N x → Holds N M (noted notes x)
  noted_holds f {x} p = go (put_out most_notes notes.branches) (λ y e. out_all N most_notes notes.branches o.note e)
    where
      go : (out : Option ℕ) → ((y : ℕ) → out ≡ Some y → N y)
          → Holds N M (record {
            branches = put most_notes notes.branches x;
            near = (marked_any notes out).near;
            far = (marked_any notes out).far;
            dropped = (marked_any notes out).dropped;
          })
      go None q = record { note = put_all N most_notes notes.branches o.note p; near = o.near; far = o.far }
      go (Some y) q = let m = marked_holds (f y (q y refl)) in
          record { note = put_all N most_notes notes.branches o.note p; near = m.near; far = m.far }

module _ {N M : ℕ → Type 0} {notes notes' : Notes} (o : Holds N M notes) where
  pub note_taken_holds : (r : Option ℕ) → NoteTaken notes notes' r → Holds N M notes'
  note_taken_holds r t = record {
    note = taken_all N notes.branches notes'.branches r t.taken o.note;
    near = rw t.near o.near;
    far = rw t.far o.far;
  }

  pub mark_taken_holds : (r : Option ℕ) → MarkTaken notes notes' r → Holds N M notes'
  mark_taken_holds r t = go t.taken
    where
      go : (Taken notes.near notes'.near r × (notes'.far ≡ notes.far)) ⊎
          ((notes.near ≡ []) × (notes'.near ≡ []) × Taken notes.far notes'.far r) → Holds N M notes'
      go (inl s) = record { note = rw t.branches o.note; near = taken_all M notes.near notes'.near r s.0 o.near; far = rw s.1 o.far }
      go (inr s) = record { note = rw t.branches o.note; near = rw s.1 tt; far = taken_all M notes.far notes'.far r s.2 o.far }

  pub mark_taken_is : (x : ℕ) → MarkTaken notes notes' (Some x) → M x
  mark_taken_is x t = elim t.taken [
    | inl s ↦ taken_top M notes.near notes'.near x s.0 o.near
    | inr s ↦ taken_top M notes.far notes'.far x s.2 o.far
  ]

-- ---- The notes after a branch is noted

module _ (notes : Notes) (x : ℕ) where
  -- With the branch after the others, or alone, and then it is told.
  pub noted_is : (((noted notes x).branches ≡ notes.branches ++ x ∷ []) × ((noted notes x).dropped ≡ notes.dropped)) ⊎
      (((noted notes x).branches ≡ x ∷ []) × ((noted notes x).dropped ≡ true))
  unfolding put put_out
  noted_is = go notes.branches (eqb (length notes.branches) most_notes) refl
    where
      go : (xs : List ℕ) (b : Bool) → eqb (length xs) most_notes ≡ b
          → ((cond b [] xs ++ x ∷ [] ≡ xs ++ x ∷ [])
          × ((marked_any notes (cond b (slice_get xs 0) None)).dropped ≡ notes.dropped)) ⊎
          ((cond b [] xs ++ x ∷ [] ≡ x ∷ []) × ((marked_any notes (cond b (slice_get xs 0) None)).dropped ≡ true))
      go xs false e = inl (refl, refl)
      go [] true e = absurd (false≢true e)
      go (y ∷ xs) true e = inr (refl, refl)
