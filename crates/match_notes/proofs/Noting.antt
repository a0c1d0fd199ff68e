-- Laws of notes, and the matches of a tree by its root.
use Prim.Native.Nat.{ℕ, ◌<◌, ◌≤◌}
use mathlib.Core.Path.{◌≡◌, refl, sym, ap, ◌∙◌, subst}
use mathlib.Core.Bool.{Bool, true, false, false≢true}
use mathlib.Core.Logic.{inl, inr}
use mathlib.Core.List.{List, [], ◌∷◌, ◌++◌, append_assoc, append-nil, nil≢cons}
use native.Mathlib.Omega.{arith}
use Rattle.source.specs.Text.{Str, starts_with}
use Rattle.source.specs.Rules.{◌<ˢ◌}
use Rattle.source.specs.Shared.{Allˡ}
use Rattle.source.proofs.Lookup.{Allˡ-map}
use Rattle.memory.specs.Layout.{record_at, key_at, left_link, right_link}
use Rattle.find_tree.specs.Tree.{AnyTree}
use Rattle.find_tree.specs.Links.{branches, keep, matches, past}
use Rattle.find_tree.proofs.Branches.{any_left, any_right}
use Rattle.find_tree.proofs.Keep.{by_test, keep_append, keep_none, keep_all, all_keep}
use Rattle.find_tree.proofs.Links.{branches_at, all_before, all_beyond}
use Rattle.find_tree.proofs.Past.{past_after, past_up, past_down, past_of_prefix, past_begun}
use Rattle.find_tree.proofs.Matches.{matches_none}
use Rattle.match_marks.specs.Marks.{noted, Holds}
use Rattle.match_marks.specs.declared.Notes.{Notes}
use Rattle.match_notes.specs.Noting.{to_come, passing, Ahead, NoteOk, Noting, Descends, AllAfter, NotesLeft}
use Rattle.match_marks.proofs.Marks.{noted_holds, noted_is}

all_left : {A : Type 0} (P : A → Type 0) (xs m : List A) → Allˡ P (xs ++ m) → Allˡ P xs
all_left P [] m a = tt
all_left P (x ∷ xs) m a = (a.0, all_left P xs m a.1)

all_after_left : {A : Type 0} (P : A → Type 0) (xs : List A) (x : A) (m : List A) → Allˡ P (xs ++ (x ∷ m)) → P x
all_after_left P [] x m a = a.0
all_after_left P (y ∷ xs) x m a = all_after_left P xs x m a.1

-- ---- The matches of a tree by its root
all_matches : (ws txt : List ℕ) (p : Str) (x : ℕ) (P : ℕ → Type 0) → Allˡ P (branches ws x)
    → Allˡ P (matches ws txt x p)
unfolding matches
all_matches ws txt p x P a = all_keep (key_at ws txt) P (λ k. starts_with k p) (branches ws x)
    (Allˡ-map {P = P} {Q = λ y. starts_with (key_at ws txt y) p ≡ true → P y} (branches ws x) (λ y v _. v) a)

module _ {ws txt : List ℕ} {x : ℕ} (a : AnyTree ws txt x) (q : 0 < x) where
  abbrev key : Str
  key = key_at ws txt x

  abbrev left : ℕ
  left = left_link (record_at ws x)

  abbrev right : ℕ
  right = right_link (record_at ws x)

  all_of_left : (P : ℕ → Type 0) → Allˡ P (branches ws x) → Allˡ P (branches ws left)
  all_of_left P h = all_left P (branches ws left) (x ∷ branches ws right) (subst (λ (xs : List ℕ). Allˡ P xs) (branches_at a.tree q) h)

  all_here : (P : ℕ → Type 0) → Allˡ P (branches ws x) → P x
  all_here P h = all_after_left P (branches ws left) x (branches ws right) (subst (λ (xs : List ℕ). Allˡ P xs) (branches_at a.tree q) h)

  module _ (p : Str) where
    split : matches ws txt x p
        ≡ matches ws txt left p ++ keep (key_at ws txt) (λ k. starts_with k p) (x ∷ branches ws right)
    unfolding matches
    split = rw (branches_at a.tree q) (keep_append (key_at ws txt) (λ k. starts_with k p) (branches ws left) (x ∷ branches ws right))

    -- A match.
    match_here : starts_with key p ≡ true → matches ws txt x p ≡ matches ws txt left p ++ (x ∷ matches ws txt right p)
    unfolding matches keep
    match_here e = split ∙ rw e

    -- Past the prefix and no match: the right side has none.
    match_left : past false p key ≡ true → starts_with key p ≡ false → matches ws txt x p ≡ matches ws txt left p
    unfolding matches keep
    match_left e f =
        let no_right : matches ws txt right p ≡ [] = keep_none (key_at ws txt) (λ k. starts_with k p) (branches ws right)
        (all_beyond a q (λ y. starts_with y p ≡ false) (λ y. past_begun p key y e f)) in
        split ∙ rw (f, no_right) (append-nil (matches ws txt left p))

    -- The same of those that are past a bound.
    module _ (strict : Bool) (low : Str) where
      abbrev b : Str → Bool
      b = past strict low

      pub pass_here : b key ≡ true → starts_with key p ≡ true
          → passing ws txt p b x ≡ passing ws txt p b left ++ (x ∷ matches ws txt right p)
      unfolding keep
      pass_here e f =
          rw (match_here f, keep_append (key_at ws txt) b (matches ws txt left p) (x ∷ matches ws txt right p), e)
          (rw (keep_all (key_at ws txt) b (matches ws txt right p)
          (all_matches ws txt p right (λ y. b (key_at ws txt y) ≡ true) (all_beyond a q (λ y. b y ≡ true) (λ y. past_up strict low key y e)))) refl)

      pub pass_left : starts_with low p ≡ true → b key ≡ true → starts_with key p ≡ false
          → passing ws txt p b x ≡ passing ws txt p b left
      pass_left s e f = ap (keep (key_at ws txt) b) (match_left (past_of_prefix strict low p key s e) f)

      pub pass_right : b key ≡ false → passing ws txt p b x ≡ passing ws txt p b right
      unfolding keep matches
      pass_right e =
          ap (keep (key_at ws txt) b) split
          ∙ keep_append (key_at ws txt) b (matches ws txt left p) (keep (key_at ws txt) (λ k. starts_with k p) (x ∷ branches ws right))
          ∙ rw (keep_none (key_at ws txt) b (matches ws txt left p)
          (all_matches ws txt p left (λ y. b (key_at ws txt y) ≡ false) (all_before a q (λ y. b y ≡ false) (λ y. past_down strict low key y e))))
          (by_test (starts_with key p) (λ f. rw (f, e)) (λ f. rw f))

-- ---- Notes
module _ (ws txt : List ℕ) (p : Str) where
  -- The last note comes first.
  pub come_first : (notes : List ℕ) (x : ℕ)
      → to_come ws txt p (notes ++ x ∷ [])
      ≡ x ∷ (matches ws txt (right_link (record_at ws x)) p ++ to_come ws txt p notes)
  unfolding to_come
  come_first [] x = ap (◌∷◌ x) (sym (append-nil (matches ws txt (right_link (record_at ws x)) p)))
  come_first (y ∷ notes) x =
      let right = matches ws txt (right_link (record_at ws x)) p in
      rw (come_first notes x)
      (ap (◌∷◌ x) (append_assoc right (to_come ws txt p notes) (y ∷ matches ws txt (right_link (record_at ws y)) p)))

  pub pass_none : (b : Str → Bool) → passing ws txt p b 0 ≡ []
  unfolding keep
  pass_none b = rw (matches_none ws txt p)

module _ {ws txt : List ℕ} {p : Str} {b : Str → Bool} {xs : List ℕ} {notes : Notes} where
  -- Notes are none.
  pub noting_none : {h : List ℕ} → Holds (NoteOk ws txt p b xs) (Ahead ws txt p b xs) notes
      → notes.branches ≡ [] → (rest : List ℕ) → xs ≡ h ++ rest → (notes.dropped ≡ false → rest ≡ [])
      → Noting ws txt p b notes h xs
  unfolding to_come
  noting_none o z rest e w = record { holds = o; rest = rest; says = rw z e; whole = w }

  module _ {h : List ℕ} (o : Noting ws txt p b notes h xs) where
    -- What is at hand comes first.
    ahead_here : {x : ℕ} → AnyTree ws txt x → h ≡ passing ws txt p b x → Ahead ws txt p b xs x
    ahead_here a e = record { any = a; rest = to_come ws txt p notes.branches ++ o.rest; says = o.says ∙ rw e }

    -- A branch is noted.
    noting_note : (x : ℕ) {g : List ℕ} → h ≡ g ++ (x ∷ matches ws txt (right_link (record_at ws x)) p)
        → NoteOk ws txt p b xs x → Noting ws txt p b (noted notes x) g xs
    unfolding to_come
    noting_note x {g} e a =
        let right = matches ws txt (right_link (record_at ws x)) p in
        let come = to_come ws txt p notes.branches in
        let holds = noted_holds o.holds (λ y k. k.ahead) a in
        let says : xs ≡ g ++ (x ∷ (right ++ (come ++ o.rest))) =
        o.says ∙ ap (λ (y : List ℕ). y ++ (come ++ o.rest)) e ∙ append_assoc g (x ∷ right) (come ++ o.rest) in
        elim (noted_is notes x) [
          | inl t ↦ record {
            holds = holds;
            rest = o.rest;
            says = rw (t.0, come_first ws txt p notes.branches x) (says ∙ ap (λ (y : List ℕ). g ++ (x ∷ y)) (sym (append_assoc right come o.rest)));
            whole = λ z. o.whole (sym t.1 ∙ z);
          }
          | inr t ↦ record {
            holds = holds;
            rest = come ++ o.rest;
            says = rw t.0 says;
            whole = λ z. absurd (false≢true (sym z ∙ t.1));
          }
        ]

noted_some : (notes : Notes) (x : ℕ) → (noted notes x).branches ≡ [] → ⊥
noted_some notes x z = elim (noted_is notes x) [
  | inl t ↦ append_some notes.branches x (sym t.0 ∙ z)
  | inr t ↦ nil≢cons (sym z ∙ t.0)
]
  where
    append_some : (l : List ℕ) (x : ℕ) → l ++ x ∷ [] ≡ [] → ⊥
    append_some [] x e = nil≢cons (sym e)
    append_some (y ∷ l) x e = nil≢cons (sym e)

-- ---- descend

-- The matches of the tree from past the bound are those of the tree at before what is noted.
pub record Descending (ws txt : List ℕ) (p low : Str) (strict : Bool) (from at : ℕ)
    (notes notes' : Notes) : Type 0 where
  pub bound : starts_with low p ≡ true
  pub any : AnyTree ws txt at
  pub on : (xs : List ℕ) → Noting ws txt p (past strict low) notes (passing ws txt p (past strict low) from) xs
      → Noting ws txt p (past strict low) notes' (passing ws txt p (past strict low) at) xs
  pub none : notes'.branches ≡ [] → passing ws txt p (past strict low) from ≡ passing ws txt p (past strict low) at

module _ {ws txt : List ℕ} {p low : Str} {strict : Bool} {from : ℕ} {notes : Notes} where
  module _ {at : ℕ} {notes' : Notes} (d : Descending ws txt p low strict from at notes notes') where
    pub descending_done : at ≤ 0 → Descends ws txt p low strict from notes notes'
    descending_done h =
        let z : at ≡ 0 = omega arith in
        let e : passing ws txt p (past strict low) at ≡ [] = rw z (pass_none ws txt p (past strict low)) in
        record { notes_on = λ l o. rw e at (d.on l o); none = λ i. d.none i ∙ e }

    module _ (q : 0 < at) where
      -- A match is noted, and the way goes left.
      pub descending_note : {x : ℕ} {notes'' : Notes} → past strict low (key_at ws txt at) ≡ true
          → starts_with (key_at ws txt at) p ≡ true → notes'' ≡ noted notes' at → x ≡ left_link (record_at ws at)
          → Descending ws txt p low strict from x notes notes''
      descending_note e i t f = rw (f, t) (record {
        bound = d.bound;
        any = any_left d.any q;
        on = λ l o. noting_note (d.on l o) at (pass_here d.any q p strict low e i)
            (record { some = q; begins = i; ahead = ahead_here (d.on l o) d.any refl });
        none = λ z. absurd (noted_some notes' at z);
      })

      pub descending_left : {x : ℕ} {notes'' : Notes} → past strict low (key_at ws txt at) ≡ true
          → starts_with (key_at ws txt at) p ≡ false → notes'' ≡ notes' → x ≡ left_link (record_at ws at)
          → Descending ws txt p low strict from x notes notes''
      descending_left e i t f =
          let s = pass_left d.any q p strict low d.bound e i in
          rw (f, t) (record { bound = d.bound; any = any_left d.any q; on = λ l o. rw s at (d.on l o); none = λ z. d.none z ∙ s })

      pub descending_right : {x : ℕ} → past strict low (key_at ws txt at) ≡ false → x ≡ right_link (record_at ws at)
          → Descending ws txt p low strict from x notes notes'
      descending_right e f =
          let s = pass_right d.any q p strict low e in
          rw f (record { bound = d.bound; any = any_right d.any q; on = λ l o. rw s at (d.on l o); none = λ z. d.none z ∙ s })

-- ---- note_left

-- The matches of the tree from are those of the tree at before what is noted.
pub record Lefting (ws txt : List ℕ) (p : Str) (from at : ℕ) (notes notes' : Notes) : Type 0 where
  pub any : AnyTree ws txt at
  pub later : AllAfter ws txt p at
  pub on : (b : Str → Bool) (xs : List ℕ) → Allˡ (λ x. b (key_at ws txt x) ≡ true) (branches ws from)
      → Noting ws txt p b notes (matches ws txt from p) xs
      → Allˡ (λ x. b (key_at ws txt x) ≡ true) (branches ws at) × Noting ws txt p b notes' (matches ws txt at p) xs

module _ {ws txt : List ℕ} {p : Str} {from : ℕ} {notes : Notes} where
  module _ {at : ℕ} {notes' : Notes} (d : Lefting ws txt p from at notes notes') where
    pub lefting_done : at ≤ 0 → NotesLeft ws txt p from notes notes'
    lefting_done h =
        let z : at ≡ 0 = omega arith in
        let e : matches ws txt at p ≡ [] = rw z (matches_none ws txt p) in
        record { notes_on = λ b l a o. rw e at (d.on b l a o).1 }

    module _ (q : 0 < at) where
      pub lefting_note : {x : ℕ} {notes'' : Notes} → starts_with (key_at ws txt at) p ≡ true
          → notes'' ≡ noted notes' at → x ≡ left_link (record_at ws at) → Lefting ws txt p from x notes notes''
      lefting_note i t f = rw (f, t) (record {
        any = any_left d.any q;
        later = all_of_left d.any q (λ y. p <ˢ key_at ws txt y) d.later;
        on = λ b l a o.
            let k = d.on b l a o in
            let e : passing ws txt p b at ≡ matches ws txt at p =
            keep_all (key_at ws txt) b (matches ws txt at p) (all_matches ws txt p at (λ y. b (key_at ws txt y) ≡ true) k.0) in (
              all_of_left d.any q (λ y. b (key_at ws txt y) ≡ true) k.0,
              noting_note k.1 at (match_here d.any q p i) (record { some = q; begins = i; ahead = ahead_here k.1 d.any (sym e) }),
            );
      })

      pub lefting_left : {x : ℕ} {notes'' : Notes} → starts_with (key_at ws txt at) p ≡ false → notes'' ≡ notes'
          → x ≡ left_link (record_at ws at) → Lefting ws txt p from x notes notes''
      lefting_left i t f =
          let e = match_left d.any q p (past_after false p (key_at ws txt at) (all_here d.any q (λ y. p <ˢ key_at ws txt y) d.later)) i in
          rw (f, t) (record {
            any = any_left d.any q;
            later = all_of_left d.any q (λ y. p <ˢ key_at ws txt y) d.later;
            on = λ b l a o. let k = d.on b l a o in (all_of_left d.any q (λ y. b (key_at ws txt y) ≡ true) k.0, rw e at k.1);
          })
