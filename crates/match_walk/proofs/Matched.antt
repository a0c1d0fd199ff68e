-- The first of the matches still to come by the last note, by a walk down from a mark, from the root.
use Prim.Native.Nat.{ℕ, ◌<◌}
use mathlib.Core.Path.{◌≡◌, refl, sym, ap, ◌∙◌, subst}
use mathlib.Core.Bool.{Bool, true, false, false≢true}
use mathlib.Core.List.{List, [], ◌∷◌, ◌++◌, append_assoc, append-nil, nil≢cons}
use Rattle.source.specs.Text.{Str, starts_with}
use Rattle.source.specs.Rules.{◌<ˢ◌}
use Rattle.source.specs.Shared.{Allˡ}
use Rattle.source.proofs.Lookup.{Allˡ-map, Increasing}
use Rattle.source.proofs.Order.{<ˢ_trans}
use Rattle.source.proofs.Trees.{before_prefix}
use Rattle.memory.specs.Layout.{record_at, key_at, right_link}
use Rattle.find_tree.specs.Tree.{AnyTree}
use Rattle.find_tree.specs.Links.{keep, matches, past, after}
use Rattle.find_tree.proofs.Keep.{by_test, keep_none, keep_all, all_keep, kept_pass}
use Rattle.find_tree.proofs.Links.{all_beyond}
use Rattle.find_tree.proofs.Past.{by_order, past_low, past_after, past_up, past_true}
use Rattle.find_tree.proofs.After.{after_first}
use Rattle.find_tree.proofs.Matches.{matches_increasing, matches_past}
use Rattle.match_marks.specs.Marks.{NoteTaken, MarkTaken, none}
use Rattle.match_marks.specs.declared.Notes.{Notes}
use Rattle.match_marks.proofs.Marks.{holds_map, note_taken_holds, mark_taken_holds, mark_taken_is}
use Rattle.match_notes.specs.Noting.{to_come, passing, Ahead, NoteOk, Noting, AllAfter, NotesLeft}
use Rattle.match_notes.proofs.Noting.{come_first, noting_none}
use Rattle.match_walk.specs.Matched.{Noted, Matched}
use Rattle.std.specs.Prelude.{Option, Some, None}

-- A key after one that begins with p is after p.
after_prefix : (p k z : Str) → starts_with k p ≡ true → k <ˢ z → p <ˢ z
after_prefix p k z s h = by_order p k (λ o v. <ˢ_trans p k z v h) (λ o v. rw v h) (λ o v. absurd (false≢true (sym (before_prefix k p v) ∙ s)))

-- ---- What a test keeps

module _ (key : ℕ → Str) where
  none_kept : (b : Str → Bool) (xs : List ℕ) → keep key b xs ≡ [] → Allˡ (λ y. b (key y) ≡ false) xs
  unfolding keep
  none_kept b [] e = tt
  none_kept b (x ∷ xs) e = by_test (b (key x)) (λ z. absurd (nil≢cons (sym (rw z at e)))) (λ z. (z, none_kept b xs (rw z at e)))

  module _ (strict : Bool) (low : Str) where
    -- Where nothing is past the bound, nothing is after a key that is.
    none_after : (k : Str) (xs : List ℕ) → past strict low k ≡ true → keep key (past strict low) xs ≡ []
        → after key k xs ≡ []
    none_after k xs p e =
        keep_none key (past true k) xs
        (Allˡ-map {P = λ y. past strict low (key y) ≡ false} {Q = λ y. past true k (key y) ≡ false} xs
        (λ y f. by_test (past true k (key y)) (λ z. absurd (false≢true (sym f ∙ past_up strict low k (key y) p (past_true k (key y) z)))) (λ z. z))
        (none_kept (past strict low) xs e))

    -- What is past the bound, after the first: what is after the key of the first.
    kept_next : (xs : List ℕ) → Increasing key xs → (x : ℕ) (tl : List ℕ) → keep key (past strict low) xs ≡ x ∷ tl
        → tl ≡ after key (key x) xs
    unfolding keep
    kept_next [] i x tl e = absurd (nil≢cons e)
    kept_next (y ∷ xs) i x tl e =
        by_test (past strict low (key y))
        (λ z.
        let f : y ∷ keep key (past strict low) xs ≡ x ∷ tl = rw z at e in
        let g : y ≡ x = cc in
        let h : keep key (past strict low) xs ≡ tl = cc in
        sym h ∙ keep_all key (past strict low) xs (Allˡ-map {P = λ u. key y <ˢ key u} {Q = λ u. past strict low (key u) ≡ true} xs
        (λ u. past_up strict low (key y) (key u) z) i.0) ∙ subst (λ u. xs ≡ after key (key u) (y ∷ xs)) g (sym (after_first key y xs i)))
        (λ z.
        let f : keep key (past strict low) xs ≡ x ∷ tl = rw z at e in
        let h : key y <ˢ key x = (subst (λ (m : List ℕ). Allˡ (λ u. key y <ˢ key u) m) f
        (all_keep key (λ u. key y <ˢ key u) (past strict low) xs
        (Allˡ-map {P = λ u. key y <ˢ key u} {Q = λ u. past strict low (key u) ≡ true → key y <ˢ key u} xs (λ u v _. v) i.0))).0 in
        kept_next xs i.1 x tl f ∙ rw (past_low true (key x) (key y) h))

-- ---- The first of the list

-- Once the first of the list is given, what is ahead is past its key.
module _ {ws txt : List ℕ} {p : Str} (low : Str) (strict : Bool) {xs xs' : List ℕ} {x : ℕ} (s : xs ≡ x ∷ xs')
    (h : past strict low (key_at ws txt x) ≡ true) where
  ahead_next : {m : ℕ} → Ahead ws txt p (past strict low) xs m → Ahead ws txt p (past true (key_at ws txt x)) xs' m
  ahead_next {m} a = go (passing ws txt p (past strict low) m) refl (sym s ∙ a.says)
    where
      go : (k : List ℕ) → passing ws txt p (past strict low) m ≡ k → x ∷ xs' ≡ k ++ a.rest
          → Ahead ws txt p (past true (key_at ws txt x)) xs' m
      go [] e f = record { any = a.any; rest = xs'; says = rw (none_after (key_at ws txt) strict low (key_at ws txt x) (matches ws txt m p) h e) }
      go (y ∷ k) e f =
          let same : x ≡ y = cc in
          let tail : xs' ≡ k ++ a.rest = cc in
          record {
            any = a.any;
            rest = a.rest;
            says = tail ∙ rw (
              kept_next (key_at ws txt) strict low (matches ws txt m p) (matches_increasing a.any.tree p) y k e,
              same,
            );
          }

  note_next : {y : ℕ} → NoteOk ws txt p (past strict low) xs y → NoteOk ws txt p (past true (key_at ws txt x)) xs' y
  note_next a = record { some = a.some; begins = a.begins; ahead = ahead_next a.ahead }

-- There is none.
matched_none : {ws txt : List ℕ} {p : Str} {notes : Notes} {xs : List ℕ} → xs ≡ [] → Matched ws txt p notes xs None
matched_none e = record { head = rw e refl; noted = λ x after g. absurd (nil≢cons (sym e ∙ g)) }

module _ {ws txt : List ℕ} {p : Str} (low : Str) (strict : Bool) {notes notes' : Notes} {xs : List ℕ}
    (o : Noting ws txt p (past strict low) notes [] xs)
    (a : Allˡ (λ x. past strict low (key_at ws txt x) ≡ true) xs) where
  -- The last note is the first of the list.
  pub matched_top : (x : ℕ) → NoteTaken notes notes' (Some x) → Matched ws txt p notes' xs (Some x)
  matched_top x t =
      let right = matches ws txt (right_link (record_at ws x)) p in
      let come = to_come ws txt p notes'.branches in
      let rest = right ++ (come ++ o.rest) in
      let s : xs ≡ x ∷ rest =
      o.says ∙ ap (λ (y : List ℕ). y ++ o.rest) (ap (to_come ws txt p) t.taken ∙ come_first ws txt p notes'.branches x)
      ∙ ap (◌∷◌ x) (append_assoc right come o.rest) in
      let past_top : past strict low (key_at ws txt x) ≡ true = (subst (λ (y : List ℕ). Allˡ (λ z. past strict low (key_at ws txt z) ≡ true) y) s a).0 in
      let noted : Noted ws txt p notes' x rest = record {
        holds = holds_map (λ y. note_next low strict s past_top) (λ y. ahead_next low strict s past_top) (note_taken_holds o.holds (Some x) t);
        rest = o.rest;
        says = refl;
        whole = λ z. o.whole (sym t.dropped ∙ z);
      } in
      record {
        head = rw s refl;
        noted = λ y after f.
            let g : x ∷ rest ≡ y ∷ after = sym s ∙ f in
            let tails : rest ≡ after = cc in
            let heads : x ≡ y = cc in
            rw (← tails, ← heads) noted;
      }

  -- The same where with no note there is none.
  pub matched_taken : (r : Option ℕ) → (notes.branches ≡ [] → xs ≡ []) → NoteTaken notes notes' r
      → Matched ws txt p notes' xs r
  matched_taken None e t = matched_none (e t.taken.0)
  matched_taken (Some x) e t = matched_top x t

-- ---- The walk

-- The root's matches, before anything is noted.
pub first_noting : (ws txt : List ℕ) (p : Str) (root : ℕ) {notes : Notes} → notes ≡ none
    → Noting ws txt p (past false p) notes (passing ws txt p (past false p) root) (matches ws txt root p)
first_noting ws txt p root e = rw e (noting_none (record { note = tt; near = tt; far = tt }) refl []
    (sym (matches_past ws txt p root) ∙ sym (append-nil (passing ws txt p (past false p) root))) (λ z. refl))

pub first_pass : (ws txt : List ℕ) (p : Str) (root : ℕ)
    → Allˡ (λ x. past false p (key_at ws txt x) ≡ true) (matches ws txt root p)
first_pass ws txt p root = subst (λ (xs : List ℕ). Allˡ (λ x. past false p (key_at ws txt x) ≡ true) xs) (matches_past ws txt p root)
    (kept_pass (key_at ws txt) (past false p) (matches ws txt root p))

-- What is to the right of a match.
module _ {ws txt : List ℕ} (p : Str) {at : ℕ} (a : (0 < at) × AnyTree ws txt at)
    (s : starts_with (key_at ws txt at) p ≡ true) where
  pub right_after : AllAfter ws txt p (right_link (record_at ws at))
  right_after = all_beyond a.1 a.0 (λ y. p <ˢ y) (λ y. after_prefix p (key_at ws txt at) y s)

  pub next_here : {notes notes' : Notes} {xs : List ℕ} {x : ℕ} → Noted ws txt p notes at xs
      → x ≡ right_link (record_at ws at)
      → NotesLeft ws txt p x notes notes' → Noting ws txt p (past true (key_at ws txt at)) notes' [] xs
  next_here {xs = xs} o e d =
      (rw e at d).notes_on (past true (key_at ws txt at)) xs
      (all_beyond a.1 a.0 (λ y. past true (key_at ws txt at) y ≡ true) (λ y. past_after true (key_at ws txt at) y)) o

module _ {ws txt : List ℕ} {p : Str} {b : Str → Bool} {notes notes' : Notes} {h xs : List ℕ}
    (o : Noting ws txt p b notes h xs) where
  -- No note and no mark were there to take.
  pub no_note : NoteTaken notes notes' None → Noting ws txt p b notes' h xs
  no_note t = record {
    holds = note_taken_holds o.holds None t;
    rest = o.rest;
    says = rw (t.taken.1 ∙ sym t.taken.0) o.says;
    whole = λ z. o.whole (sym t.dropped ∙ z);
  }

  pub no_mark : MarkTaken notes notes' None → Noting ws txt p b notes' h xs
  no_mark t = record {
    holds = mark_taken_holds o.holds None t;
    rest = o.rest;
    says = rw t.branches o.says;
    whole = λ z. o.whole (sym t.dropped ∙ z);
  }

-- With no note: what notes that were not dropped said was all.
pub next_end : {ws txt : List ℕ} {p : Str} {b : Str → Bool} {notes : Notes} {xs : List ℕ}
    → Noting ws txt p b notes [] xs
    → notes.branches ≡ [] → notes.dropped ≡ false → Matched ws txt p notes xs None
unfolding to_come
next_end o h z = matched_none (o.says ∙ rw (h, o.whole z) refl)

-- Else a mark's tree, or the root.
module _ {ws txt : List ℕ} {p : Str} (k : Str) {xs : List ℕ} {notes : Notes}
    (o : Noting ws txt p (past true k) notes [] xs) (h : notes.branches ≡ []) where
  pub root_noting : (root : ℕ) → xs ≡ passing ws txt p (past true k) root
      → Noting ws txt p (past true k) notes (passing ws txt p (past true k) root) xs
  root_noting root e = noting_none o.holds h [] (e ∙ sym (append-nil (passing ws txt p (past true k) root))) (λ z. refl)

  module _ {notes' : Notes} (m : ℕ) (t : MarkTaken notes notes' (Some m)) where
    pub mark_ahead : Ahead ws txt p (past true k) xs m
    mark_ahead = mark_taken_is o.holds m t

    pub mark_noting : notes.dropped ≡ true → Noting ws txt p (past true k) notes' (passing ws txt p (past true k) m) xs
    mark_noting d = noting_none (mark_taken_holds o.holds (Some m) t) (t.branches ∙ h) mark_ahead.rest mark_ahead.says
        (λ z. absurd (false≢true (sym z ∙ t.dropped ∙ d)))
