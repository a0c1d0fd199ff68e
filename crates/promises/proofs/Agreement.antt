-- Demand 3, the theorem: `agreement`.
use Prim.Native.Nat.{ℕ}
use mathlib.Core.Path.{◌≡◌, refl, sym, ap, ap₂, ◌∙◌, subst}
use mathlib.Core.Logic.{◌≢◌}
use mathlib.Core.Bool.{Bool, true, false, cond, true≢false}
use mathlib.Core.List.{List, [], ◌∷◌, map, nil≢cons, head-eq_of_cons-eq, tail-eq_of_cons-eq}
use mathlib.Core.Option.{Option, none, some}
use native.Mathlib.Omega.{arith}
use borrow.Author.Tests.{eqb-false}
use lib.Dec.{eqb}
use Rattle.source.specs.Text.{Str, Query, dot, segments, onto_first, ends_in_dot, query_to_string, name_byte}
use Rattle.source.specs.Types.{Value, Trie, bind}
use Rattle.source.specs.Tries.{trie_find_exact}
use Rattle.source.specs.Terms.{walk_first}
use Rattle.source.specs.Listing.{PathOf, Finder, by_first, trie_find_prefix', trie_find_prefix_first}
use Rattle.source.specs.Table.{Line, string_of_path, completion_result_of_lid, completion_result_of_ns_or_mod, autocomplete_lid_first}
use Rattle.source.specs.Rules.{Formed, IsKey, IsLabel, NameItem, ModItem, SoundTrie, all}
use Rattle.source.specs.Calls.{Found, found, not_found, refused, found_of, look_up, Completed, listed, Output, All, kept, keeps, keeps_kind, completed}
use Rattle.source.specs.Calls.{complete, complete_modules, first_row, argument_rows, completion_rows, a_look_up, is_empty}
use Rattle.promises.specs.Agreement.{Covers, without_last, NotRefused, lines_of_text, Shows, passing, Agree, Demand3, FilteredAgree}
use Rattle.source.specs.Shared.{same, Allˡ}
use Rattle.source.specs.declared.KindFilter.TheVariants.{Every}
use Rattle.source.proofs.Filters.{all_listed}
use Rattle.source.proofs.Queries.{and_parts, string_is}
use Rattle.promises.proofs.Worded.{covers_itself}
use Rattle.source.proofs.Refusals.{Admitted, argument_rows_none, look_up_whole, look_up_segment}
use Rattle.promises.proofs.Listed.{look_up_is_walk, Finds, first_finds, along, item_list, along_items}
use Rattle.promises.proofs.ListedTexts.{NoDot, with_text, listed_text}

-- ---- a full name's text
onto_no_dot : (b : ℕ) (q : Query) → b ≢ dot → Allˡ NoDot q → Allˡ NoDot (onto_first b q)
unfolding onto_first
onto_no_dot b [] n a = ((n, tt), tt)
onto_no_dot b (s ∷ q) n a = ((n, a.0), a.1)

name_byte_no_dot : (b : ℕ) → name_byte b ≡ true → b ≢ dot
unfolding name_byte
name_byte_no_dot b e i = true≢false (sym e ∙ ap name_byte i)

pub key_no_dot : (s : Str) → all name_byte s ≡ true → NoDot s
unfolding all
key_no_dot [] e = tt
key_no_dot (b ∷ s) e = let h = and_parts (name_byte b) (all name_byte s) e in (name_byte_no_dot b h.0, key_no_dot s h.1)

-- no segment has a dot
segments_no_dot : (s : Str) → Allˡ NoDot (segments s)
unfolding segments
segments_no_dot [] = tt
segments_no_dot (b ∷ s) = go (eqb b dot) refl (segments_no_dot s)
  where
    go : (i : Bool) → eqb b dot ≡ i → Allˡ NoDot (segments s)
        → Allˡ NoDot (elim i as (λ _. Query) [ true ↦ [] ∷ segments s | false ↦ onto_first b (segments s) ])
    go true e a = (tt, a)
    go false e a = onto_no_dot b (segments s) (eqb-false b dot e) a

-- ---- lines and items
module _ {A : Type 0} where
  abbrev items_in : List (Line A) → List A
  items_in ls = map (λ l. l.item_of) ls

  shown : (ls : List (Line A)) (o : Option (Value A bind)) → items_in ls ≡ item_list o → Shows ls (found_of o)
  unfolding found_of
  shown [] none e = refl
  shown (l ∷ ls) none e = absurd (nil≢cons (sym e))
  shown [] (some v) e = absurd (nil≢cons e)
  shown (l ∷ []) (some v) e = (l, refl, head-eq_of_cons-eq e)
  shown (l ∷ (m ∷ ls)) (some v) e = absurd (nil≢cons (sym (tail-eq_of_cons-eq e)))

-- ---- calls that are not refused
not_refused : {A : Type 0} (rows : Option ℕ) (o : Found A)
    → NotRefused {A = A} (elim rows [ none ↦ o | some n ↦ refused n ]) → rows ≡ none
not_refused none o h = refl
not_refused (some n) o h = absurd h

look_up_passes : {A : Type 0} (tr : Trie A) (name : Str) → NotRefused (look_up true tr name)
    → first_row (argument_rows true (a_look_up name ∷ [])) ≡ none
unfolding look_up
look_up_passes tr name asked = not_refused (first_row (argument_rows true (a_look_up name ∷ []))) (found_of (trie_find_exact tr (segments name))) asked

pub look_up_admitted : {A : Type 0} (tr : Trie A) (name : Str) → NotRefused (look_up true tr name)
    → Admitted true (a_look_up name ∷ [])
look_up_admitted tr name asked = argument_rows_none true (a_look_up name ∷ []) (look_up_passes tr name asked)

pub completed_lines : {A : Type 0} (sound : Bool) (budget : ℕ) (out : Output) (query : Str)
    (lines lines' : List (Line A)) (entered entered' : ℕ)
    → completed sound budget out query lines entered ≡ listed lines' entered' → lines ≡ lines'
unfolding completed
completed_lines {A} sound budget out query lines lines' entered entered' e = go (first_row (completion_rows sound budget out query lines entered)) e
  where
    go : (o : Option ℕ) → ◌≡◌ {A = Completed A} (elim o [ none ↦ listed lines entered | some n ↦ refused n ])
        (listed lines' entered') → lines ≡ lines'
    go none e = cc
    go (some n) e = let z : ◌≡◌ {A = ℕ} 0 1 = cc in absurd (omega arith)

-- ---- a root whose lines are made of what its listing gives, by a function that keeps the text and the item
module _ {A : Type 0} (Item : A → Type 0) (f : PathOf × A → Line A)
    (text : (x : PathOf × A) → (f x).candidate ≡ string_of_path x.0) where
  pub lines_made : (t : Str) (ls : List (PathOf × A)) → lines_of_text t (map f ls) ≡ map f (with_text t ls)
  unfolding lines_of_text with_text
  lines_made t [] = refl
  lines_made t (x ∷ ls) = go (same (f x).candidate t) (lines_made t ls)
      ∙ ap (λ c. map f (cond (same c t) (x ∷ with_text t ls) (with_text t ls))) (text x)
    where
      go : (b : Bool) → lines_of_text t (map f ls) ≡ map f (with_text t ls)
          → elim b as (λ _. List (Line A)) [
            | true ↦ f x ∷ lines_of_text t (map f ls)
            | false ↦ lines_of_text t (map f ls)
          ] ≡ map f (cond b (x ∷ with_text t ls) (with_text t ls))
      go true e = ap (◌∷◌ (f x)) e
      go false e = e

  -- The line of a full name is the one along its segments.
  module _ (find : Finder A) (finds : Finds IsKey IsLabel Item find) (tr : Trie A)
      (formed : Formed IsKey IsLabel Item tr) where
    pub line_along : (name query : Str) (s : Str) (q : Query) → segments name ≡ s ∷ q → ends_in_dot name ≡ true
        → lines_of_text (without_last name) (map f (trie_find_prefix' find tr [] (segments query) []))
        ≡ map f (along find tr [] (segments query) s q)
    unfolding without_last
    line_along name query s q e whole =
        lines_made (without_last name) (trie_find_prefix' find tr [] (segments query) [])
        ∙ ap (λ t. map f (with_text t (trie_find_prefix' find tr [] (segments query) []))) (sym (string_is name whole) ∙ ap query_to_string e)
        ∙ ap (map f) (listed_text IsKey IsLabel Item (λ k h. key_no_dot k h.bytes) find finds tr (segments query) s q formed
        (subst (Allˡ NoDot) e (segments_no_dot name)))

  module _ (same_item : (x : PathOf × A) → (f x).item_of ≡ x.1) where
    same_items : (ls : List (PathOf × A)) → items_in (map f ls) ≡ map (λ (x : PathOf × A). x.1) ls
    same_items [] = refl
    same_items (x ∷ ls) = ap₂ ◌∷◌ (same_item x) (same_items ls)

    root_agreement : (tr : Trie A) → SoundTrie Item tr → (name query : Str) → NotRefused (look_up true tr name)
        → Covers (segments query) (segments name)
        → Shows (lines_of_text (without_last name) (map f (trie_find_prefix_first tr (segments query))))
        (look_up true tr name)
    unfolding look_up trie_find_prefix_first is_empty
    root_agreement tr sound name query asked covers = go (segments name) refl (look_up_segment true name passed) covers
      where
        passed : Admitted true (a_look_up name ∷ [])
        passed = look_up_admitted tr name asked

        lines : List (Line A)
        lines = lines_of_text (without_last name) (map f (trie_find_prefix' by_first tr [] (segments query) []))

        go : (full : Query) → segments name ≡ full → is_empty full ≡ false → Covers (segments query) full
            → Shows lines (look_up true tr name)
        go [] e h c = absurd (true≢false h)
        go (s ∷ q) e h c =
            rw (look_up_passes tr name asked, look_up)
            (subst (λ o. Shows lines (found_of o)) (ap (walk_first tr) (sym e) ∙ sym (look_up_is_walk tr (segments name)))
            (shown lines (walk_first tr (s ∷ q))
            (ap items_in (line_along by_first (first_finds IsKey IsLabel Item) tr sound.formed name query s q e (look_up_whole true name passed))
            ∙ same_items (along by_first tr [] (segments query) s q)
            ∙ along_items IsKey IsLabel Item tr [] (segments query) s q sound.formed c)))

-- ---- what a filter leaves
module _ {A : Type 0} (keep : A → Bool) where
  text_kept : (t : Str) (ls : List (Line A)) → lines_of_text t (kept keep ls) ≡ kept keep (lines_of_text t ls)
  unfolding lines_of_text kept
  text_kept t [] = refl
  text_kept t (l ∷ ls) = go (keep l.item_of) refl (same l.candidate t) refl (text_kept t ls)
    where
      go : (k : Bool) → keep l.item_of ≡ k → (b : Bool) → same l.candidate t ≡ b
          → lines_of_text t (kept keep ls) ≡ kept keep (lines_of_text t ls)
          → lines_of_text t (cond k (l ∷ kept keep ls) (kept keep ls))
          ≡ kept keep (elim b [ true ↦ l ∷ lines_of_text t ls | false ↦ lines_of_text t ls ])
      go true e true f h = rw (f, lines_of_text, e, kept) (ap (◌∷◌ l) h)
      go true e false f h = rw (f, lines_of_text) h
      go false e true f h = rw (e, kept) h
      go false e false f h = h

  shows_kept : (ls : List (Line A)) (a : Found A) → Shows ls a → Shows (kept keep ls) (passing keep a)
  unfolding kept passing
  shows_kept ls (found x) (l, e, i) =
      subst (λ m. Shows (kept keep m) (cond (keep x) (found x) not_found)) (sym e)
      (subst (λ y. Shows (cond (keep l.item_of) (l ∷ []) []) (cond (keep y) (found x) not_found)) i (go (keep l.item_of)))
    where
      go : (k : Bool) → Shows (cond k (l ∷ []) []) (cond k (found x) not_found)
      go true = (l, refl, i)
      go false = refl
  shows_kept ls not_found e = rw e refl
  shows_kept ls (refused n) e = elim e [ ]

  pub passing_all : (a : Found A) → ((x : A) → keep x ≡ true) → passing keep a ≡ a
  unfolding passing
  passing_all (found x) h = rw (h x)
  passing_all not_found h = refl
  passing_all (refused n) h = refl

  not_refused_passing : (a : Found A) → NotRefused (passing keep a) → NotRefused a
  unfolding passing
  not_refused_passing (found x) h = tt
  not_refused_passing not_found h = tt
  not_refused_passing (refused n) h = h

-- ---- Demand 3
-- What is listed in full is an instance: a name covers itself.
pub agrees : {A : Type 0} {Finds : Str → Found A → Type 0} {Lists : Str → List (Line A) → Type 0}
    → ((name query : Str) (a : Found A) (lines : List (Line A)) → Finds name a → NotRefused a → Lists query lines
    → Covers (segments query) (segments name) → Shows (lines_of_text (without_last name) lines) a) → Agree Finds Lists
agrees h = record { shows = h; in_full = λ name a lines f l. h name name (found a) lines f tt l (covers_itself (segments name)) }

pub filtered_agree : FilteredAgree
unfolding complete complete_modules autocomplete_lid_first completion_result_of_lid completion_result_of_ns_or_mod
filtered_agree = record {
  names = λ tbl sound f. agrees (λ name query a lines e ok (budget, out, entered, h) covers.
      rw (← e, ← completed_lines true budget out query _ lines _ entered h, text_kept (keeps_kind f))
      (shows_kept (keeps_kind f) _ _
      (root_agreement NameItem completion_result_of_lid (λ x. refl) (λ x. refl) tbl.tbl_lids sound.lids name query
      (not_refused_passing (keeps_kind f) (look_up true tbl.tbl_lids name) (rw e ok)) covers)));
  modules = λ tbl sound f. agrees (λ name query a lines e ok (budget, out, entered, h) covers.
      rw (← e, ← completed_lines true budget out query _ lines _ entered h, text_kept (keeps f), all_listed tbl (segments query))
      (shows_kept (keeps f) _ _
      (root_agreement ModItem completion_result_of_ns_or_mod (λ x. refl) (λ x. refl) tbl.tbl_mods sound.mods name query
      (not_refused_passing (keeps f) (look_up true tbl.tbl_mods name) (rw e ok)) covers)));
}

pub agreement : Demand3
unfolding keeps keeps_kind passing
agreement = record {
  names = λ tbl sound. agrees (λ name query a lines e.
      (filtered_agree.names tbl sound Every).shows name query a lines (passing_all (keeps_kind Every) (look_up true tbl.tbl_lids name) (λ x. refl) ∙ e));
  modules = λ tbl sound. agrees (λ name query a lines e.
      (filtered_agree.modules tbl sound All).shows name query a lines (passing_all (keeps All) (look_up true tbl.tbl_mods name) (λ x. refl) ∙ e));
}
