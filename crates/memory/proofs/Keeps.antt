-- What the links of a sound memory read as stays where only free text changes, and the used records stay right.
use Prim.Native.Nat.{ℕ, ◌+◌, ◌≤◌}
use mathlib.Core.Path.{◌≡◌, refl, sym, ap, ◌∙◌}
use mathlib.Core.List.{List}
use native.Mathlib.Omega.{arith}
use lib.ListN.{length, take}
use lib.Seq.{length-paste, take-length, take-take}
use Rattle.source.specs.Types.{Level, bind, ns}
use Rattle.source.specs.Text.{Str}
use Rattle.memory.specs.Layout.{record_at, word, span, Which, names, modules, item_of, Sort, tree, list, trieˢ, kind, row, what}
use Rattle.memory.specs.Sound.{LinkOk, TextOk, CollectionOk, ItemOk, RecordAs, Used}
use Rattle.memory.specs.Grown.{Keeps, put_text}
use Rattle.memory.proofs.Pasted.{part_stays, paste_front, paste_part}
use Rattle.memory.proofs.What.{what_none, what_row}
use Rattle.memory.proofs.RecordOk.{zero_one, as_earlier, as_map, by_links}

-- Lists that keep a beginning.
pub keeps_then : {m n : ℕ} {t t' t'' : List ℕ} → m ≤ n → Keeps m t t' → Keeps n t' t'' → Keeps m t t''
keeps_then {m} {n} {t' = t'} {t''} h a b = record {
  same = sym (take-take m n t'' h) ∙ ap (λ (xs : List ℕ). take m xs) b.same ∙ take-take m n t' h ∙ a.same;
  size = b.size ∙ a.size;
}

-- A text put after the used ones.
module _ (txt : List ℕ) (used : ℕ) (s : List ℕ) (room : used + length s ≤ length txt) where
  pub put_text_keeps : Keeps used txt (put_text txt used s)
  unfolding put_text
  put_text_keeps = record { same = paste_front txt used s (length s) room (omega arith); size = length-paste txt used s (length s) room (omega arith) }

  pub put_text_span : span (put_text txt used s) used (length s) ≡ s
  unfolding put_text span
  put_text_span = paste_part txt used s (length s) room (omega arith) ∙ take-length s

-- The first used bytes are the same, whatever else is lent.
module _ (txt txt' : List ℕ) (used : ℕ) (e : take used txt' ≡ take used txt) where
  pub span_same : (start n : ℕ) → start + n ≤ used → span txt' start n ≡ span txt start n
  unfolding span
  span_same start n h = part_stays used txt txt' e n start h

  text_same : {used' : ℕ} → used ≤ used' → (Rule : Str → Type 0) (start n : ℕ) → TextOk Rule txt used start n
      → TextOk Rule txt' used' start n
  text_same u Rule start n o = record { inside = omega (arith, o.inside); keeps = rw (span_same start n o.inside) o.keeps }

  pub item_same : (w : Which) (r : List ℕ) → ItemOk txt used w r → item_of w txt' r ≡ item_of w txt r
  item_same names r o = refl
  item_same modules r o =
      zero_one (word r 5) o.sort
      (λ z. rw (z, span_same (word r 6) (word r 7) o.name.inside, span_same (word r 8) (word r 9) (o.path z).inside))
      (λ z. rw (z, span_same (word r 6) (word r 7) o.name.inside))

  -- A right record, where its links read the same.
  module _ (ws : List ℕ) (l : ℕ) (w : Which) (r : List ℕ)
      (ih : (x : ℕ) (so : Sort) → LinkOk ws l x (kind w so) → what w ws txt' x so ≡ what w ws txt x so) where
    collection_same : (ℓ : Level) → CollectionOk ws txt used l w r ℓ
        → row w txt' r (what w ws txt') (list ℓ) ≡ row w txt r (what w ws txt) (list ℓ)
    collection_same ℓ o =
        zero_one (word r 5) o.sort
        (λ z. rw (z, ih (word r 3) (tree ℓ) (o.own z), ih (word r 4) (list ℓ) o.rest))
        (λ z. rw (z, span_same (word r 1) (word r 2) (o.label z).inside, ih (word r 3) (list ℓ) (o.imported z), ih (word r 4) (list ℓ) o.rest))

    row_same : (so : Sort) → RecordAs ws txt used l w so r (what w ws txt l so)
        → row w txt' r (what w ws txt') so ≡ row w txt r (what w ws txt) so
    row_same (tree bind) a =
        rw (
          span_same (word r 1) (word r 2) a.0.key.inside,
          item_same w r a.2,
          ih (word r 3) (tree bind) a.0.left,
          ih (word r 4) (tree bind) a.0.right,
        )
    row_same (tree ns) a =
        rw (
          span_same (word r 1) (word r 2) a.0.key.inside,
          ih (word r 5) trieˢ a.2,
          ih (word r 3) (tree ns) a.0.left,
          ih (word r 4) (tree ns) a.0.right,
        )
    row_same (list bind) a = collection_same bind a.0
    row_same (list ns) a = collection_same ns a.0
    row_same trieˢ a = rw (ih (word r 3) (list bind) a.0.bindings, ih (word r 4) (list ns) a.0.namespaces)

module _ {ws txt : List ℕ} {n used : ℕ} (o : Used ws txt n used) (txt' : List ℕ)
    (e : take used txt' ≡ take used txt) where
  pub what_text_same : (w : Which) (so : Sort) {l x : ℕ} → l ≤ n + 1 → LinkOk ws l x (kind w so)
      → what w ws txt' x so ≡ what w ws txt x so
  what_text_same =
      by_links o.rows (λ w so x. what w ws txt' x so ≡ what w ws txt x so)
      (λ w so. rw (what_none w ws txt', what_none w ws txt))
      (λ w so l p r ih.
      let f = as_earlier ws txt used l w so (record_at ws l) (what w ws txt l so) r in
      what_row w ws txt' so l p f ∙ row_same txt txt' used e ws l w (record_at ws l) ih so r ∙ sym (what_row w ws txt so l p f))

  pub used_text_same : {used' : ℕ} → used ≤ used' → used' ≤ 65536 → used' ≤ length txt' → Used ws txt' n used'
  used_text_same {used'} more short fits = record {
    few = o.few;
    short = short;
    records_fit = o.records_fit;
    text_fits = fits;
    rows = λ l p h.
        let r = o.rows l p h in
        record {
          which = r.which;
          sort = r.sort;
          known = r.known;
          right = rw (what_text_same r.which r.sort {l = n + 1} {x = l} (omega arith) (record { earlier = omega arith; of_kind = λ _. r.known }))
              (as_map {ws = ws} {ws' = ws} {txt = txt} {txt' = txt'} {used = used} {used' = used'} {l = l} {l' = l} (λ x k i. i)
              (text_same txt txt' used e more) r.which
              r.sort _ _ r.right);
        };
  }

-- The same where as many bytes are lent.
pub span_keeps : {txt txt' : List ℕ} {used : ℕ} → Keeps used txt txt' → (start n : ℕ) → start + n ≤ used
    → span txt' start n ≡ span txt start n
span_keeps {txt} {txt'} {used} y = span_same txt txt' used y.same

module _ {ws txt txt' : List ℕ} {n used : ℕ} (o : Used ws txt n used) (y : Keeps used txt txt') where
  pub what_keeps : (w : Which) (so : Sort) {l x : ℕ} → l ≤ n + 1 → LinkOk ws l x (kind w so)
      → what w ws txt' x so ≡ what w ws txt x so
  what_keeps = what_text_same o txt' y.same

  pub used_text : {used' : ℕ} → used ≤ used' → used' ≤ 65536 → used' ≤ length txt' → Used ws txt' n used'
  used_text = used_text_same o txt' y.same
