-- What a link reads as stays where only later records change; a right record more keeps the memory sound.
use Prim.Native.Nat.{ℕ, zero, suc, ◌+◌, ◌-◌, ◌*◌, ◌≤◌, ◌<◌}
use mathlib.Core.Path.{◌≡◌, refl, sym, ap, ◌∙◌, fun_ext}
use mathlib.Core.List.{List}
use mathlib.Core.Logic.{⊎_elim}
use native.Mathlib.Omega.{arith}
use native.Mathlib.Nat.{eq-or-lt_of_le}
use lib.ListN.{length, take}
use lib.Seq.{take-take}
use Rattle.memory.specs.Layout.{record_at, Which, Reading, among, what}
use Rattle.memory.specs.Stored.{stored}
use Rattle.memory.specs.Sound.{LinkOk, RecordOk, Used}
use Rattle.memory.specs.Grown.{Stays}
use Rattle.memory.proofs.Pasted.{part_stays}
use Rattle.memory.proofs.RecordOk.{zero_some, as_map}

pub stays_same : (n : ℕ) (ws : List ℕ) → Stays n ws ws
stays_same n ws = record { same = refl; size = refl }

pub stays_on : {m n : ℕ} {ws ws' ws'' : List ℕ} → m ≤ n → Stays m ws ws' → Stays n ws' ws'' → Stays m ws ws''
stays_on {m} {n} {ws} {ws'} {ws''} h y z = record {
  same = sym (take-take (m * 12) (n * 12) ws'' (omega arith)) ∙ ap (take (m * 12)) z.same ∙ take-take (m * 12) (n * 12) ws' (omega arith) ∙ y.same;
  size = z.size ∙ y.size;
}

-- The first n records are the same, whatever else is lent.
module _ (n : ℕ) (ws ws' : List ℕ) (e : take (n * 12) ws' ≡ take (n * 12) ws) where
  pub record_same : (l : ℕ) → 0 < l → l ≤ n → record_at ws' l ≡ record_at ws l
  unfolding record_at
  record_same l p h = part_stays (n * 12) ws ws' e 12 ((l - 1) * 12) (omega arith)

  among_same : (w : Which) (txt : List ℕ) (m : ℕ) → m ≤ n → among w ws' txt m ≡ among w ws txt m
  unfolding among
  among_same w txt zero h = refl
  among_same w txt (suc m) h = fun_ext (λ l. rw (record_same (suc m) (omega arith) h, among_same w txt m (omega arith)))

  pub what_same : (w : Which) (txt : List ℕ) (l : ℕ) → l ≤ n → what w ws' txt l ≡ what w ws txt l
  unfolding what
  what_same w txt l h = ap (λ (f : ℕ → Reading w). f l) (among_same w txt l h)

  -- A link stays right, also in a later record.
  pub link_same : {l l' x k : ℕ} → l ≤ n + 1 → l ≤ l' → LinkOk ws l x k → LinkOk ws' l' x k
  link_same {x = x} h g o = record {
    earlier = omega (arith, o.earlier);
    of_kind = λ z. zero_some x (λ i. absurd (z i)) (λ p. rw (record_same x p (omega (arith, o.earlier))) (o.of_kind z));
  }

  pub ok_same : {txt : List ℕ} {used l : ℕ} → 0 < l → l ≤ n → RecordOk ws txt used l → RecordOk ws' txt used l
  ok_same {txt} {used} {l} p h o = record {
    which = o.which;
    sort = o.sort;
    known = rw (record_same l p h) o.known;
    right = rw (record_same l p h, what_same o.which txt l h)
        (as_map {ws = ws} {ws' = ws'} {txt = txt} {txt' = txt} {used = used} {used' = used} {l = l} {l' = l} (λ x k a. link_same (omega arith) (omega arith) a)
        (λ Rule s m a. a) o.which o.sort _ _ o.right);
  }

module _ {n : ℕ} {ws ws' : List ℕ} (y : Stays n ws ws') where
  pub record_stays : (l : ℕ) → 0 < l → l ≤ n → record_at ws' l ≡ record_at ws l
  record_stays = record_same n ws ws' y.same

  pub what_stays : (w : Which) (txt : List ℕ) (l : ℕ) → l ≤ n → what w ws' txt l ≡ what w ws txt l
  what_stays = what_same n ws ws' y.same

  pub stored_stays : (x k : ℕ) → x ≤ n → stored ws' x k ≡ stored ws x k
  unfolding stored
  stored_stays x k h = zero_some x (λ e. rw e) (λ p. rw (record_stays x p h))

  pub link_stays : {l l' x k : ℕ} → l ≤ n + 1 → l ≤ l' → LinkOk ws l x k → LinkOk ws' l' x k
  link_stays = link_same n ws ws' y.same

  pub ok_stays : {txt : List ℕ} {used l : ℕ} → 0 < l → l ≤ n → RecordOk ws txt used l → RecordOk ws' txt used l
  ok_stays = ok_same n ws ws' y.same

-- A right record after the used ones.
pub used_more : {ws ws' txt : List ℕ} {n used : ℕ} → Used ws txt n used → Stays n ws ws' → n < 65536
    → n * 12 + 12 ≤ length ws → RecordOk ws' txt used (n + 1)
    → Used ws' txt (n + 1) used
used_more o y few room r = record {
  few = omega arith;
  short = o.short;
  records_fit = omega (arith, y.size);
  text_fits = o.text_fits;
  rows = λ l p h. ⊎_elim (λ e. rw e r) (λ k. ok_stays y p (omega arith) (o.rows l p (omega arith))) (eq-or-lt_of_le h);
}

-- The first of them.
pub used_first : {ws txt : List ℕ} {n used : ℕ} (x : ℕ) → Used ws txt n used → x ≤ n → Used ws txt x used
used_first x o h = record {
  few = omega (arith, o.few);
  short = o.short;
  records_fit = omega (arith, o.records_fit);
  text_fits = o.text_fits;
  rows = λ l p k. o.rows l p (omega arith);
}
