-- What a caller takes from a step: the end, or an entry with its branch and label, and the entries after it.
use Prim.Native.Nat.{ℕ}
use mathlib.Core.Path.{◌≡◌, refl, sym, ◌∙◌, subst}
use mathlib.Core.List.{List, [], ◌∷◌}
use Rattle.source.specs.Text.{Str}
use Rattle.source.specs.Types.{Level}
use Rattle.memory.specs.Layout.{Which}
use Rattle.find_list.specs.Entries.{Entry}
use Rattle.merge.specs.declared.Given.{Given}
use Rattle.std.specs.Prelude.{Option, Some, None}
use Rattle.merge.specs.Stream.{State, labelled, relabelled, CellLabel, Rest, AnyRest, Stands, GivenIn, GivesIn, Gives, Steps}

-- What next requires, of the labels at hand.
pub any_stands : {ws txt : List ℕ} {p : Str} {m : State} → AnyRest ws txt p m → Stands ws txt p m
any_stands {m = m} y = record { labels = m.labels; any = y }

-- What is given has its own label, where that is its cell's.
own_label : (labels : List ℕ) (r : Option Given) → CellLabel labels r → relabelled labels r ≡ r
own_label labels None l = refl
own_label labels (Some r) l = rw (← l.1) refl

-- A step gives the next entry of the state at hand.
pub steps_give : {ws txt : List ℕ} {p : Str} {m m' : State} (r : Option Given) → Steps ws txt p m r m'
    → CellLabel m.labels r → m'.labels ≡ m.labels → Gives ws txt p m r m'
steps_give {ws} {txt} {p} {m} {m'} r f l e =
    subst (λ (labels : List ℕ). Gives ws txt p m r (labelled labels m')) (sym e) (rw (own_label m.labels r l) at (f m.labels))

module _ {ws txt : List ℕ} {w : Which} {ℓ : Level} {x : ℕ} {p : Str} {m : State} {es : List Entry}
    (g : Rest ws txt w ℓ x p m es) where
  pub rest_any : AnyRest ws txt p m
  rest_any = record { which = w; level = ℓ; link = x; entries = es; rest = g }

  pub gives_end : {m' : State} → Gives ws txt p m None m' → es ≡ []
  gives_end {m'} f = go es (f w ℓ x es g)
    where
      go : (es : List Entry) → GivesIn ws txt w ℓ x p m es None m' → es ≡ []
      go [] d = refl
      go (y ∷ es) d = absurd d

  module _ {r : Given} {m' : State} (f : Gives ws txt p m (Some r) m') where
    -- The entry given, and those after it.
    pub record More : Type 0 where
      pub after : List Entry
      pub is : es ≡ record { branch = r.branch; label = r.label } ∷ after
      pub given : GivenIn ws txt w ℓ x p m (record { branch = r.branch; label = r.label }) after r m'

    pub gives_more : More
    gives_more = go es refl (f w ℓ x es g)
      where
        go : (xs : List Entry) → es ≡ xs → GivesIn ws txt w ℓ x p m xs (Some r) m' → More
        go [] e d = absurd d
        go (y ∷ xs) e d = record {
          after = xs;
          is = e ∙ rw (d.branch_is, d.label_is);
          given =
              record { branch_is = refl; label_is = refl; branch = d.branch; begins = d.begins; label_ok = d.label_ok; rest = d.rest; fewer = d.fewer };
        }
