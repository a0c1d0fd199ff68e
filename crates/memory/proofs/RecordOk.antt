-- A right record is right as what its kind says, and its links are earlier.
use Prim.Native.Nat.{ℕ, zero, suc, ◌+◌, ◌≤◌, ◌<◌}
use mathlib.Core.Path.{◌≡◌, refl, sym, ap, ◌∙◌, subst}
use mathlib.Core.List.{List, [], ◌∷◌}
use native.Mathlib.Omega.{arith}
use Rattle.source.specs.Types.{Level, bind, ns}
use Rattle.source.specs.Text.{Str}
use Rattle.source.specs.Rules.{Ordered}
use Rattle.memory.specs.Layout.{record_at, word, Which, names, modules, Item, Sort, tree, list, trieˢ, Of, kind, row, what}
use Rattle.memory.specs.Sound.{LinkOk, TextOk, BranchOk, CollectionOk, WeightOk, ItemOk, RecordAs, RecordOk}
use Rattle.memory.proofs.What.{Earlier, what_row}

pub zero_one : {A : Type 0} (n : ℕ) → n ≤ 1 → (n ≡ 0 → A) → (n ≡ 1 → A) → A
zero_one zero h f g = f refl
zero_one (suc n) h f g = g (omega arith)

pub zero_some : {A : Type 0} (n : ℕ) → (n ≡ 0 → A) → (0 < n → A) → A
zero_some zero f g = f refl
zero_some (suc n) f g = g (omega arith)

-- The table and the sort that have a kind.
at : List (Which × Sort) → ℕ → Which × Sort
at [] n = (modules, trieˢ)
at (x ∷ xs) zero = x
at (x ∷ xs) (suc n) = at xs n

of_kind : ℕ → Which × Sort
of_kind n =
    at ((names, trieˢ) ∷ (names, tree bind) ∷ (names, tree ns) ∷ (names, list bind) ∷ (names, list ns) ∷ (names, trieˢ)
    ∷ (modules, tree bind) ∷ (modules, tree ns) ∷ (modules, list bind) ∷ (modules, list ns) ∷ []) n

of_kind_is : (w : Which) (so : Sort) → of_kind (kind w so) ≡ (w, so)
unfolding of_kind at
of_kind_is names (tree bind) = refl
of_kind_is names (tree ns) = refl
of_kind_is names (list bind) = refl
of_kind_is names (list ns) = refl
of_kind_is names trieˢ = refl
of_kind_is modules (tree bind) = refl
of_kind_is modules (tree ns) = refl
of_kind_is modules (list bind) = refl
of_kind_is modules (list ns) = refl
of_kind_is modules trieˢ = refl

pub kind_one : (w : Which) (so : Sort) (w' : Which) (so' : Sort) → kind w so ≡ kind w' so'
    → ◌≡◌ {A = Which × Sort} (w, so) (w', so')
kind_one w so w' so' e = sym (of_kind_is w so) ∙ ap of_kind e ∙ of_kind_is w' so'

-- A collection's own link is earlier.
pub own_earlier : {ws txt : List ℕ} {used l : ℕ} {w : Which} {ℓ : Level} {r : List ℕ} → CollectionOk ws txt used l w r ℓ
    → word r 3 < l
own_earlier {r = r} o = zero_one (word r 5) o.sort (λ e. (o.own e).earlier) (λ e. (o.imported e).earlier)

pub as_earlier : (ws txt : List ℕ) (used l : ℕ) (w : Which) (so : Sort) (r : List ℕ) (v : Of (Item w) so)
    → RecordAs ws txt used l w so r v → Earlier so r l
as_earlier ws txt used l w (tree bind) r v a = record { first = a.0.left.earlier; second = a.0.right.earlier; held = tt }
as_earlier ws txt used l w (tree ns) r v a = record { first = a.0.left.earlier; second = a.0.right.earlier; held = a.2.earlier }
as_earlier ws txt used l w (list bind) r v a = record { first = own_earlier a.0; second = a.0.rest.earlier; held = tt }
as_earlier ws txt used l w (list ns) r v a = record { first = own_earlier a.0; second = a.0.rest.earlier; held = tt }
as_earlier ws txt used l w trieˢ r v a = record { first = a.0.bindings.earlier; second = a.0.namespaces.earlier; held = tt }

-- A right record whose kind is known.
module _ {ws txt : List ℕ} {used l : ℕ} (o : RecordOk ws txt used l) where
  pub links_earlier : (word (record_at ws l) 3 < l) × (word (record_at ws l) 4 < l)
  links_earlier = let e = as_earlier ws txt used l o.which o.sort _ _ o.right in (e.first, e.second)

  pub record_as : (w : Which) (so : Sort) → word (record_at ws l) 0 ≡ kind w so
      → RecordAs ws txt used l w so (record_at ws l) (what w ws txt l so)
  record_as w s e =
      subst (λ (p : Which × Sort). RecordAs ws txt used l p.0 p.1 (record_at ws l) (what p.0 ws txt l p.1))
      (kind_one o.which o.sort w s (sym o.known ∙ e)) o.right

  -- It reads as its words say.
  pub record_what : (w : Which) (so : Sort) → word (record_at ws l) 0 ≡ kind w so → 0 < l
      → what w ws txt l so ≡ row w txt (record_at ws l) (what w ws txt) so
  record_what w s e p = what_row w ws txt s l p (as_earlier ws txt used l w s _ _ (record_as w s e))

  pub branch_at : (w : Which) (ℓ : Level) → word (record_at ws l) 0 ≡ kind w (tree ℓ)
      → BranchOk ws txt used l w (record_at ws l) ℓ
  branch_at w bind e = (record_as w (tree bind) e).0
  branch_at w ns e = (record_as w (tree ns) e).0

  pub ordered_at : (w : Which) (ℓ : Level) → word (record_at ws l) 0 ≡ kind w (tree ℓ)
      → Ordered (what w ws txt l (tree ℓ))
  ordered_at w bind e = (record_as w (tree bind) e).1
  ordered_at w ns e = (record_as w (tree ns) e).1

  pub collection_at : (w : Which) (ℓ : Level) → word (record_at ws l) 0 ≡ kind w (list ℓ)
      → CollectionOk ws txt used l w (record_at ws l) ℓ
  collection_at w bind e = (record_as w (list bind) e).0
  collection_at w ns e = (record_as w (list ns) e).0

  pub weight_at : (w : Which) (ℓ : Level) → word (record_at ws l) 0 ≡ kind w (list ℓ)
      → WeightOk (record_at ws l) (what w ws txt l (list ℓ))
  weight_at w bind e = (record_as w (list bind) e).1
  weight_at w ns e = (record_as w (list ns) e).1

-- What other memory keeps of links and texts, it keeps of a right record.
module _ {ws ws' txt txt' : List ℕ} {used used' l l' : ℕ} (link : (x k : ℕ) → LinkOk ws l x k → LinkOk ws' l' x k)
    (text : (Rule : Str → Type 0) (start n : ℕ) → TextOk Rule txt used start n → TextOk Rule txt' used' start n) where
  branch_map : (w : Which) (ℓ : Level) {r : List ℕ} → BranchOk ws txt used l w r ℓ → BranchOk ws' txt' used' l' w r ℓ
  branch_map w ℓ o = record { key = text _ _ _ o.key; left = link _ _ o.left; right = link _ _ o.right }

  collection_map : (w : Which) (ℓ : Level) {r : List ℕ} → CollectionOk ws txt used l w r ℓ
      → CollectionOk ws' txt' used' l' w r ℓ
  collection_map w ℓ o = record {
    sort = o.sort;
    own = λ e. link _ _ (o.own e);
    imported = λ e. link _ _ (o.imported e);
    label = λ e. text _ _ _ (o.label e);
    rest = link _ _ o.rest;
  }

  item_map : (w : Which) (r : List ℕ) → ItemOk txt used w r → ItemOk txt' used' w r
  item_map names r o = o
  item_map modules r o = record { sort = o.sort; name = text _ _ _ o.name; path = λ e. text _ _ _ (o.path e); loaded = o.loaded }

  pub as_map : (w : Which) (so : Sort) (r : List ℕ) (v : Of (Item w) so) → RecordAs ws txt used l w so r v
      → RecordAs ws' txt' used' l' w so r v
  as_map w (tree bind) r v a = (branch_map w bind a.0, a.1, item_map w r a.2)
  as_map w (tree ns) r v a = (branch_map w ns a.0, a.1, link _ _ a.2, a.3)
  as_map w (list bind) r v a = (collection_map w bind a.0, a.1)
  as_map w (list ns) r v a = (collection_map w ns a.0, a.1, a.2)
  as_map w trieˢ r v a = (record { bindings = link _ _ a.0.bindings; namespaces = link _ _ a.0.namespaces }, a.1, a.2)

-- What holds of none, and of a right record where it holds of its links, holds of every link.
module _ {ws txt : List ℕ} {used n : ℕ} (rows : (l : ℕ) → 0 < l → l ≤ n → RecordOk ws txt used l)
    (P : Which → Sort → ℕ → Type 0) (none : (w : Which) (so : Sort) → P w so 0)
    (step : (w : Which) (so : Sort) (l : ℕ) → 0 < l → RecordAs ws txt used l w so (record_at ws l) (what w ws txt l so)
    → ((x : ℕ) (so₂ : Sort) → LinkOk ws l x (kind w so₂) → P w so₂ x) → P w so l) where
  upto : (m : ℕ) (w : Which) (so : Sort) (x : ℕ) → x ≤ m → x ≤ n → ((x ≡ 0 → ⊥) → word (record_at ws x) 0 ≡ kind w so)
      → P w so x
  upto zero w so x h k e = subst (P w so) (let z : 0 ≡ x = omega arith in z) (none w so)
  upto (suc m) w so x h k e =
      zero_some x
      (λ z. subst (P w so) (sym z) (none w so))
      (λ p. step w so x p (record_as (rows x p k) w so (e (λ z. omega arith)))
      (λ j so₂ o. upto m w so₂ j (omega (arith, o.earlier)) (omega (arith, o.earlier)) o.of_kind))

  pub by_links : (w : Which) (so : Sort) {l x : ℕ} → l ≤ n + 1 → LinkOk ws l x (kind w so) → P w so x
  by_links w so {x = x} h o = upto x w so x (omega arith) (omega (arith, o.earlier)) o.of_kind
