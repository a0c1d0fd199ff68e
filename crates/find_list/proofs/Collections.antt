-- A list of collections by its first record: what it reads as, its links, its weight, its first tree and rest.
use Prim.Native.Nat.{ℕ, ◌≤◌, ◌<◌}
use mathlib.Core.Path.{◌≡◌, ◌∙◌}
use mathlib.Core.List.{List}
use native.Mathlib.Omega.{arith}
use Rattle.source.specs.Types.{Level, Names, ImportedNames}
use Rattle.source.specs.Terms.{weight}
use Rattle.source.specs.Plans.{first_tree}
use Rattle.memory.specs.Layout.{record_at, span, Which, tree, list, what, own_link, rest_link, sort_word, text_len, text_start}
use Rattle.memory.specs.Sound.{CollectionOk, At}
use Rattle.memory.specs.Stored.{weight_in}
use Rattle.memory.proofs.What.{what_none}
use Rattle.memory.proofs.RecordOk.{zero_one, zero_some, collection_at, weight_at}
use Rattle.memory.proofs.StoredSizes.{stored_none, stored_weight}
use Rattle.memory.proofs.Seen.{link_ok, link_what, link_later}
use Rattle.find_tree.specs.Tree.{AnyTree}
use Rattle.find_tree.proofs.Branches.{any_tree}
use Rattle.find_list.specs.Names.{first_rest, AnyList, Led}
use Rattle.memory.proofs.At.{no_link, rows_before, at_of}

pub any_list : {ws txt : List ℕ} {w : Which} {ℓ : Level} {x : ℕ} → At ws txt w (list ℓ) x → AnyList ws txt x
any_list {w = w} {ℓ} t = record { which = w; level = ℓ; list = t }

module _ {ws txt : List ℕ} {w : Which} {ℓ : Level} {x : ℕ} (t : At ws txt w (list ℓ) x) where
  pub list_weight : weight_in ws x ≡ weight (what w ws txt x (list ℓ))
  list_weight = stored_weight (rows_before t.sound) w ℓ x t.link

  pub list_light : weight_in ws x ≤ 96
  list_light =
      zero_some x (λ e. rw (e, stored_none ws 10) (omega arith))
      (λ p. rw list_weight (weight_at (link_ok t.sound t.link p) w ℓ (t.link.of_kind (λ e. omega arith))).light)

-- Its first record.
module _ {ws txt : List ℕ} {w : Which} {ℓ : Level} {x : ℕ} (t : At ws txt w (list ℓ) x) (p : 0 < x) where
  pub collection_right : CollectionOk ws txt t.used x w (record_at ws x) ℓ
  collection_right = collection_at (link_ok t.sound t.link p) w ℓ (t.link.of_kind (λ e. omega arith))

  pub sort_tree : (sort_word (record_at ws x) ≡ 1 → ⊥) → sort_word (record_at ws x) ≡ 0
  sort_tree n = omega (arith, collection_right.sort, n)

  pub rest_list : At ws txt w (list ℓ) (rest_link (record_at ws x))
  rest_list = at_of t (list _) (omega arith) collection_right.rest

  module _ (e : sort_word (record_at ws x) ≡ 0) where
    pub own_tree : At ws txt w (tree ℓ) (own_link (record_at ws x))
    own_tree = at_of t (tree _) (omega arith) (collection_right.own e)

    pub names_reads : what w ws txt x (list ℓ)
        ≡ Names (what w ws txt (own_link (record_at ws x)) (tree ℓ))
        (what w ws txt (rest_link (record_at ws x)) (list ℓ))
    names_reads = link_what t.sound w (list ℓ) t.link p ∙ rw e

  module _ (e : sort_word (record_at ws x) ≡ 1) where
    pub imported_list : At ws txt w (list ℓ) (own_link (record_at ws x))
    imported_list = at_of t (list _) (omega arith) (collection_right.imported e)

    pub imported_reads : what w ws txt x (list ℓ)
        ≡ ImportedNames (span txt (text_start (record_at ws x)) (text_len (record_at ws x)))
        (what w ws txt (own_link (record_at ws x)) (list ℓ)) (what w ws txt (rest_link (record_at ws x)) (list ℓ))
    imported_reads = link_what t.sound w (list ℓ) t.link p ∙ rw e

    pub imported_lighter : weight_in ws (own_link (record_at ws x)) < weight_in ws x
    unfolding weight
    imported_lighter = rw (list_weight t, imported_reads, list_weight imported_list) (omega arith)

  pub rest_lighter : weight_in ws (rest_link (record_at ws x)) < weight_in ws x
  unfolding weight
  rest_lighter =
      zero_one (sort_word (record_at ws x)) collection_right.sort
      (λ e. rw (list_weight t, names_reads e, list_weight rest_list) (omega arith))
      (λ e. rw (list_weight t, imported_reads e, list_weight rest_list) (omega arith))

-- What the first record's own link names.
module _ {ws txt : List ℕ} {x y : ℕ} (a : AnyList ws txt x) (p : 0 < x) (q : y ≡ own_link (record_at ws x)) where
  pub any_imported : sort_word (record_at ws x) ≡ 1 → AnyList ws txt y
  any_imported e = rw q (any_list (imported_list a.list p e))

  pub any_own : (sort_word (record_at ws x) ≡ 1 → ⊥) → AnyTree ws txt y
  any_own n = rw q (any_tree (own_tree a.list p (sort_tree a.list p n)))

-- ---- the first tree and the rest
module _ {ws txt : List ℕ} {x first rest : ℕ} (a : AnyList ws txt x) (d : Led ws x first rest) where
  pub any_rest : AnyList ws txt rest
  any_rest = any_list (at_of a.list (list _) (omega arith) (d txt _ _ a.list).rest_link)

pub led_none : {ws : List ℕ} {x : ℕ} → x ≡ 0 → Led ws x 0 0
unfolding first_tree first_rest
led_none {ws} e txt w v t = rw e (record {
  first_link = no_link 0 _;
  rest_link = no_link 0 _;
  first_reads = rw (what_none w ws txt);
  rest_reads = rw (what_none w ws txt);
})

module _ {ws : List ℕ} {x : ℕ} (p : 0 < x) where
  pub led_imported : sort_word (record_at ws x) ≡ 1 → Led ws x 0 x
  unfolding first_tree first_rest
  led_imported e txt w v t = record {
    first_link = no_link x _;
    rest_link = record { earlier = omega arith; of_kind = t.link.of_kind };
    first_reads = rw (imported_reads t p e, what_none w ws txt);
    rest_reads = rw (imported_reads t p e);
  }

  pub led_names : {a b : ℕ} → (sort_word (record_at ws x) ≡ 1 → ⊥) → a ≡ own_link (record_at ws x)
      → b ≡ rest_link (record_at ws x) → Led ws x a b
  unfolding first_tree first_rest
  led_names n ea eb txt w v t =
      let o = collection_right t p in
      let e = sort_tree t p n in
      record {
        first_link = rw ea (link_later (omega arith) (o.own e));
        rest_link = rw eb (link_later (omega arith) o.rest);
        first_reads = rw (names_reads t p e, ea);
        rest_reads = rw (names_reads t p e, eb);
      }
