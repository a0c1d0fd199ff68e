-- The weights and depths of what records read as, by what earlier records store.
use Prim.Native.Nat.{ℕ, suc, ◌<◌, max}
use mathlib.Core.Path.{◌≡◌, refl, sym, ◌∙◌}
use mathlib.Core.List.{List}
use native.Mathlib.Omega.{arith}
use borrow.Author.Tests.{ne_eqb}
use Rattle.source.specs.Types.{Level, ns}
use Rattle.source.specs.Terms.{weight, depth, depth_tree, depth_names}
use Rattle.memory.specs.Layout.{record_at, word, Which, Item, Sort, tree, list, trieˢ, Of, kind, nothing, row, what}
use Rattle.memory.specs.Stored.{stored, weight_of, depth_of}
use Rattle.memory.specs.Sound.{LinkOk, BranchOk, CollectionOk, TrieOk, RecordOk}
use Rattle.memory.proofs.What.{what_none}
use Rattle.memory.proofs.RecordOk.{zero_one, zero_some, record_as, weight_at}

pub stored_none : (ws : List ℕ) (k : ℕ) → stored ws 0 k ≡ 0
unfolding stored
stored_none ws k = refl

pub stored_some : (ws : List ℕ) (x k : ℕ) → 0 < x → stored ws x k ≡ word (record_at ws x) k
unfolding stored
stored_some ws x k p = rw (ne_eqb x 0 (λ e. omega arith))

module _ {ws txt : List ℕ} {used l : ℕ} (rows : (j : ℕ) → 0 < j → j < l → RecordOk ws txt used j) (w : Which) where
  through : (k : ℕ) (so : Sort) (f : Of (Item w) so → ℕ) → f (nothing w so) ≡ 0
      → ((x : ℕ) → RecordOk ws txt used x → word (record_at ws x) 0 ≡ kind w so
      → word (record_at ws x) k ≡ f (what w ws txt x so))
      → (x : ℕ) → LinkOk ws l x (kind w so) → stored ws x k ≡ f (what w ws txt x so)
  through k so f z g x h =
      zero_some x
      (λ e. rw (e, stored_none ws k, what_none w ws txt) (sym z))
      (λ p. stored_some ws x k p ∙ g x (rows x p h.earlier) (h.of_kind (λ q. omega arith)))

  pub stored_weight : (ℓ : Level) (x : ℕ) → LinkOk ws l x (kind w (list ℓ))
      → stored ws x 10 ≡ weight (what w ws txt x (list ℓ))
  unfolding weight
  stored_weight ℓ = through 10 (list ℓ) weight refl (λ x o e. (weight_at o w ℓ e).weighs)

  pub stored_tree : (x : ℕ) → LinkOk ws l x (kind w (tree ns)) → stored ws x 11 ≡ depth_tree (what w ws txt x (tree ns))
  unfolding depth_tree
  stored_tree = through 11 (tree ns) depth_tree refl (λ x o e. (record_as o w (tree ns) e).3)

  pub stored_list : (x : ℕ) → LinkOk ws l x (kind w (list ns))
      → stored ws x 11 ≡ depth_names (what w ws txt x (list ns))
  unfolding depth_names
  stored_list = through 11 (list ns) depth_names refl (λ x o e. (record_as o w (list ns) e).2)

  pub stored_trie : (x : ℕ) → LinkOk ws l x (kind w trieˢ) → stored ws x 11 ≡ depth (what w ws txt x trieˢ)
  unfolding depth depth_names
  stored_trie = through 11 trieˢ depth refl (λ x o e. (record_as o w trieˢ e).1)

  -- Of the record r of link l, whose links are right.
  module _ {r : List ℕ} where
    pub weight_row : {ℓ : Level} → CollectionOk ws txt used l w r ℓ
        → weight_of ws r ≡ weight (row w txt r (what w ws txt) (list ℓ))
    unfolding weight_of weight
    weight_row {ℓ} o =
        zero_one (word r 5) o.sort
        (λ e. rw (e, stored_weight ℓ (word r 4) o.rest) (omega arith))
        (λ e. rw (e, stored_weight ℓ (word r 4) o.rest, stored_weight ℓ (word r 3) (o.imported e)))

    pub depth_collection : CollectionOk ws txt used l w r ns
        → depth_of ws r ≡ depth_names (row w txt r (what w ws txt) (list ns))
    unfolding depth_of depth_names
    depth_collection o =
        zero_one (word r 5) o.sort
        (λ e. rw (e, stored_list (word r 4) o.rest, stored_tree (word r 3) (o.own e)))
        (λ e. rw (e, stored_list (word r 4) o.rest, stored_list (word r 3) (o.imported e)))

    pub depth_branch : BranchOk ws txt used l w r ns → LinkOk ws l (word r 5) (kind w trieˢ)
        → max (suc (stored ws (word r 5) 11)) (depth_of ws r) ≡ depth_tree (row w txt r (what w ws txt) (tree ns))
    unfolding depth_of depth_tree
    depth_branch o h = rw (stored_trie (word r 5) h, stored_tree (word r 3) o.left, stored_tree (word r 4) o.right)

    pub depth_trie : TrieOk ws txt used l w r → stored ws (word r 4) 11 ≡ depth (row w txt r (what w ws txt) trieˢ)
    unfolding depth
    depth_trie o = stored_list (word r 4) o.namespaces
