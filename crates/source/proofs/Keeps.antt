-- An insert keeps a tree formed; admitted arguments are as the rules ask.
use Prim.Native.Nat.{Ordering}
use mathlib.Core.Path.{◌≡◌}
use mathlib.Core.Bool.{Bool, false}
use mathlib.Core.List.{List, [], ◌∷◌, ◌++◌}
use borrow.Author.Tests.{not-false}
use Rattle.source.specs.Text.{Str, string_compare, segments, name_byte, path_byte}
use Rattle.source.specs.Types.{Level, Value, Tree, StrEmpty, StrBranch}
use Rattle.source.specs.Trees.{btree_insert_replace}
use Rattle.source.specs.Rules.{all, ◌<ˢ◌, AllKeys, Formed, FormedTree}
use Rattle.source.specs.Calls.{Argument, a_query, a_name, a_path, a_look_up, a_completion, is_empty, any, malformed, empty_name, too_long}
use Rattle.source.proofs.Order.{View, compare_strings}
use Rattle.source.specs.Shared.{Allˡ}
use Rattle.source.proofs.Lookup.{Allˡ-zip}
use Rattle.source.proofs.Queries.{or_parts, any_false, nonempty_length, name_key, path_fits, segments_query, segments_completion}
use Rattle.source.proofs.Refusals.{Admitted}
use Rattle.source.specs.Queries.{Keeps}

module _ {A : Type 0} {ℓ : Level} where
  -- An insert adds no key but its own.
  insert_keys : (P : Str → Type 0) (bt : Tree A ℓ) (k : Str) (v : Value A ℓ) → P k → AllKeys P bt
      → AllKeys P (btree_insert_replace bt k v)
  unfolding btree_insert_replace
  insert_keys P StrEmpty k v p a = (p, tt, tt)
  insert_keys P (StrBranch k' v' lbt rbt) k v p a = go (insert_keys P lbt k v p a.1) (insert_keys P rbt k v p a.2) (string_compare k k')
    where
      go : AllKeys P (btree_insert_replace lbt k v) → AllKeys P (btree_insert_replace rbt k v) → (o : Ordering)
          → AllKeys {A = A} {ℓ = ℓ} P (elim o [
            | Ordering.lt ↦ StrBranch k' v' (btree_insert_replace lbt k v) rbt
            | Ordering.eq ↦ StrBranch k' v lbt rbt
            | Ordering.gt ↦ StrBranch k' v' lbt (btree_insert_replace rbt k v)
          ])
      go i j Ordering.lt = (a.0, i, a.2)
      go i j Ordering.eq = a
      go i j Ordering.gt = (a.0, a.1, j)

module _ {A : Type 0} (Key Label : Str → Type 0) (Item : A → Type 0) where
  pub btree_insert_replace_formed : {ℓ : Level} (bt : Tree A ℓ) (k : Str) (v : Value A ℓ) → Key k
      → Formed Key Label Item v → FormedTree Key Label Item bt → FormedTree Key Label Item (btree_insert_replace bt k v)
  unfolding btree_insert_replace
  btree_insert_replace_formed StrEmpty k v o g bt = (o, g, tt, tt, tt, tt)
  btree_insert_replace_formed {ℓ} (StrBranch k' v' lbt rbt) k v o g bt =
      go (btree_insert_replace_formed lbt k v o g bt.4) (btree_insert_replace_formed rbt k v o g bt.5) (string_compare k k') (compare_strings k k')
    where
      go : FormedTree Key Label Item (btree_insert_replace lbt k v)
          → FormedTree Key Label Item (btree_insert_replace rbt k v) → (c : Ordering) → View k k' c
          → FormedTree Key Label Item {ℓ = ℓ} (elim c [
            | Ordering.lt ↦ StrBranch k' v' (btree_insert_replace lbt k v) rbt
            | Ordering.eq ↦ StrBranch k' v lbt rbt
            | Ordering.gt ↦ StrBranch k' v' lbt (btree_insert_replace rbt k v)
          ])
      go i j Ordering.lt w = (bt.0, bt.1, insert_keys (λ x. x <ˢ k') lbt k v w bt.2, bt.3, i, bt.5)
      go i j Ordering.eq w = (bt.0, g, bt.2, bt.3, bt.4, bt.5)
      go i j Ordering.gt w = (bt.0, bt.1, bt.2, insert_keys (λ x. k' <ˢ x) rbt k v w bt.3, bt.4, j)

-- ---- calls

argument_keeps : (a : Argument) → malformed a ≡ false → empty_name a ≡ false → too_long a ≡ false → Keeps a
unfolding malformed empty_name too_long
argument_keeps (a_query s) m e l = segments_query s m e l
argument_keeps (a_name s) m e l = name_key s (not-false (all name_byte s) m) e l
argument_keeps (a_path s) m e l = path_fits s (not-false (all path_byte s) m) l
argument_keeps (a_look_up s) m e l =
    let h = or_parts (any is_empty (segments s)) (is_empty (segments s)) e in
    (segments_query s m h.0 l, nonempty_length (segments s) h.1)
argument_keeps (a_completion s) m e l = segments_completion s m l

pub keeps_parts : (xs ys : List Argument) → Allˡ Keeps (xs ++ ys) → Allˡ Keeps xs × Allˡ Keeps ys
keeps_parts [] ys a = (tt, a)
keeps_parts (x ∷ xs) ys a = let p = keeps_parts xs ys a.1 in ((a.0, p.0), p.1)

pub admitted_keeps : (sound : Bool) (args : List Argument) → Admitted sound args → Allˡ Keeps args
admitted_keeps sound args h =
    Allˡ-zip args (λ a f l. f l)
    (Allˡ-zip {R = λ a. too_long a ≡ false → Keeps a} args argument_keeps (any_false malformed args h.well_formed) (any_false empty_name args h.named))
    (any_false too_long args h.short)
