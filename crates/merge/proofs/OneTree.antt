-- A list of one tree: what is found are the tree's matches.
use Prim.Native.Nat.{ℕ, ◌<◌, ◌≤◌}
use mathlib.Core.Path.{◌≡◌, refl, ap, ◌∙◌}
use mathlib.Core.List.{List, [], ◌∷◌, map}
use mathlib.Core.Option.{Option}
use Rattle.std.specs.Prelude.{Some}
use native.Mathlib.Omega.{arith}
use Rattle.source.specs.Text.{Str}
use Rattle.source.specs.Types.{Level, Value}
use Rattle.source.specs.Trees.{PathElem}
use Rattle.source.specs.Lists.{nonempty}
use Rattle.source.specs.Listing.{SearchTerm, with_imports}
use Rattle.source.specs.Table.{last_opt}
use Rattle.source.specs.Forward.{flat_in}
use Rattle.source.specs.Forward.{found}
use Rattle.source.proofs.Found.{match_lists, found_empty, found_one}
use Rattle.memory.specs.Layout.{record_at, Which, Item, list, what, tree, own_link, rest_link, sort_word}
use Rattle.memory.proofs.What.{what_none}
use Rattle.memory.proofs.Seen.{link_later}
use Rattle.find_tree.specs.Links.{matches, row_at}
use Rattle.find_list.proofs.Collections.{collection_right, sort_tree, names_reads}
use Rattle.find_list.specs.Entries.{shown, outer, Asks}
use Rattle.merge.specs.Single.{SingleIn, Single}
use Rattle.merge.specs.Stream.{OneTree}
use Rattle.merge_collect.proofs.Collected.{term_rows}
use Rattle.memory.specs.Sound.{At}
use Rattle.memory.proofs.At.{no_link, at_of}

pub single_tree : {ws : List ℕ} {x r : ℕ} → 0 < x → (sort_word (record_at ws x) ≡ 1 → ⊥)
    → rest_link (record_at ws x) ≤ 0 → r ≡ own_link (record_at ws x) → Single ws x (Some r)
single_tree {ws} {x} {r} p n z e txt w v t =
    let f : rest_link (record_at ws x) ≡ 0 = omega arith in
    record {
      link = rw e (link_later (omega arith) ((collection_right t p).own (sort_tree t p n)));
      reads = names_reads t p (sort_tree t p n) ∙ rw (f, e, what_none w ws txt);
    }

module _ {ws txt : List ℕ} {w : Which} {ℓ : Level} {x r : ℕ} (t : At ws txt w (list ℓ) x) (o : SingleIn ws txt w ℓ x r)
    {term : SearchTerm} {p : Str} {q : Option Str} (asks : Asks term p q) where
  lists_single : match_lists term (what w ws txt x (list ℓ))
      ≡ with_imports ([], map (row_at w ws txt ℓ q) (matches ws txt r p)) ∷ []
  unfolding match_lists flat_in
  lists_single = rw (o.reads, term_rows (at_of t (tree _) (omega arith) o.link) asks)

  -- The entries of the tree's matches show what is found.
  pub single_found : map outer (found (what w ws txt x (list ℓ)) term)
      ≡ map (shown w ws txt ℓ q) (map (λ b. record { branch = b; label = 0 }) (matches ws txt r p))
  unfolding nonempty with_imports outer shown last_opt row_at
  single_found = go (matches ws txt r p) lists_single ∙ shows (matches ws txt r p)
    where
      rows : List ℕ → List (PathElem × Value (Item w) ℓ)
      rows xs = with_imports ([], map (row_at w ws txt ℓ q) xs)

      go : (xs : List ℕ) → match_lists term (what w ws txt x (list ℓ)) ≡ rows xs ∷ []
          → map outer (found (what w ws txt x (list ℓ)) term) ≡ map outer (rows xs)
      go [] e = ap (map outer) (found_empty (what w ws txt x (list ℓ)) term (ap nonempty e))
      go (b ∷ xs) e = ap (map outer) (found_one (what w ws txt x (list ℓ)) term (rows (b ∷ xs)) (ap nonempty e))

      shows : (xs : List ℕ)
          → map outer (rows xs) ≡ map (shown w ws txt ℓ q) (map (λ b. record { branch = b; label = 0 }) xs)
      shows [] = refl
      shows (b ∷ xs) = ap (◌∷◌ (shown w ws txt ℓ q (record { branch = b; label = 0 }))) (shows xs)

pub single_one : {ws txt : List ℕ} {w : Which} {ℓ : Level} {x r : ℕ} (p : Str) → At ws txt w (list ℓ) x
    → Single ws x (Some r)
    → OneTree ws txt w ℓ x p r 0
single_one {txt = txt} {w} {ℓ} p t s =
    let o = s txt w ℓ t in
    record {
      root_link = o.link;
      label_ok = record { link = no_link _ _; imports = λ i. absurd (omega arith) };
      says = λ term q asks. single_found t o asks;
    }
