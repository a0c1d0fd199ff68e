-- Insertion into the first tree of a list, and one collection in front of the rest.
use Prim.Native.Nat.{ℕ, ◌+◌, ◌≤◌, ◌<◌}
use mathlib.Core.Path.{◌≡◌, refl, sym, ap, ◌∙◌}
use mathlib.Core.List.{List}
use native.Mathlib.Omega.{arith}
use Rattle.source.specs.Text.{Str}
use Rattle.source.specs.Types.{Level, Value, bind, ns}
use Rattle.source.specs.Trees.{btree_insert_replace}
use Rattle.source.specs.Tries.{names_insert}
use Rattle.source.specs.Terms.{weight}
use Rattle.source.specs.Plans.{insert_branches, first_tree}
use Rattle.memory.specs.Layout.{span, Which, names, modules, Item, Sort, tree, list, trieˢ, Of, kind, value, what, key_at, kind_word, text_len, text_start}
use Rattle.memory.specs.Stored.{weight_in}
use Rattle.memory.proofs.What.{what_none}
use Rattle.memory.proofs.RecordOk.{zero_some, kind_one}
use Rattle.memory.proofs.Seen.{link_later}
use Rattle.find_tree.specs.Tree.{Builds}
use Rattle.insert_tree.specs.Insert.{NewBranch, Insertion, Inserted}
use Rattle.find_tree.proofs.Branches.{branch_right, branch_reads}
use Rattle.find_tree.proofs.Links.{by_sides}
use Rattle.find_tree.proofs.Past.{by_order}
use Rattle.find_list.specs.Names.{LedIn, Led}
use Rattle.insert_record.specs.Made.{Room, Made, MadeNames}
use Rattle.insert_list.specs.Insert.{inserted, NamesInsertion}
use Rattle.find_list.proofs.Collections.{list_weight}
use Rattle.find_list.proofs.NamesPlaced.{names_insert_first, names_insert_rest_weight}
use Rattle.insert_record.proofs.Made.{made_as, made_what, made_stored, made_link, made_room, made_then}
use Rattle.memory.specs.Sound.{At}
use Rattle.memory.proofs.At.{at_of}

-- ---- The count

-- The branches that an insertion builds into what a link reads as, 0 where that is no tree.
branches_into : Str → (w : Which) (so : Sort) → Of (Item w) so → ℕ
branches_into k w (tree ℓ) v = insert_branches v k
branches_into k w (list ℓ) v = 0
branches_into k w trieˢ v = 0

module _ {ws txt : List ℕ} (key : Str) where
  -- A tree is of one table and level.
  one_count : {w w' : Which} {ℓ ℓ' : Level} (x : ℕ) → At ws txt w (tree ℓ) x → At ws txt w' (tree ℓ') x
      → insert_branches (what w ws txt x (tree ℓ)) key ≡ insert_branches (what w' ws txt x (tree ℓ')) key
  unfolding branches_into insert_branches
  one_count {w} {w'} {ℓ} {ℓ'} x t t' =
      zero_some x
      (λ e. rw (e, what_none w ws txt, what_none w' ws txt))
      (λ p.
      let e = sym (t.link.of_kind (λ z. omega arith)) ∙ t'.link.of_kind (λ z. omega arith) in
      ap (λ (q : Which × Sort). branches_into key q.0 q.1 (what q.0 ws txt x q.1)) (kind_one w (tree ℓ) w' (tree ℓ') e))

  few_branches : {w : Which} {ℓ : Level} (x : ℕ) → At ws txt w (tree ℓ) x
      → insert_branches (what w ws txt x (tree ℓ)) key ≤ x + 1
  unfolding insert_branches
  few_branches {w} {ℓ} =
      by_sides (λ x. insert_branches (what w ws txt x (tree ℓ)) key ≤ x + 1)
      (rw (what_none w ws txt) (omega arith))
      (λ x t p f g.
      let b = branch_right t p in
      rw (branch_reads t p)
      (by_order key (key_at ws txt x)
      (λ e _. rw (insert_branches, e) (omega (arith, f, b.left.earlier)))
      (λ e _. rw (insert_branches, e) (omega arith))
      (λ e _. rw (insert_branches, e) (omega (arith, g, b.right.earlier)))))

  pub builds_of : {w : Which} {ℓ : Level} {x count : ℕ} → At ws txt w (tree ℓ) x
      → count ≡ insert_branches (what w ws txt x (tree ℓ)) key → Builds ws txt x key count
  builds_of {x = x} t e = record { small = omega (arith, e, few_branches x t); says = λ w' v' t'. e ∙ one_count x t t' }

-- The branches of an insertion, counted before other writes, are those after them. Any value serves: the weight is the same.
pub insertion_after : {ws ws' txt : List ℕ} {n n' used : ℕ} {w : Which} {so : Sort} {y : ℕ} {v : Of (Item w) so}
    → Made ws ws' txt n n' used w so y v
    → {ℓ : Level} {x count : ℕ} → At ws txt w (list ℓ) x → x ≤ n → (r : List ℕ)
    → count ≡ insert_branches (first_tree (what w ws txt x (list ℓ))) (span txt (text_start r) (text_len r))
    → (a : Value (Item w) ℓ)
    → weight (names_insert (what w ws txt x (list ℓ)) (span txt (text_start r) (text_len r)) a) ≤ 96
    → Room ws' n' (count + 1) → NewBranch ws' txt used (n' + 1) w r ℓ → NamesInsertion ws' txt w ℓ n' used x count r
insertion_after {ws} {txt = txt} {w = w} m {ℓ} {x} l h r e a g o b = record {
  sound = m.sound;
  link = made_link m {l = x + 1} (omega arith) (record { earlier = omega arith; of_kind = l.link.of_kind });
  new = b;
  counted = e ∙ rw (made_what m w h);
  light = rw (made_what m w h, names_insert_rest_weight)
      (omega (arith, g, names_insert_rest_weight (what w ws txt x (list ℓ)) (span txt (text_start r) (text_len r)) a));
  room = o;
}

-- ---- The writers

pub kind_list : (w : Which) (ℓ : Level) → kind w (tree ℓ) + 2 ≡ kind w (list ℓ)
kind_list names bind = refl
kind_list names ns = refl
kind_list modules bind = refl
kind_list modules ns = refl

pub kind_small : (w : Which) (ℓ : Level) → kind w (list ℓ) < 10
kind_small names bind = omega arith
kind_small names ns = omega arith
kind_small modules bind = omega arith
kind_small modules ns = omega arith

module _ {ws txt : List ℕ} {w : Which} {ℓ : Level} {records used x count : ℕ} {r : List ℕ}
    (i : NamesInsertion ws txt w ℓ records used x count r) where
  pub insertion_list : At ws txt w (list ℓ) x
  insertion_list = record { records = records; used = used; sound = i.sound; link = i.link }

  module _ {first rest : ℕ} (d : Led ws x first rest) where
    led : LedIn ws txt w ℓ x first rest
    led = d txt w ℓ insertion_list

    pub first_insertion : Insertion ws txt w ℓ records used first count r
    first_insertion = record {
      sound = i.sound;
      link = link_later (omega (arith, i.link.earlier)) led.first_link;
      new = i.new;
      counted = builds_of _ (at_of insertion_list (tree _) (omega arith) led.first_link) (i.counted ∙ rw led.first_reads);
      room = omega (arith, i.room.fits);
      few = omega (arith, i.room.few);
    }

    rest_within : rest ≤ records
    rest_within = omega (arith, led.rest_link.earlier, i.link.earlier)

    rest_light : weight_in ws rest < 96
    rest_light =
        omega (
          arith,
          list_weight (at_of insertion_list (list _) (omega arith) led.rest_link),
          ap weight led.rest_reads,
          names_insert_rest_weight (what w ws txt x (list ℓ)) (span txt (text_start r) (text_len r)) (value w txt r (what w ws txt) ℓ),
          i.light,
        )

    module _ {ws' : List ℕ} {root : ℕ} (h : Inserted ws ws' txt w ℓ records used first count r root) where
      pub made_first : Made ws ws' txt records (records + count) used w (tree ℓ) root
          (btree_insert_replace (what w ws txt first (tree ℓ)) (span txt (text_start r) (text_len r))
          (value w txt r (what w ws txt) ℓ))
      made_first = record {
        grows = omega arith;
        sound = h.sound;
        stays = h.stays;
        beyond = h.rest;
        link = h.link;
        reads = h.reads;
      }

      -- What put_names asks.
      pub rest_ready : Room ws' (records + count) 1
          × ((root ≤ records + count) × (rest ≤ records + count) × (weight_in ws' rest < 96))
      rest_ready = (
        made_room made_first count refl i.room,
        (omega (arith, h.last), omega (arith, rest_within), rw (made_stored made_first rest 10 rest_within) rest_light),
      )

      pub names_inserted : {ws'' : List ℕ} {kd link : ℕ} → kd ≡ kind_word r + 2
          → MadeNames ws' ws'' (records + count) kd root rest link
          → Made ws ws'' txt records (records + count + 1) used w (list ℓ) link (inserted w ws txt ℓ x r)
      names_inserted q m =
          made_as
          (made_then made_first
          (m txt used w ℓ h.sound (q ∙ ap (λ k. k + 2) i.new.known ∙ kind_list w ℓ) h.link
          (made_link made_first {l = x + 1} (omega (arith, i.link.earlier)) led.rest_link)))
          (rw (names_insert_first, led.first_reads, led.rest_reads, h.reads, made_what made_first w rest_within))
