-- What the answers of the parts of a collection's or a trie's test say together.
use Prim.Native.Nat.{ℕ, ◌+◌, ◌≤◌}
use mathlib.Core.Path.{◌≡◌, sym, ◌∙◌}
use mathlib.Core.Bool.{Bool, ◌&&◌}
use mathlib.Core.List.{List}
use native.Mathlib.Omega.{arith}
use lib.Dec.{eqb, leb}
use Rattle.source.specs.Types.{Level}
use Rattle.memory.specs.Layout.{Which, list, trieˢ, row, what, rest_link, own_link, sort_word, weight_word, depth_word, right_link}
use Rattle.memory.specs.Stored.{weight_of, weight_in, depth_in}
use Rattle.memory.specs.Sound.{Says, CollectionOk, WeightOk, TrieOk, RecordAs}
use Rattle.memory.proofs.Says.{says_iff}
use Rattle.memory.proofs.StoredSizes.{weight_row, depth_trie}
use Rattle.sound_field.specs.Fields.{Before}
use Rattle.sound_field.proofs.Tests.{says_same, says_most, says_both}

-- The weight of a collection's list, by what its links store.
module _ (ws r : List ℕ) {a : ℕ} (e : a ≡ weight_in ws (rest_link r)) where
  pub weight_tree : sort_word r ≡ 0 → 1 + a ≡ weight_of ws r
  unfolding weight_of
  weight_tree z = rw (z, ← e) (omega arith)

  pub weight_imported : {i : ℕ} → i ≡ weight_in ws (own_link r) → sort_word r ≡ 1 → 1 + i + a ≡ weight_of ws r
  unfolding weight_of
  weight_imported f z = rw (z, ← e, ← f) (omega arith)

pub says_collection : (b : Bool) {ws txt : List ℕ} {used l : ℕ} → Before ws txt used l
    → {w : Which} {ℓ : Level} {r : List ℕ} → CollectionOk ws txt used l w r ℓ → {n : ℕ} → n ≡ weight_of ws r
    → Says b ((weight_word r ≡ n) × (n ≤ 96))
    → Says b (CollectionOk ws txt used l w r ℓ × WeightOk r (row w txt r (what w ws txt) (list ℓ)))
says_collection b before {w} {r = r} o {n} e h =
    let d = e ∙ weight_row before.rows w o in
    says_iff b h (λ q. (o, record { weighs = q.0 ∙ d; light = omega (arith, q.1) })) (λ q. (q.1.weighs ∙ sym d, omega (arith, q.1.light)))

pub says_trie : {ws txt : List ℕ} {used l : ℕ} → Before ws txt used l → (w : Which) (r : List ℕ)
    → TrieOk ws txt used l w r → {d : ℕ} → d ≡ depth_in ws (right_link r)
    → Says (leb d 16 && eqb (depth_word r) d) (RecordAs ws txt used l w trieˢ r (row w txt r (what w ws txt) trieˢ))
says_trie before w r o {d} f =
    let g = f ∙ depth_trie before.rows w o in
    says_iff (leb d 16 && eqb (depth_word r) d)
    (says_both (leb d 16) (eqb (depth_word r) d) (d ≤ 16) (depth_word r ≡ d) (says_most d 16) (says_same (depth_word r) d))
    (λ q. (o, q.1 ∙ g, omega (arith, q.0)))
    (λ q. (omega (arith, q.2), q.1 ∙ sym g))
