-- Writers one after another, and one record put after the first n.
use Prim.Native.Nat.{ℕ, ◌+◌, ◌*◌, ◌≤◌, ◌<◌}
use mathlib.Core.Path.{◌≡◌, refl, ◌∙◌}
use mathlib.Core.Bool.{true, false}
use mathlib.Core.List.{List}
use native.Mathlib.Omega.{arith}
use lib.ListN.{length}
use lib.Seq.{drop-paste}
use Rattle.source.specs.Text.{Str}
use Rattle.source.specs.Types.{Level, NameList, trie, bind, ns, ImportedNames}
use Rattle.source.specs.Terms.{weight, depth}
use Rattle.memory.specs.Layout.{kind_word, weight_word, depth_word, Which, Item, Sort, list, trieˢ, Of, kind, row, what}
use Rattle.memory.specs.Sound.{LinkOk, CollectionOk, TrieOk, WeightOk, RecordAs, Used}
use Rattle.memory.specs.Stored.{stored, weight_in, depth_in, weight_of, depth_of}
use Rattle.memory.specs.Made.{trie_row}
use Rattle.memory.specs.declared.Span.{Span}
use Rattle.memory.specs.declared.Collection.{Collection}
use Rattle.memory.specs.Grown.{put}
use Rattle.memory.proofs.Stays.{stays_same, stays_on, what_stays, stored_stays, link_stays}
use Rattle.memory.proofs.StoredSizes.{stored_weight, stored_list, weight_row, depth_collection, depth_trie}
use Rattle.memory.proofs.Put.{put_stays, put_what, put_used, put_link}
use Rattle.insert_tree.proofs.Changed.{drop_more}
use Rattle.insert_record.specs.Made.{Room, Made, collection_over, MadeNames, MadeImported, MadeTrie}
use Rattle.memory.proofs.At.{rows_before}

module _ {ws txt : List ℕ} {n used : ℕ} {w : Which} where
  -- Nothing made.
  pub made_none : (so : Sort) {r : ℕ} → Used ws txt n used → LinkOk ws (n + 1) r (kind w so)
      → Made ws ws txt n n used w so r (what w ws txt r so)
  made_none so o i = record { grows = omega arith; sound = o; stays = stays_same n ws; beyond = refl; link = i; reads = refl }

  module _ {ws' : List ℕ} {n' : ℕ} {so : Sort} {r : ℕ} {v : Of (Item w) so}
      (m : Made ws ws' txt n n' used w so r v) where
    pub made_as : {v' : Of (Item w) so} → v ≡ v' → Made ws ws' txt n n' used w so r v'
    made_as e = rw (← e) m

    -- The records that stood read as before, and their links stay.
    pub made_what : (w' : Which) {x : ℕ} → x ≤ n → what w' ws' txt x ≡ what w' ws txt x
    made_what w' {x} h = what_stays m.stays w' txt x h

    pub made_stored : (x k : ℕ) → x ≤ n → stored ws' x k ≡ stored ws x k
    made_stored = stored_stays m.stays

    pub made_link : {l x k : ℕ} → l ≤ n + 1 → LinkOk ws l x k → LinkOk ws' (n' + 1) x k
    made_link h i = link_stays m.stays h (omega (arith, m.grows)) i

    -- Room for more is left.
    pub made_room : (c : ℕ) {d : ℕ} → n' ≡ n + c → Room ws n (c + d) → Room ws' n' d
    made_room c e o = record { few = omega (arith, e, o.few); fits = omega (arith, e, o.fits, m.stays.size) }

    -- A writer after another.
    pub made_then : {ws'' : List ℕ} {n'' used' : ℕ} {w' : Which} {so' : Sort} {r' : ℕ} {v' : Of (Item w') so'}
        → Made ws' ws'' txt n' n'' used' w' so' r' v' → Made ws ws'' txt n n'' used' w' so' r' v'
    made_then {n'' = n''} m' = record {
      grows = omega (arith, m.grows, m'.grows);
      sound = m'.sound;
      stays = stays_on m.grows m.stays m'.stays;
      beyond = m'.beyond ∙ drop_more (n' * 12) (n'' * 12) ws ws' (omega (arith, m'.grows)) m.beyond;
      link = m'.link;
      reads = m'.reads;
    }

-- The record r, right as so of the table w, put after the first n.
pub made_put : {ws txt : List ℕ} {n used : ℕ} → Used ws txt n used → Room ws n 1
    → (r : List ℕ) → length r ≡ 12 → (w : Which) (so : Sort) → kind_word r ≡ kind w so
    → RecordAs ws txt used (n + 1) w so r (row w txt r (what w ws txt) so)
    → Made ws (put ws n r) txt n (n + 1) used w so (n + 1) (row w txt r (what w ws txt) so)
unfolding put
made_put {ws} {txt} {n} o m r z w so k a =
    let few : n < 65536 = omega (arith, m.few) in
    let room : n * 12 + 12 ≤ length ws = omega (arith, m.fits) in
    let e : (n + 1) * 12 ≡ n * 12 + 12 = omega arith in
    record {
      grows = omega arith;
      sound = put_used o few room r z w so k a;
      stays = put_stays ws r n room z;
      beyond = rw e (drop-paste ws (n * 12) r 12 (omega arith) (omega arith));
      link = put_link o few room r z w so k a;
      reads = put_what o few room r z w so k a;
    }

module _ {ws : List ℕ} {n : ℕ} (m : Room ws n 1) where
  pub made_trie : (kd a b : ℕ) → depth_in ws b ≤ 16
      → MadeTrie ws (put ws n (trie_row kd (record { bindings = a; namespaces = b; depth = depth_in ws b }))) n kd a b (n + 1)
  made_trie kd a b h txt used w o k i j =
      let r = trie_row kd (record { bindings = a; namespaces = b; depth = depth_in ws b }) in
      let t : TrieOk ws txt used (n + 1) w r = record { bindings = i; namespaces = j } in
      let d : depth_in ws b ≡ depth (trie (what w ws txt a (list bind)) (what w ws txt b (list ns))) = depth_trie (rows_before o) w t in
      made_put o m r refl w trieˢ k (t, d, omega arith)

  -- A collection whose weight and depth are by what its links store.
  made_list : (r : List ℕ) → length r ≡ 12 → weight_word r ≡ weight_of ws r → weight_word r ≤ 96
      → depth_word r ≡ depth_of ws r
      → {txt : List ℕ} {used : ℕ} → Used ws txt n used → (w : Which) (ℓ : Level) → kind_word r ≡ kind w (list ℓ)
      → CollectionOk ws txt used (n + 1) w r ℓ
      → Made ws (put ws n r) txt n (n + 1) used w (list ℓ) (n + 1) (row w txt r (what w ws txt) (list ℓ))
  made_list r z e h f {txt} {used} o w ℓ k c = made_put o m r z w (list ℓ) k (right ℓ c)
    where
      weighed : (ℓ : Level) → CollectionOk ws txt used (n + 1) w r ℓ → WeightOk r (row w txt r (what w ws txt) (list ℓ))
      weighed ℓ c = let q = e ∙ weight_row (rows_before o) w c in record { weighs = q; light = omega (arith, q) }

      right : (ℓ : Level) → CollectionOk ws txt used (n + 1) w r ℓ
          → RecordAs ws txt used (n + 1) w (list ℓ) r (row w txt r (what w ws txt) (list ℓ))
      right bind c = (c, weighed bind c)
      right ns c = (c, weighed ns c, f ∙ depth_collection (rows_before o) w c)

  -- A tree in front of a list.
  abbrev names_of : (own rest : ℕ) → Collection
  names_of own rest = record { imported = false; label = record { start = 0; len = 0 }; own = own; rest = rest; weight = weight_in ws rest + 1 }

  pub made_names : (kd own rest : ℕ) → weight_in ws rest < 96
      → MadeNames ws (put ws n (collection_over ws kd (names_of own rest))) n kd own rest (n + 1)
  unfolding weight_of depth_of
  made_names kd own rest h txt used w v o k i j =
      made_list (collection_over ws kd (names_of own rest)) refl (omega arith) (omega arith) refl o w v k
      (record { sort = omega arith; own = λ _. i; imported = λ e. absurd (omega arith); label = λ e. absurd (omega arith); rest = j })

  -- A list imported under a label in front of a list.
  abbrev import_of : Span → (own rest : ℕ) → Collection
  import_of label own rest = record { imported = true; label = label; own = own; rest = rest; weight = weight_in ws own + weight_in ws rest + 1 }

  pub made_imported : (kd : ℕ) (label : Span) (own rest : ℕ) → weight_in ws own + weight_in ws rest < 96
      → MadeImported ws (put ws n (collection_over ws kd (import_of label own rest))) n kd label.start
      label.len own rest (n + 1)
  unfolding weight_of depth_of
  made_imported kd label own rest h txt used w v o k x i j =
      made_list (collection_over ws kd (import_of label own rest)) refl (omega arith) (omega arith) refl o w v k
      (record { sort = omega arith; own = λ e. absurd (omega arith); imported = λ _. i; label = λ _. x; rest = j })

-- ---- What the writers ask of weights and depths
module _ {ws txt : List ℕ} {n used : ℕ} (o : Used ws txt n used) (w : Which) where
  pub imported_light : (ℓ : Level) {own rest : ℕ} (label : Str) → LinkOk ws (n + 1) own (kind w (list ℓ))
      → LinkOk ws (n + 1) rest (kind w (list ℓ))
      → weight (ImportedNames label (what w ws txt own (list ℓ)) (what w ws txt rest (list ℓ))) ≤ 96
      → weight_in ws own + weight_in ws rest < 96
  unfolding weight
  imported_light ℓ label i j h = omega (arith, stored_weight (rows_before o) w ℓ _ i, stored_weight (rows_before o) w ℓ _ j, h)

  pub made_shallow : {y : ℕ} (nl : NameList (Item w) bind) → LinkOk ws (n + 1) y (kind w (list ns))
      → depth (trie nl (what w ws txt y (list ns))) ≤ 16 → depth_in ws y ≤ 16
  unfolding depth
  made_shallow nl i h = omega (arith, stored_list (rows_before o) w _ i, h)
