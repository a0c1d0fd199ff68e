-- Records of counted values, built one after another.
use Prim.Native.Nat.{ℕ, suc, ◌+◌, ◌≤◌, Ordering}
use mathlib.Core.Path.{◌≡◌}
use mathlib.Core.List.{List}
use native.Mathlib.Omega.{arith}
use Rattle.source.specs.Text.{Str, string_compare}
use Rattle.source.specs.Types.{Level, Value, Trie, Tree, NameList, bind, ns, trie, StrEmpty, StrBranch, []ᴺ, Names, ImportedNames}
use Rattle.source.specs.Trees.{btree_insert_replace}
use Rattle.source.specs.Tries.{names_insert}
use Rattle.source.specs.Terms.{weight, heaviest, heaviest_tree, heaviest_names, depth, depth_tree, depth_names}
use Rattle.source.specs.Counted.{Counted, pure, one, ◌>>=◌, names_insertᶜ}
use Rattle.source.specs.Plans.{insert_branches, first_tree}
use Rattle.source.proofs.Counted.{names_insert_value, names_insert_count}
use Rattle.source.specs.Rules.{IsKey}
use Rattle.memory.specs.Layout.{span, Which, Item, Sort, tree, list, trieˢ, Of, kind_in, kind, value, what, text_len, text_start}
use Rattle.memory.specs.Made.{namespace_row}
use Rattle.memory.specs.Stored.{depth_in}
use Rattle.memory.specs.Sound.{LinkOk, TextOk, Used}
use Rattle.memory.specs.declared.Span.{Span}
use Rattle.insert_record.specs.Made.{Room, Made, MadeTrie}
use Rattle.insert_list.specs.Insert.{NamesInsertion, NamesInserts}
use Rattle.insert_record.proofs.Made.{made_none, made_as, made_then, made_room, made_link, made_what, made_shallow}
use Rattle.insert_list.proofs.NamesInsertion.{insertion_after}
use Rattle.register_leaf.specs.Leaves.{Builds}

-- ---- One after another
module _ {ws ws' txt : List ℕ} {n n' used : ℕ} {w : Which} {so : Sort} {c : Counted (Of (Item w) so)} {x : ℕ}
    (b : Builds ws ws' txt n used w so c x n') where
  pub builds_then : {ws'' : List ℕ} {n'' : ℕ} {so₂ : Sort} (f : Of (Item w) so → Counted (Of (Item w) so₂)) {y : ℕ}
      → Builds ws' ws'' txt n' used w so₂ (f c.value) y n''
      → Builds ws ws'' txt n used w so₂ (c >>= f) y n''
  unfolding ◌>>=◌
  builds_then f d = record { number = omega (arith, b.number, d.number); made = made_then b.made d.made }

-- Nothing is built.
pub builds_none : {ws txt : List ℕ} {n used : ℕ} {w : Which} (so : Sort) {x : ℕ} → Used ws txt n used
    → LinkOk ws (n + 1) x (kind w so)
    → Builds ws ws txt n used w so (pure (what w ws txt x so)) x n
unfolding pure
builds_none so o i = record { number = omega arith; made = made_none so o i }

-- One record.
pub builds_one : {ws ws' txt : List ℕ} {n n' used : ℕ} {w : Which} {so : Sort} {v : Of (Item w) so} {x : ℕ}
    → Made ws ws' txt n (n + 1) used w so x v → n' ≡ n + 1
    → Builds ws ws' txt n used w so (one v) x n'
unfolding one
builds_one m e = record { number = e; made = rw e m }

-- An insertion.
pub builds_insert : {ws ws' txt : List ℕ} {w : Which} {ℓ : Level} {n n' used x count y : ℕ} {r : List ℕ}
    → NamesInsertion ws txt w ℓ n used x count r
    → NamesInserts ws ws' txt n x count r y → n' ≡ n + count + 1
    → Builds ws ws' txt n used w (list ℓ)
    (names_insertᶜ (what w ws txt x (list ℓ)) (span txt (text_start r) (text_len r)) (value w txt r (what w ws txt) ℓ))
    y n'
builds_insert {w = w} {ℓ} {used = used} i m e = record {
  number = rw names_insert_count (omega (arith, e, i.counted));
  made = rw (e, names_insert_value) (m w ℓ used i);
}

-- ---- What fits
by_order : {B : Type 0} (P : B → Type 0) (o : Ordering) {x y z : B} → P x → P y → P z
    → P (elim o [ Ordering.lt ↦ x | Ordering.eq ↦ y | Ordering.gt ↦ z ])
by_order P Ordering.lt p q r = p
by_order P Ordering.eq p q r = q
by_order P Ordering.gt p q r = r

module _ {A : Type 0} where
  -- A value that is inserted is no heavier and less deep than what it is inserted into.
  record Within {ℓ : Level} (v : Value A ℓ) (bt : Tree A ℓ) : Type 0 where
    heavy : heaviest v ≤ heaviest_tree bt
    high : suc (depth v) ≤ depth_tree bt

  tree_within : {ℓ : Level} (bt : Tree A ℓ) (k : Str) (v : Value A ℓ) → Within v (btree_insert_replace bt k v)
  unfolding btree_insert_replace heaviest_tree depth_tree
  tree_within StrEmpty k v = record { heavy = omega arith; high = omega arith }
  tree_within (StrBranch k' v' lbt rbt) k v =
      let f = tree_within lbt k v in
      let g = tree_within rbt k v in
      by_order (Within v) (string_compare k k')
      (record { heavy = omega (arith, f.heavy); high = omega (arith, f.high) })
      (record { heavy = omega arith; high = omega arith })
      (record { heavy = omega (arith, g.heavy); high = omega (arith, g.high) })

  pub record Inserted {ℓ : Level} (nl : NameList A ℓ) (k : Str) (v : Value A ℓ) : Type 0 where
    pub weighs : weight (names_insert nl k v) ≤ heaviest_names (names_insert nl k v)
    pub heavy : heaviest v ≤ heaviest_names (names_insert nl k v)
    pub high : suc (depth v) ≤ depth_names (names_insert nl k v)

  pub inserted_within : {ℓ : Level} (nl : NameList A ℓ) (k : Str) (v : Value A ℓ) → Inserted nl k v
  unfolding names_insert heaviest_names depth_names
  inserted_within []ᴺ k v = let t = tree_within StrEmpty k v in record { weighs = omega arith; heavy = omega (arith, t.heavy); high = omega (arith, t.high) }
  inserted_within (Names bt tl) k v = let t = tree_within bt k v in
      record { weighs = omega arith; heavy = omega (arith, t.heavy); high = omega (arith, t.high) }
  inserted_within (ImportedNames label inner tl) k v = let t = tree_within StrEmpty k v in
      record { weighs = omega arith; heavy = omega (arith, t.heavy); high = omega (arith, t.high) }

pub insert_light : {A : Type 0} {ℓ : Level} (nl : NameList A ℓ) (k : Str) (v : Value A ℓ)
    → heaviest_names (names_insert nl k v) ≤ 96 → weight (names_insert nl k v) ≤ 96
insert_light nl k v h = omega (arith, (inserted_within nl k v).weighs)

-- ---- A trie of a new list
module _ {ws ws₁ txt : List ℕ} {n n₁ used : ℕ} {w : Which} where
  -- The bindings are new, and the namespaces stood.
  module _ {c : Counted (NameList (Item w) bind)} {b : ℕ} (B : Builds ws ws₁ txt n used w (list bind) c b n₁) {y : ℕ}
      (j : LinkOk ws (n + 1) y (kind w (list ns))) where
    pub bindings_ready : Room ws n (c.count + 1) → depth_names (what w ws txt y (list ns)) ≤ 16
        → Room ws₁ n₁ 1 × ((y ≤ n₁) × (depth_in ws₁ y ≤ 16))
    unfolding depth
    bindings_ready o h = (
      made_room B.made c.count B.number o,
      (
        omega (arith, j.earlier, B.number),
        made_shallow B.made.sound w []ᴺ (made_link B.made (omega arith) j) (rw (made_what B.made w {x = y} (omega (arith, j.earlier))) h),
      ),
    )

    pub bindings_built : {ws₂ : List ℕ} {kd r : ℕ} → kd ≡ kind w trieˢ → r ≡ n₁ + 1 → MadeTrie ws₁ ws₂ n₁ kd b y r
        → Builds ws ws₂ txt n used w trieˢ (c >>= λ m. one (trie m (what w ws txt y (list ns)))) r r
    bindings_built k e m =
        builds_then B (λ m. one (trie m (what w ws txt y (list ns))))
        (builds_one (made_as (m txt used w B.made.sound k B.made.link (made_link B.made (omega arith) j))
        (rw (B.made.reads, made_what B.made w {x = y} (omega (arith, j.earlier))))) e)

  -- The namespaces are new, and the bindings stood.
  module _ {c : Counted (NameList (Item w) ns)} {y : ℕ} (C : Builds ws ws₁ txt n used w (list ns) c y n₁) {b : ℕ}
      (j : LinkOk ws (n + 1) b (kind w (list bind))) where
    pub namespaces_ready : Room ws n (c.count + 1) → depth_names c.value ≤ 16
        → Room ws₁ n₁ 1 × ((y ≤ n₁) × (depth_in ws₁ y ≤ 16))
    unfolding depth
    namespaces_ready o h = (
      made_room C.made c.count C.number o,
      (
        omega (arith, C.made.link.earlier),
        made_shallow C.made.sound w []ᴺ C.made.link (rw C.made.reads h),
      ),
    )

    pub namespaces_built : {ws₂ : List ℕ} {kd r : ℕ} → kd ≡ kind w trieˢ → r ≡ n₁ + 1 → MadeTrie ws₁ ws₂ n₁ kd b y r
        → Builds ws ws₂ txt n used w trieˢ (c >>= λ m. one (trie (what w ws txt b (list bind)) m)) r r
    namespaces_built k e m =
        builds_then C (λ m. one (trie (what w ws txt b (list bind)) m))
        (builds_one (made_as (m txt used w C.made.sound k (made_link C.made (omega arith) j) C.made.link)
        (rw (C.made.reads, made_what C.made w {x = b} (omega (arith, j.earlier))))) e)

-- ---- Insertions
-- An insertion of so many branches.
pub insert_count : {A : Type 0} {ℓ : Level} (nl : NameList A ℓ) (key : Str) (v : Value A ℓ) {count : ℕ}
    → count ≡ insert_branches (first_tree nl) key → (names_insertᶜ nl key v).count ≡ count + 1
insert_count nl key v e = rw names_insert_count (omega (arith, e))

-- A trie, built before, goes into a list of namespaces that stood.
module _ {ws ws₁ txt : List ℕ} {n n₁ used : ℕ} {w : Which} {c : Counted (Trie (Item w))} {first : ℕ}
    (S : Builds ws ws₁ txt n used w trieˢ c first n₁)
    (o : Used ws txt n used) {x count : ℕ} (j : LinkOk ws (n + 1) x (kind w (list ns))) (of : ℕ)
    (k : of + kind_in (tree ns) ≡ kind w (tree ns))
    (key : Span) (i : TextOk IsKey txt used key.start key.len)
    (e : count ≡ insert_branches (first_tree (what w ws txt x (list ns))) (span txt key.start key.len)) where
  pub scope_insertion : Room ws n
      (c >>= λ scope. names_insertᶜ (what w ws txt x (list ns)) (span txt key.start key.len) scope).count
      → heaviest_names (c >>= λ scope. names_insertᶜ (what w ws txt x (list ns))
      (span txt key.start key.len) scope).value ≤ 96
      → NamesInsertion ws₁ txt w ns n₁ used x count (namespace_row of key first)
  unfolding ◌>>=◌
  scope_insertion room light =
      insertion_after S.made (record { records = n; used = used; sound = o; link = j }) (omega (arith, j.earlier)) (namespace_row of key first) e
      c.value (insert_light (what w ws txt x (list ns)) (span txt key.start key.len) c.value (rw names_insert_value at light))
      (made_room S.made c.count S.number (rw (insert_count (what w ws txt x (list ns)) (span txt key.start key.len) c.value e) at room))
      (record { known = k; key = i; holds = S.made.link })

  pub scope_built : {ws₂ : List ℕ} {y : ℕ} → NamesInsertion ws₁ txt w ns n₁ used x count (namespace_row of key first)
      → y ≡ n₁ + count + 1
      → NamesInserts ws₁ ws₂ txt n₁ x count (namespace_row of key first) y
      → Builds ws ws₂ txt n used w (list ns)
      (c >>= λ scope. names_insertᶜ (what w ws txt x (list ns)) (span txt key.start key.len) scope) y y
  scope_built g f m =
      builds_then S (λ scope. names_insertᶜ (what w ws txt x (list ns)) (span txt key.start key.len) scope)
      (rw (S.made.reads, made_what S.made w {x = x} (omega (arith, j.earlier))) at (builds_insert g m f))
