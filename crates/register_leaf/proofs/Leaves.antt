-- mut_leaf of each change: what its writers ask, and what they build.
use Prim.Native.Nat.{ℕ, ◌+◌, ◌-◌, ◌*◌, ◌≤◌, ◌<◌}
use mathlib.Core.Path.{◌≡◌, refl, sym, subst}
use mathlib.Core.Bool.{Bool}
use mathlib.Core.List.{List}
use native.Mathlib.Omega.{arith}
use lib.ListN.{length}
use Rattle.source.specs.Types.{Trie, bind, ns, item, trie, []ᴺ, ImportedNames, bindings, namespaces}
use Rattle.source.specs.Tries.{names_insert}
use Rattle.source.specs.Terms.{weight, heaviest, heaviest_names, depth, depth_names}
use Rattle.source.specs.Counted.{Counted, one, ◌>>=◌, names_insertᶜ}
use Rattle.source.proofs.Counted.{names_insert_value}
use Rattle.source.proofs.Items.{number_is_kind, number_in}
use Rattle.source.specs.declared.LidSymbol.{LidSymbol}
use Rattle.memory.specs.Layout.{span, names, list, trieˢ, kind, what}
use Rattle.memory.specs.Made.{binding_row, namespace_row}
use Rattle.memory.specs.Stored.{weight_in, depth_in}
use Rattle.memory.specs.Read.{ReadTrie}
use Rattle.memory.specs.declared.Trie as M
use Rattle.memory.specs.declared.Span.{Span}
use Rattle.memory.proofs.What.{what_none}
use Rattle.insert_record.specs.Made.{Room, MadeTrie, MadeImported}
use Rattle.insert_list.specs.Insert.{NamesInsertion, NamesInserts}
use Rattle.insert_record.proofs.Made.{made_none, made_as, imported_light}
use Rattle.insert_list.proofs.NamesInsertion.{insertion_after}
use Rattle.register_kind.specs.declared.CallKind.{CallKind}
use Rattle.register_kind.specs.declared.CallKind.TheVariants.{Name, Include, Open, Alias, Module}
use Rattle.register_leaf.specs.declared.Change.{Change}
use Rattle.register_leaf.specs.Leaves.{change_of, with_kind, leaf_by, leaf_of, Some, Leaf, LeafBuilds, Builds, LeafBuilt}
use Rattle.memory.proofs.Tries.{Lists, lists_in}
use Rattle.register_leaf.proofs.Builds.{inserted_within, builds_one, builds_none, builds_insert, bindings_ready, bindings_built, namespaces_ready}
use Rattle.register_leaf.proofs.Builds.{namespaces_built, insert_light, insert_count, scope_insertion, scope_built}
use Rattle.memory.specs.Sound.{LinkOk, Used}
use Rattle.memory.proofs.At.{no_link}

pub less_room : {ws : List ℕ} {n m k : ℕ} → Room ws n m → k ≤ m → Room ws n k
less_room o h = record { few = omega (arith, o.few); fits = omega (arith, o.fits) }

pub leaf_fits : {ws txt : List ℕ} {n used x : ℕ} {ch : Change} → Leaf ws txt n used x ch → x * 12 ≤ length ws
leaf_fits l = omega (arith, l.link.earlier, l.change.sound.records_fit)

pub inc_fits : {ws txt : List ℕ} {n used inc k : ℕ} → Used ws txt n used → LinkOk ws (n + 1) inc k
    → inc * 12 ≤ length ws
inc_fits o i = omega (arith, i.earlier, o.records_fit)

-- ---- include
module _ {ws txt : List ℕ} {n used x : ℕ} {text key : Span} {inc : ℕ} {p p' : M.Trie}
    (l : Leaf ws txt n used x (change_of Include text key inc)) (q : ReadTrie ws x p) (q' : ReadTrie ws inc p') where
  include_lists : Lists ws txt n names x p
  include_lists = lists_in l.change.sound l.link q

  included_lists : Lists ws txt n names inc p'
  included_lists = lists_in l.change.sound l.change.inc q'

  include_weight : weight (ImportedNames (span txt text.start (text.len - 1))
      (what names ws txt p'.bindings (list bind)) (what names ws txt p.bindings (list bind))) ≤ 96
  unfolding heaviest heaviest_names leaf_by ◌>>=◌ one
  include_weight = rw (include_lists.b_reads, included_lists.b_reads) (omega (arith, l.fits.light))

  pub include_ready : Room ws n 1
      × ((p'.bindings ≤ n) × (p.bindings ≤ n) × (weight_in ws p'.bindings + weight_in ws p.bindings < 96))
  unfolding leaf_by ◌>>=◌ one
  include_ready = (
    less_room l.fits.room (omega arith),
    (
      omega (arith, included_lists.b_link.earlier),
      omega (arith, include_lists.b_link.earlier),
      imported_light l.change.sound names bind (span txt text.start (text.len - 1)) included_lists.b_link include_lists.b_link include_weight,
    ),
  )

  module _ {ws₁ : List ℕ} {b : ℕ} (e : b ≡ n + 1)
      (m : MadeImported ws ws₁ n (kind names (list bind)) text.start (text.len - 1) p'.bindings
      p.bindings b) where
    include_builds : Builds ws ws₁ txt n used names (list bind)
        (one (ImportedNames (span txt text.start (text.len - 1)) (bindings (what names ws txt inc trieˢ))
        (bindings (what names ws txt x trieˢ)))) b b
    include_builds =
        builds_one (made_as (m txt used names bind l.change.sound refl l.change.text included_lists.b_link include_lists.b_link)
        (rw (include_lists.b_reads, included_lists.b_reads))) e

    pub include_trie_ready : Room ws₁ b 1 × ((p.namespaces ≤ b) × (depth_in ws₁ p.namespaces ≤ 16))
    unfolding leaf_by ◌>>=◌ one depth
    include_trie_ready = bindings_ready include_builds include_lists.n_link l.fits.room (rw include_lists.n_reads l.fits.shallow)

    pub include_built : {ws₂ : List ℕ} {r : ℕ} → r ≡ b + 1 → MadeTrie ws₁ ws₂ b (kind names trieˢ) b p.namespaces r
        → Builds ws ws₂ txt n used names trieˢ
        (leaf_of ws txt (change_of Include text key inc) (what names ws txt x trieˢ)) r r
    unfolding leaf_by
    include_built f g = rw include_lists.n_reads at (bindings_built include_builds include_lists.n_link refl f g)

-- ---- open of a namespace
module _ {ws txt : List ℕ} {n used x : ℕ} {text key : Span} {inc : ℕ} {p p' : M.Trie}
    (l : Leaf ws txt n used x (change_of Open text key inc)) (q : ReadTrie ws x p) (q' : ReadTrie ws inc p') where
  open_lists : Lists ws txt n names x p
  open_lists = lists_in l.change.sound l.link q

  opened_lists : Lists ws txt n names inc p'
  opened_lists = lists_in l.change.sound l.change.inc q'

  open_weight : weight (ImportedNames (span txt text.start (text.len - 1))
      (what names ws txt p'.namespaces (list ns)) (what names ws txt p.namespaces (list ns))) ≤ 96
  unfolding heaviest heaviest_names leaf_by ◌>>=◌ one
  open_weight = rw (open_lists.n_reads, opened_lists.n_reads) (omega (arith, l.fits.light))

  pub open_ready : Room ws n 1 ×
      ((p'.namespaces ≤ n) × (p.namespaces ≤ n) × (weight_in ws p'.namespaces + weight_in ws p.namespaces < 96))
  unfolding leaf_by ◌>>=◌ one
  open_ready = (
    less_room l.fits.room (omega arith),
    (
      omega (arith, opened_lists.n_link.earlier),
      omega (arith, open_lists.n_link.earlier),
      imported_light l.change.sound names ns (span txt text.start (text.len - 1)) opened_lists.n_link open_lists.n_link open_weight,
    ),
  )

  module _ {ws₁ : List ℕ} {y : ℕ} (e : y ≡ n + 1)
      (m : MadeImported ws ws₁ n (kind names (list ns)) text.start (text.len - 1) p'.namespaces
      p.namespaces y) where
    open_builds : Builds ws ws₁ txt n used names (list ns)
        (one (ImportedNames (span txt text.start (text.len - 1)) (namespaces (what names ws txt inc trieˢ))
        (namespaces (what names ws txt x trieˢ)))) y y
    open_builds =
        builds_one (made_as (m txt used names ns l.change.sound refl l.change.text opened_lists.n_link open_lists.n_link)
        (rw (open_lists.n_reads, opened_lists.n_reads))) e

    pub open_trie_ready : Room ws₁ y 1 × ((y ≤ y) × (depth_in ws₁ y ≤ 16))
    unfolding leaf_by ◌>>=◌ one depth
    open_trie_ready = namespaces_ready open_builds open_lists.b_link l.fits.room l.fits.shallow

    pub open_built : {ws₂ : List ℕ} {r : ℕ} → r ≡ y + 1 → MadeTrie ws₁ ws₂ y (kind names trieˢ) p.bindings y r
        → Builds ws ws₂ txt n used names trieˢ
        (leaf_of ws txt (change_of Open text key inc) (what names ws txt x trieˢ)) r r
    unfolding leaf_by
    open_built f g = rw open_lists.b_reads at (namespaces_built open_builds open_lists.b_link refl f g)

-- ---- a name
module _ {ws txt : List ℕ} {n used x : ℕ} {c : LidSymbol} {text key : Span} {inc : ℕ} {p : M.Trie}
    (l : Leaf ws txt n used x (change_of (Name c.kind c.number) text key inc)) (q : ReadTrie ws x p) where
  name_lists : Lists ws txt n names x p
  name_lists = lists_in l.change.sound l.link q

  module _ {count : ℕ} (z : LeafBuilds ws txt x (change_of (Name c.kind c.number) text key inc) count) where
    abbrev name_row : List ℕ
    name_row = binding_row text c

    name_light : heaviest_names
        (names_insert (what names ws txt p.bindings (list bind)) (span txt text.start text.len) (item c)) ≤ 96
    unfolding heaviest leaf_by ◌>>=◌ one
    name_light = rw (name_lists.b_reads, ← names_insert_value) (omega (arith, l.fits.light))

    name_room : Room ws n (count + 1 + 1)
    unfolding leaf_by ◌>>=◌ one
    name_room = rw (insert_count (bindings (what names ws txt x trieˢ)) (span txt text.start text.len) (item c) z) at l.fits.room

    pub name_insertion : NamesInsertion ws txt names bind n used p.bindings count name_row
    name_insertion =
        insertion_after (made_none (list bind) l.change.sound name_lists.b_link)
        (record { records = n; used = used; sound = l.change.sound; link = name_lists.b_link })
        (omega (arith, name_lists.b_link.earlier)) name_row (rw name_lists.b_reads z)
        (item c) (insert_light (what names ws txt p.bindings (list bind)) (span txt text.start text.len) (item c) name_light)
        (less_room name_room (omega arith))
        (record { known = refl; key = l.change.text; holds = number_is_kind c.kind })

    module _ {ws₁ : List ℕ} {b : ℕ} (e : b ≡ n + count + 1)
        (m : NamesInserts ws ws₁ txt n p.bindings count name_row b) where
      name_builds : Builds ws ws₁ txt n used names (list bind)
          (names_insertᶜ (bindings (what names ws txt x trieˢ)) (span txt text.start text.len) (item c)) b b
      name_builds = rw (name_lists.b_reads, number_in c.kind) at (builds_insert name_insertion m e)

      pub name_trie_ready : Room ws₁ b 1 × ((p.namespaces ≤ b) × (depth_in ws₁ p.namespaces ≤ 16))
      unfolding leaf_by ◌>>=◌ one depth
      name_trie_ready = bindings_ready name_builds name_lists.n_link l.fits.room (rw name_lists.n_reads l.fits.shallow)

      pub name_built : {ws₂ : List ℕ} {r : ℕ} → r ≡ b + 1 → MadeTrie ws₁ ws₂ b (kind names trieˢ) b p.namespaces r
          → Builds ws ws₂ txt n used names trieˢ
          (leaf_of ws txt (change_of (Name c.kind c.number) text key inc) (what names ws txt x trieˢ)) r r
      unfolding leaf_by
      name_built f g = rw name_lists.n_reads at (bindings_built name_builds name_lists.n_link refl f g)

-- ---- an alias
module _ {ws txt : List ℕ} {n used x : ℕ} {text key : Span} {inc : ℕ} {p p' : M.Trie}
    (l : Leaf ws txt n used x (change_of Alias text key inc)) (q : ReadTrie ws x p) (q' : ReadTrie ws inc p') where
  alias_lists : Lists ws txt n names x p
  alias_lists = lists_in l.change.sound l.link q

  aliased_lists : Lists ws txt n names inc p'
  aliased_lists = lists_in l.change.sound l.change.inc q'

  -- The fresh trie.
  abbrev fresh : Counted (Trie LidSymbol)
  fresh = one (ImportedNames (span txt text.start (text.len - 1)) (bindings (what names ws txt inc trieˢ)) []ᴺ) >>= λ b. one (trie b []ᴺ)

  module _ {count : ℕ} (z : LeafBuilds ws txt x (change_of Alias text key inc) count) where
    alias_count : (names_insertᶜ (namespaces (what names ws txt x trieˢ)) (span txt key.start key.len)
        fresh.value).count ≡ count + 1
    alias_count = insert_count (namespaces (what names ws txt x trieˢ)) (span txt key.start key.len) fresh.value z

    alias_light : heaviest_names (names_insert (what names ws txt p.namespaces (list ns))
        (span txt key.start key.len) fresh.value) ≤ 96
    unfolding heaviest leaf_by ◌>>=◌ one
    alias_light = rw (alias_lists.n_reads, ← names_insert_value) (omega (arith, l.fits.light))

    alias_shallow : depth_names
        (names_insert (namespaces (what names ws txt x trieˢ)) (span txt key.start key.len) fresh.value) ≤ 16
    unfolding depth leaf_by ◌>>=◌ one
    alias_shallow = rw names_insert_value at l.fits.shallow

    alias_room : Room ws n (2 + (count + 1 + 1))
    unfolding leaf_by ◌>>=◌ one
    alias_room = rw alias_count at l.fits.room

    pub alias_ready : Room ws n 1 × ((p'.bindings ≤ n) × (0 ≤ n) × (weight_in ws p'.bindings + weight_in ws 0 < 96))
    unfolding heaviest heaviest_names ◌>>=◌ one
    alias_ready = (
      less_room alias_room (omega arith),
      (
        omega (arith, aliased_lists.b_link.earlier),
        omega arith,
        imported_light l.change.sound names bind (span txt text.start (text.len - 1)) aliased_lists.b_link (no_link n _)
            (rw (what_none names ws txt, aliased_lists.b_reads)
            (omega
            (arith, alias_light, (inserted_within (what names ws txt p.namespaces (list ns)) (span txt key.start key.len) fresh.value).heavy))),
      ),
    )

    module _ {ws₁ : List ℕ} {b : ℕ} (e : b ≡ n + 1)
        (m : MadeImported ws ws₁ n (kind names (list bind)) text.start (text.len - 1) p'.bindings 0 b) where
      alias_builds : Builds ws ws₁ txt n used names (list bind)
          (one (ImportedNames (span txt text.start (text.len - 1)) (bindings (what names ws txt inc trieˢ)) []ᴺ))
          b b
      alias_builds =
          builds_one (made_as (m txt used names bind l.change.sound refl l.change.text aliased_lists.b_link (no_link n _))
          (rw (what_none names ws txt, aliased_lists.b_reads))) e

      pub alias_fresh_ready : Room ws₁ b 1 × ((0 ≤ b) × (depth_in ws₁ 0 ≤ 16))
      unfolding one depth_names
      alias_fresh_ready = bindings_ready alias_builds (no_link n _) (less_room alias_room (omega arith)) (rw (what_none names ws txt) (omega arith))

      module _ {ws₂ : List ℕ} {first : ℕ} (f : first ≡ b + 1)
          (g : MadeTrie ws₁ ws₂ b (kind names trieˢ) b 0 first) where
        fresh_builds : Builds ws ws₂ txt n used names trieˢ fresh first first
        fresh_builds = rw (what_none names ws txt) at (bindings_built alias_builds (no_link n _) refl f g)

        abbrev alias_row : List ℕ
        alias_row = namespace_row 0 key first

        pub alias_insertion : NamesInsertion ws₂ txt names ns first used p.namespaces count alias_row
        unfolding ◌>>=◌ one
        alias_insertion =
            scope_insertion fresh_builds l.change.sound alias_lists.n_link 0 refl key l.change.key (rw alias_lists.n_reads z)
            (rw (alias_lists.n_reads, alias_count) (less_room alias_room (omega arith)))
            (rw names_insert_value alias_light)

        module _ {ws₃ : List ℕ} {y : ℕ} (h : y ≡ first + count + 1)
            (i : NamesInserts ws₂ ws₃ txt first p.namespaces count alias_row y) where
          alias_spaces : Builds ws ws₃ txt n used names (list ns)
              (fresh >>= λ scope. names_insertᶜ (namespaces (what names ws txt x trieˢ))
              (span txt key.start key.len) scope) y y
          alias_spaces = rw alias_lists.n_reads at
              (scope_built fresh_builds l.change.sound alias_lists.n_link 0 refl key l.change.key (rw alias_lists.n_reads z) alias_insertion h i)

          pub alias_trie_ready : Room ws₃ y 1 × ((y ≤ y) × (depth_in ws₃ y ≤ 16))
          unfolding ◌>>=◌ one
          alias_trie_ready =
              namespaces_ready alias_spaces alias_lists.b_link
              (rw alias_count (less_room alias_room (omega arith)))
              (rw names_insert_value alias_shallow)

          pub alias_built : {ws₄ : List ℕ} {r : ℕ} → r ≡ y + 1 → MadeTrie ws₃ ws₄ y (kind names trieˢ) p.bindings y r
              → Builds ws ws₄ txt n used names trieˢ
              (leaf_of ws txt (change_of Alias text key inc) (what names ws txt x trieˢ)) r r
          unfolding leaf_by ◌>>=◌ one
          alias_built j k =
              let d = namespaces_built alias_spaces alias_lists.b_link refl j k in
              record { number = omega (arith, d.number); made = rw alias_lists.b_reads at d.made }

-- ---- each kind
module _ {ws txt : List ℕ} {n x : ℕ} {k : CallKind} (ch : Change) (e : ch.kind ≡ k) where
  pub leaf_as : Some (λ used. Leaf ws txt n used x ch) → Some (λ used. Leaf ws txt n used x (with_kind k ch))
  leaf_as l = subst (λ (k : CallKind). Some (λ used. Leaf ws txt n used x (with_kind k ch))) e l

  pub inserting_as : (count : ℕ) → Some (λ used. Leaf ws txt n used x ch) × LeafBuilds ws txt x ch count
      → Some (λ used. Leaf ws txt n used x (with_kind k ch)) × LeafBuilds ws txt x (with_kind k ch) count
  inserting_as count l = subst (λ (k : CallKind). Some (λ used. Leaf ws txt n used x (with_kind k ch)) × LeafBuilds ws txt x (with_kind k ch) count) e l

  pub leaf_built : {ws' : List ℕ} {link n' : ℕ} → LeafBuilt ws ws' txt n x (with_kind k ch) link n'
      → LeafBuilt ws ws' txt n x ch link n'
  leaf_built {ws'} {link} {n'} b = subst (λ (k : CallKind). LeafBuilt ws ws' txt n x (with_kind k ch) link n') (sym e) b

pub leaf_module : {ws txt : List ℕ} {n x : ℕ} {loaded : Bool} (ch : Change)
    → LeafBuilt ws ws txt n x (with_kind (Module loaded) ch) x n
unfolding leaf_by
leaf_module ch used l = builds_none trieˢ l.change.sound l.link
