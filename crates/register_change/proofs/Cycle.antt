-- namespaces_mutate and trie_mutate: what each step asks, and what it builds.
use Prim.Native.Nat.{ℕ, ◌+◌, ◌-◌, ◌≤◌, ◌<◌}
use mathlib.Core.Path.{◌≡◌, refl}
use mathlib.Core.Bool.{true}
use mathlib.Core.List.{List, [], ◌∷◌}
use native.Mathlib.Omega.{arith}
use lib.ListN.{length, drop}
use Rattle.std.specs.Prelude.{slice_index_or}
use Rattle.source.specs.Text.{segments, ends_in_dot}
use Rattle.source.specs.Types.{Trie, NameList, ns, namespaces}
use Rattle.source.specs.Tries.{scope_of}
use Rattle.source.specs.Terms.{heaviest, depth}
use Rattle.source.specs.Rules.{IsKey}
use Rattle.source.specs.Counted.{Counted, one, ◌>>=◌, names_insertᶜ, trie_mutateᶜ}
use Rattle.source.proofs.Counted.{names_insert_value}
use Rattle.memory.specs.Layout.{span, Which, Item, Sort, tree, list, trieˢ, Of, kind_in, kind, what}
use Rattle.memory.specs.Made.{namespace_row}
use Rattle.memory.specs.Sound.{TextOk}
use Rattle.memory.specs.Read.{ReadTrie}
use Rattle.memory.specs.declared.Trie as M
use Rattle.memory.proofs.Seen.{link_later}
use Rattle.insert_record.specs.Made.{Made}
use Rattle.insert_list.specs.Insert.{NamesInsertion, AnyNamesInsertion, NamesInserts}
use Rattle.insert_record.proofs.Made.{made_then, made_what, made_link, made_room}
use Rattle.register_way.specs.declared.Step.{Step}
use Rattle.register_kind.specs.Shapes.{shape_of}
use Rattle.register_kind.specs.declared.Form.{Form}
use Rattle.register_kind.specs.declared.Form.TheVariants as form
use Rattle.register_leaf.specs.declared.Change.{Change}
use Rattle.register_change.specs.declared.Descent.{Descent}
use Rattle.register_leaf.specs.Leaves.{which_of, leaf_of, Included, ChangeOk, Leaf, LeafBuilds, Builds, LeafBuilt}
use Rattle.register_change.specs.Changes.{between, passed, Kinds, node_of, mutated, namespaces_mutated, SegmentCut, Node, NamespacesMutation, Mutation}
use Rattle.register_change.specs.Changes.{TrieWay, NamespacesWay, NodeBuilt, NamespacesMutated, Mutated}
use Rattle.memory.proofs.Tries.{Lists, lists_in}
use Rattle.register_change.proofs.QueryPlace.{place_next, passed_next, key_in}
use Rattle.register_leaf.proofs.Builds.{inserted_within, scope_insertion, scope_built}
use Rattle.register_leaf.proofs.Leaves.{less_room}

-- ---- namespaces_mutate
module _ {ws txt : List ℕ} {n used x at len : ℕ} {d : Descent} (g : NamespacesMutation ws txt n used x at len d) where
  spaces_key : TextOk IsKey txt used at len
  spaces_key = key_in g.place g.cut

  module _ {step : Step} {way : List Step} (z : NamespacesWay ws txt n x at len d step way) where
    abbrev value : Trie (Item (which_of d.change))
    value = (mutated ws txt d.change (scope_of (what (which_of d.change) ws txt x (list ns)) (span txt at len)) d.from (at + len + 1) d.end).value

    -- What is asked of the scope.
    pub spaces_mutation : Mutation ws txt n used step.below (at + len + 1) d
    unfolding ◌>>=◌
    spaces_mutation =
        let w = inserted_within (what (which_of d.change) ws txt x (list ns)) (span txt at len) value in
        record {
          change = g.change;
          link = z.first.next.link;
          place = place_next g.place g.cut;
          fits = rw z.first.next.says (record {
            room = less_room g.fits.room (omega arith);
            light = omega (arith, w.heavy, rw names_insert_value at g.fits.light);
            shallow = omega (arith, w.high, rw names_insert_value at g.fits.shallow);
          });
        }

    module _ {ws₁ : List ℕ} {i n₁ k : ℕ} (S : Mutated ws ws₁ txt n step.below (at + len + 1) d i n₁)
        (h : Kinds d.change k) where
      scope_builds : Builds ws ws₁ txt n used (which_of d.change) trieˢ
          (mutated ws txt d.change (scope_of (what (which_of d.change) ws txt x (list ns)) (span txt at len))
          d.from (at + len + 1) d.end) i n₁
      scope_builds = rw z.first.next.says at (S used spaces_mutation)

      kind_is : k + kind_in (tree ns) ≡ kind (which_of d.change) (tree ns)
      kind_is = omega (arith, h.1 (tree ns))

      -- The row of the segment.
      abbrev spaces_row : List ℕ
      spaces_row = namespace_row k (record { start = at; len = len }) i

      pub spaces_insertion : NamesInsertion ws₁ txt (which_of d.change) ns n₁ used x step.count spaces_row
      spaces_insertion = scope_insertion scope_builds g.change.sound g.link k kind_is _ spaces_key z.first.builds g.fits.room g.fits.light

      pub spaces_any : AnyNamesInsertion ws₁ txt n₁ x step.count spaces_row
      spaces_any = record { which = which_of d.change; level = ns; used = used; insertion = spaces_insertion }

      pub spaces_built : {ws₂ : List ℕ} {y : ℕ} → y ≡ n₁ + step.count + 1
          → NamesInserts ws₁ ws₂ txt n₁ x step.count spaces_row y
          → Builds ws ws₂ txt n used (which_of d.change) (list ns)
          (namespaces_mutated ws txt d.change (what (which_of d.change) ws txt x (list ns)) d.from at len
          d.end) y y
      spaces_built f m = scope_built scope_builds g.change.sound g.link k kind_is _ spaces_key z.first.builds spaces_insertion f m

-- ---- the first step of a way
abbrev pub first_of : List Step → Step
first_of way = slice_index_or way 0 (record { below = 0; count = 0 })

-- ---- trie_mutate at the host
module _ (ws txt : List ℕ) (at : ℕ) (d : Descent) (e : at ≡ d.end) where
  mutated_leaf : (tr : Trie (Item (which_of d.change)))
      → mutated ws txt d.change tr d.from at d.end ≡ leaf_of ws txt d.change tr
  unfolding trie_mutateᶜ span segments
  mutated_leaf tr = let z : d.end - at ≡ 0 = omega arith in rw z

  pub leaf_mutation : {n used x : ℕ} → Mutation ws txt n used x at d → Leaf ws txt n used x d.change
  leaf_mutation m = record { change = m.change; link = m.link; fits = rw mutated_leaf at m.fits }

  no_segment : between txt at d.end ≡ []
  unfolding span segments
  no_segment = let z : d.end - at ≡ 0 = omega arith in rw z refl

  pub leaf_way : {x : ℕ} (way : List Step) → TrieWay ws txt x at d way
      → LeafBuilds ws txt x d.change (first_of way).count
  leaf_way [] y = absurd y.leads
  leaf_way (s ∷ way) y = rw no_segment at y.leads

  pub leaf_mutated : {ws' : List ℕ} {n x link n' : ℕ} → LeafBuilt ws ws' txt n x d.change link n'
      → Mutated ws ws' txt n x at d link n'
  leaf_mutated b used m = rw mutated_leaf (b used (leaf_mutation m))

-- ---- trie_mutate above it

-- What segment_in asks.
pub segment_ready : {ws txt : List ℕ} {n used x at : ℕ} {d : Descent} → Mutation ws txt n used x at d
    → (at ≡ d.end → ⊥)
    → (at < d.end) × (d.end ≤ length txt) × (d.end ≤ 65536) × (ends_in_dot (span txt at (d.end - at)) ≡ true)
segment_ready m h = (
  omega (arith, m.place.inside),
  omega (arith, m.place.within, m.change.sound.text_fits),
  omega (arith, m.place.within, m.change.sound.short),
  m.place.ends,
)

-- The links of a change stay.
change_stays : {ch : Change} {ws ws' txt : List ℕ} {n n' used : ℕ} {w : Which} {so : Sort} {r : ℕ} {v : Of (Item w) so}
    → Made ws ws' txt n n' used w so r v → ChangeOk ws txt n used ch → ChangeOk ws' txt n' used ch
change_stays {ch} {ws} {ws'} {n = n} {n'} m c = record { sound = m.sound; text = c.text; key = c.key; inc = stays (shape_of ch.kind).form c.inc }
  where
    stays : (f : Form) → Included f ws n ch.inc → Included f ws' n' ch.inc
    stays form.Name i = i
    stays form.Import i = made_link m (omega arith) i
    stays (form.Module loaded) i = i

module _ {ws txt : List ℕ} {n used x at len : ℕ} {d : Descent} {p : M.Trie} (m : Mutation ws txt n used x at d)
    (c : SegmentCut txt at len d.end) (q : ReadTrie ws x p) where
  mutation_lists : Lists ws txt n (which_of d.change) x p
  mutation_lists = lists_in m.change.sound m.link q

  abbrev tr : Trie (Item (which_of d.change))
  tr = what (which_of d.change) ws txt x trieˢ

  abbrev spaces : Counted (NameList (Item (which_of d.change)) ns)
  spaces = namespaces_mutated ws txt d.change (namespaces tr) d.from at len d.end

  abbrev node : NameList (Item (which_of d.change)) ns → Counted (Trie (Item (which_of d.change)))
  node y = node_of txt d.change tr (span txt at len) (between txt (at + len + 1) d.end) (passed txt d.from at) y

  -- One step of trie_mutate.
  step : mutated ws txt d.change tr d.from at d.end
      ≡ (mutated ws txt d.change (scope_of (namespaces tr) (span txt at len)) d.from (at + len + 1) d.end >>=
      λ scope. names_insertᶜ (namespaces tr) (span txt at len) scope >>= node)
  unfolding trie_mutateᶜ
  step = rw (passed_next m.place c, c.splits)

  step_value : (mutated ws txt d.change tr d.from at d.end).value ≡ (node spaces.value).value
  unfolding ◌>>=◌
  step_value = rw step

  step_count : (mutated ws txt d.change tr d.from at d.end).count ≡ spaces.count + (node spaces.value).count
  unfolding ◌>>=◌
  step_count = rw step (omega arith)

  pub mutation_spaces : NamespacesMutation ws txt n used p.namespaces at len d
  unfolding node_of ◌>>=◌ one heaviest depth
  mutation_spaces = record {
    change = m.change;
    link = mutation_lists.n_link;
    place = m.place;
    cut = c;
    fits = rw mutation_lists.n_reads (record {
      room = less_room m.fits.room (omega (arith, step_count));
      light = omega (arith, rw step_value at m.fits.light);
      shallow = rw step_value at m.fits.shallow;
    });
  }

  pub spaces_way : (way : List Step) → TrieWay ws txt x at d way
      → NamespacesWay ws txt n p.namespaces at len d (first_of way) (drop 1 way)
  spaces_way [] y = absurd y.leads
  spaces_way (s ∷ way) y =
      let z = rw c.splits at y.leads in
      record {
        first = rw mutation_lists.n_reads (record {
          next = record {
            link = link_later (omega (arith, m.link.earlier)) z.0.next.link;
            says = z.0.next.says;
          };
          builds = z.0.builds;
        });
        rest = record { leads = z.1 };
      }

  module _ {ws₁ : List ℕ} {y n₁ : ℕ} (N : NamespacesMutated ws ws₁ txt n p.namespaces at len d y n₁) where
    spaces_builds : Builds ws ws₁ txt n used (which_of d.change) (list ns) spaces y n₁
    spaces_builds = rw mutation_lists.n_reads at (N used mutation_spaces)

    same : what (which_of d.change) ws₁ txt x ≡ what (which_of d.change) ws txt x
    same = made_what spaces_builds.made (which_of d.change) (omega (arith, m.link.earlier))

    pub mutation_node : Node ws₁ txt n₁ used x y at len d
    mutation_node = record {
      change = change_stays spaces_builds.made m.change;
      link = made_link spaces_builds.made (omega arith) m.link;
      list_link = spaces_builds.made.link;
      place = m.place;
      cut = c;
      fits = rw (same, spaces_builds.made.reads) (record {
        room = made_room spaces_builds.made spaces.count spaces_builds.number (rw step_count at m.fits.room);
        light = rw step_value at m.fits.light;
        shallow = rw step_value at m.fits.shallow;
      });
    }

    pub mutation_built : {ws₂ : List ℕ} {r n₂ : ℕ} → NodeBuilt ws₁ ws₂ txt n₁ x y at len d r n₂
        → Builds ws ws₂ txt n used (which_of d.change) trieˢ
        (mutated ws txt d.change tr d.from at d.end) r n₂
    mutation_built f =
        let b : Builds ws₁ _ txt n₁ used (which_of d.change) trieˢ (node spaces.value) _ _ =
        rw (same, spaces_builds.made.reads) at (f used mutation_node) in
        record {
          number = omega (arith, step_count, b.number, spaces_builds.number);
          made = rw step_value (made_then spaces_builds.made b.made);
        }
