-- Planning: what each step of a path adds, and the plan of each call from the path to its host.
use Rattle.std.specs.Prelude.{Option}
use Rattle.std.specs.Option.{unwrap_or}
use Prim.Native.Nat.{ℕ, suc, ◌+◌, ◌≤◌, ◌<◌, min, max}
use mathlib.Core.Path.{◌≡◌, refl, sym, ap, ◌∙◌}
use mathlib.Core.Bool.{Bool, true, false, ◌||◌, or-false}
use mathlib.Core.List.{List, [], ◌∷◌}
use native.Mathlib.Omega.{arith}
use lib.Dec.{eqb, ltb}
use borrow.Author.Tests.{eqb-true, eqb-false}
use lib.ListN.{length}
use Rattle.source.specs.Limits.{most_segments}
use Rattle.source.specs.Text.{Str, Query, segments}
use Rattle.source.specs.Types.{Level, Value, Trie, NameList, bind, ns, item, []ᴺ, Names, ImportedNames, bindings, namespaces}
use Rattle.source.specs.Tries.{names_insert, scope_of, included}
use Rattle.source.specs.Terms.{weight}
use Rattle.source.specs.Table.{Table}
use Rattle.source.specs.Table as S
use Rattle.source.specs.Calls.{name, include, opens, alias, module_path, is_empty}
use Rattle.source.proofs.Hosts.{host_of_step}
use Rattle.source.proofs.Measures.{ltb_max}
use Rattle.source.specs.Plans.{along, inserted_records, inserted_weight, ins_inserts, step_records, step_weight, name_records, name_weight, import_records}
use Rattle.source.specs.Plans.{include_weight, open_weight, alias_records, alias_weight, module_step_records, module_step_weight, module_host, plan_depth}
use Rattle.source.specs.Plans.{plan_weight, plan_crowded, plan_records, insert_branches, first_tree}
use Rattle.source.proofs.Planning.{along_host}
use Rattle.source.proofs.PlannedRecords.{records_onto}
use Rattle.source.proofs.PlannedWeight.{crowded_onto}
use Rattle.source.specs.declared.LidSymbol.{LidSymbol}
use Rattle.memory.specs.Layout.{Which, Item, names, modules, list, trieˢ, what}
use Rattle.memory.specs.Read.{ReadTrie}
use Rattle.memory.specs.Stored.{weight_in, trie_in}
use Rattle.memory.specs.declared.Trie as M
use Rattle.find_list.specs.Names.{AnyList, NamesPlaced, InsertIn}
use Rattle.find_list.proofs.Collections.{list_weight, list_light}
use Rattle.memory.proofs.At.{at_fits, at_of}
use Rattle.memory.proofs.StoredSizes.{stored_none}
use Rattle.find_trie.specs.Tries.{NsInserts}
use Rattle.register_way.specs.Way.{Leads, NotesStep}
use Rattle.register_way.specs.declared.Way.{Way}
use Rattle.register_way.proofs.Steps.{leads_first, leads_step}
use Rattle.register_plan.specs.Plans.{both, insertion, import, Light, StepIn, Stepped, StepsDown, Path, Inserted, Planned}
use Rattle.register_plan.specs.declared.Cost.{Cost}
use Rattle.text_query.specs.Queries.{before_dot}
use Rattle.text_query.proofs.Segments.{segments_none, segments_cut}
use Rattle.memory.proofs.Tries.{bindings_at, namespaces_at, bindings_read, namespaces_read, lists_seen}
use Rattle.find_trie.proofs.Links.{scope_up, holder_scope}
use Rattle.memory.specs.Sound.{At}

-- ---- an insertion
pub insert_weight : {A : Type 0} {ℓ : Level} (nl : NameList A ℓ) (k : Str) (v : Value A ℓ)
    → weight (names_insert nl k v) ≡ inserted_weight nl
unfolding names_insert weight inserted_weight
insert_weight []ᴺ k v = refl
insert_weight (Names bt tl) k v = refl
insert_weight (ImportedNames label inner tl) k v = refl

module _ {ws txt : List ℕ} {w : Which} {ℓ : Level} {x : ℕ} {key : Str} {count wt : ℕ}
    (i : InsertIn ws txt w ℓ x key count wt) where
  -- Any value serves: the weight is the same.
  placed_weight : Value (Item w) ℓ → wt ≡ inserted_weight (what w ws txt x (list ℓ))
  placed_weight a = i.weighs a ∙ insert_weight _ key a

  placed_records : count + 1 ≡ inserted_records (what w ws txt x (list ℓ)) key
  unfolding inserted_records
  placed_records = omega (arith, i.builds)

pub placed_small : {ws txt : List ℕ} {x : ℕ} {key : Str} {count wt : ℕ} {holder : Option ℕ} → AnyList ws txt x
    → NamesPlaced ws txt x key holder count wt → count ≤ 65537
placed_small a z = omega (arith, z.small, a.list.link.earlier, a.list.sound.few)

-- The count of a place in a list of a trie, by the trie.
module _ {ws txt : List ℕ} {w : Which} {x : ℕ} {p : M.Trie} {key : Str} {count wt : ℕ} {holder : Option ℕ}
    (t : At ws txt w trieˢ x)
    (q : ReadTrie ws x p) where
  pub bindings_builds : NamesPlaced ws txt p.bindings key holder count wt
      → count ≡ insert_branches (first_tree (bindings (what w ws txt x trieˢ))) key
  bindings_builds z = rw (← bindings_read t q) (z.inserts w bind (bindings_at t q)).builds

  pub namespaces_builds : NamesPlaced ws txt p.namespaces key holder count wt
      → count ≡ insert_branches (first_tree (namespaces (what w ws txt x trieˢ))) key
  namespaces_builds z = rw (← namespaces_read t q) (z.inserts w ns (namespaces_at t q)).builds

-- ---- costs
pub same_records : {a b : Cost} → a ≡ b → a.records ≡ b.records
same_records e = ap (λ (c : Cost). c.records) e

-- ---- lists
pub any_light : {ws txt : List ℕ} {w : Which} {ℓ : Level} {x : ℕ} → At ws txt w (list ℓ) x → Light ws x
any_light t = record { fits = omega (arith, at_fits t); light = list_light t }

pub none_light : (ws : List ℕ) → Light ws 0
none_light ws = record { fits = omega arith; light = rw (stored_none ws 10) (omega arith) }

-- ---- a path
pub path_stepped : {ws txt : List ℕ} {w : Which} {x : ℕ} {p : M.Trie} {s : Str} {way way' : Way}
    {steps count wt y : ℕ} {holder : Option ℕ} → At ws txt w trieˢ x → ReadTrie ws x p
    → NamesPlaced ws txt p.namespaces s holder count wt → y ≡ trie_in ws (unwrap_or holder 0)
    → NotesStep way way' steps (record { below = y; count = count }) → StepIn ws txt w x s way way' steps y (insertion count wt)
path_stepped {ws} {txt} {w} {x} {s = s} t q z e n =
    let a = namespaces_at t q in
    let i = z.inserts w ns a in
    record {
      next = scope_up t q s (holder_scope a (z.found w ns a) e);
      builds = rw (← namespaces_read t q) (omega (arith, placed_records i));
      small = omega (arith, z.small, (lists_seen t q).namespaces.earlier, t.link.earlier, t.sound.few);
      weighs = rw (← namespaces_read t q, placed_weight i (what w ws txt x trieˢ));
      noted = rw (namespaces_builds t q z) at n;
    }

module _ {A : Type 0} {builds weighs : Trie A → Str → Query → ℕ} {tr : Trie A} {q : Query} where
  pub steps_first : StepsDown builds weighs tr q 0 (record { records = 0; crowded = false }) tr q
  steps_first = record { host = refl; number = omega arith; small = omega arith; built = λ end. omega arith; weighed = λ end. refl }

  module _ {steps : ℕ} {cost : Cost} {at : Trie A} where
    pub steps_next : {s : Str} {rest : Query} {made : Cost} → StepsDown builds weighs tr q steps cost at (s ∷ rest)
        → made.records ≡ builds at s rest → made.records ≤ 140000 → made.crowded ≡ ltb 96 (weighs at s rest)
        → StepsDown builds weighs tr q (steps + 1) (both cost made) (scope_of (namespaces at) s) rest
    steps_next {s} {rest} g e h f = record {
      host = g.host ∙ host_of_step at s rest;
      number = omega (arith, g.number);
      small = omega (arith, g.small);
      built = λ end. g.built end ∙ records_onto builds end cost.records at s rest ∙ rw (← e);
      weighed = λ end. g.weighed end ∙ crowded_onto weighs end cost.crowded at s rest ∙ rw (← f);
    }

    module _ (g : StepsDown builds weighs tr q steps cost at []) where
      pub along_builds : (end : Trie A → ℕ) → along ◌+◌ builds end tr q ≡ cost.records + end at
      along_builds end = g.built end ∙ rw (along_host ◌+◌ builds end at)

      pub weighed_all : (end : Trie A → ℕ) → ltb 96 (along max weighs end tr q) ≡ cost.crowded || ltb 96 (end at)
      weighed_all end = g.weighed end ∙ rw (along_host max weighs end at)

-- The loops stand at a trie, with some segments left.
pub record Walks (ws txt : List ℕ) (w : Which) (root : ℕ) (q : Query) (builds weighs : Trie (Item w) → Str → Query → ℕ)
    (way way' : Way) (link steps : ℕ) (cost : Cost) (left : Query) : Type 0 where
  pub here : At ws txt w trieˢ link
  pub gives : StepsDown builds weighs (what w ws txt root trieˢ) q steps cost (what w ws txt link trieˢ) left
  pub leads : Leads ws txt w root q way way' steps link left

module _ {ws txt : List ℕ} {w : Which} {root : ℕ} {q : Query} {builds weighs : Trie (Item w) → Str → Query → ℕ}
    {way : Way} where
  pub walks_first : At ws txt w trieˢ root
      → Walks ws txt w root q builds weighs way way root 0 (record { records = 0; crowded = false }) q
  walks_first t = record { here = t; gives = steps_first; leads = leads_first way }

  module _ {way' : Way} {link steps : ℕ} {cost : Cost} {s : Str} {left : Query}
      (g : Walks ws txt w root q builds weighs way way' link steps cost (s ∷ left)) (h : length q ≤ most_segments) where
    -- A step is left to take.
    pub walks_few : steps < most_segments
    walks_few = omega (arith, g.gives.number)

    pub walks_next : {way'' : Way} {next : ℕ} {step made : Cost} → StepIn ws txt w link s way' way'' steps next step
        → made.records ≡ builds (what w ws txt link trieˢ) s left → made.records ≤ 140000
        → made.crowded ≡ ltb 96 (weighs (what w ws txt link trieˢ) s left)
        → Walks ws txt w root q builds weighs way way'' next (steps + 1) (both cost made) left
    walks_next i e f k = record {
      here = at_of g.here trieˢ (omega arith) i.next.link;
      gives = rw i.next.says (steps_next g.gives e f k);
      leads = leads_step g.leads walks_few i.noted (record { next = i.next; builds = refl });
    }

pub path_next : {ws txt : List ℕ} {root : ℕ} {q : Query} {way way' way'' : Way} {link steps next : ℕ} {cost made : Cost}
    {s : Str} {left : Query}
    → Walks ws txt names root q step_records step_weight way way' link steps cost (s ∷ left) → length q ≤ most_segments
    → Stepped ws txt link s way' way'' steps next made
    → Walks ws txt names root q step_records step_weight way way'' next (steps + 1) (both cost made) left
unfolding step_records step_weight
path_next g h y = let i = y names g.here in walks_next g h i i.builds (omega (arith, i.small)) i.weighs

pub path_last : {ws txt : List ℕ} {root : ℕ} {q : Query} {way way' : Way} {link steps : ℕ} {cost : Cost}
    → Walks ws txt names root q step_records step_weight way way' link steps cost [] → length q ≤ most_segments
    → Path ws txt root q link steps cost
path_last g h = record { few = omega (arith, g.gives.number); here = g.here; gives = g.gives }

-- ---- calls on the names table
module _ {ws txt : List ℕ} {root link steps : ℕ} {cost : Cost} (host : Str)
    (g : Path ws txt root (segments host) link steps cost) where
  number_is : length (segments host) ≡ steps
  number_is = omega (arith, g.gives.number)

  module _ {p : M.Trie} (q : ReadTrie ws link p) (tbl : Table) (e : tbl.tbl_lids ≡ what names ws txt root trieˢ) where
    pub name_planned : {id : Str} {count wt : ℕ} {holder : Option ℕ} (c : LidSymbol)
        → NamesPlaced ws txt p.bindings id holder count wt
        → Planned tbl (name host id c) (record { cost = both cost (insertion count wt); deep = ltb 16 steps })
    unfolding plan_records plan_crowded plan_weight plan_depth name_records name_weight
    name_planned c z =
        let i = z.inserts names bind (bindings_at g.here q) in
        record {
          records = rw (e, along_builds g.gives, ← bindings_read g.here q) (omega (arith, placed_records i));
          crowded = rw (e, weighed_all g.gives, ← bindings_read g.here q, placed_weight i (item c));
          deep = rw number_is;
        }

    module _ {inc : ℕ} {p' : M.Trie} (t : At ws txt names trieˢ inc) (q' : ReadTrie ws inc p') (query : Str)
        (f : what names ws txt inc trieˢ ≡ included (what names ws txt root trieˢ) (segments query)) where
      weights : (ℓ : Level) {x y : ℕ} → At ws txt names (list ℓ) x → At ws txt names (list ℓ) y
          → weight_in ws x + weight_in ws y + 1
          ≡ suc (weight (what names ws txt x (list ℓ)) + weight (what names ws txt y (list ℓ)))
      weights ℓ i j = omega (arith, list_weight i, list_weight j)

      pub include_planned : Planned tbl (include host query)
          (record { cost = both cost (import ws p'.bindings p.bindings); deep = ltb 16 steps })
      unfolding plan_records plan_crowded plan_weight plan_depth import_records include_weight
      include_planned = record {
        records = rw (e, along_builds g.gives);
        crowded = rw
            (e, weighed_all g.gives, ← f, ← bindings_read g.here q, ← bindings_read t q', weights bind (bindings_at t q') (bindings_at g.here q));
        deep = rw number_is;
      }

      pub open_planned : Planned tbl (opens false host query)
          (record { cost = both cost (import ws p'.namespaces p.namespaces); deep = ltb 16 (steps + p'.depth) })
      unfolding plan_records plan_crowded plan_weight plan_depth import_records open_weight
      open_planned = record {
        records = rw (e, along_builds g.gives);
        crowded = rw (
          e,
          weighed_all g.gives,
          ← f,
          ← namespaces_read g.here q,
          ← namespaces_read t q',
          weights ns (namespaces_at t q') (namespaces_at g.here q),
        );
        deep = rw (e, number_is, ← f, (lists_seen t q').deep);
      }

      pub alias_planned : {key : Str} {count wt : ℕ} {holder : Option ℕ}
          → NamesPlaced ws txt p.namespaces key holder count wt
          → Planned tbl (alias key host query)
          (record { cost = both cost (both (insertion count wt) (import ws p'.bindings 0)); deep = ltb 16 (steps + 1) })
      unfolding plan_records plan_crowded plan_weight plan_depth alias_records alias_weight
      alias_planned z =
          let i = z.inserts names ns (namespaces_at g.here q) in
          let k : weight_in ws p'.bindings + weight_in ws 0 + 1 ≡ suc (weight (what names ws txt p'.bindings (list bind)))
          = omega (arith, list_weight (bindings_at t q'), stored_none ws 10) in
          record {
            records = rw (e, along_builds g.gives, ← namespaces_read g.here q) (omega (arith, placed_records i));
            crowded = rw (
              e,
              weighed_all g.gives,
              ltb_max,
              ← f,
              ← namespaces_read g.here q,
              ← bindings_read t q',
              placed_weight i (what names ws txt 0 trieˢ),
              k,
            );
            deep = rw number_is;
          }

-- ---- module paths
module _ {ws txt : List ℕ} {x : ℕ} {p : M.Trie} {s : Str} {count wt : ℕ} {holder : Option ℕ} {last loaded b : Bool}
    (t : At ws txt modules trieˢ x) (q : ReadTrie ws x p)
    (z : NamesPlaced ws txt p.bindings s holder count wt) (n : NsInserts ws (unwrap_or holder 0) loaded b) where
  ins_inserts_is : (r : Query) → last ≡ is_empty r
      → ins_inserts loaded (bindings (what modules ws txt x trieˢ)) s r ≡ last || b
  unfolding ins_inserts is_empty
  ins_inserts_is [] e = rw e
  ins_inserts_is (g ∷ r) e = rw (e, ← bindings_read t q, (z.found modules bind (bindings_at t q)).says) (sym (n.says txt))

  pub step_inserted : last || b ≡ true
      → Inserted ws txt x s last loaded (record { records = count + 1; crowded = ltb 96 wt })
  step_inserted d =
      let i = z.inserts modules bind (bindings_at t q) in
      record {
        small = omega (arith, z.small, (lists_seen t q).bindings.earlier, t.link.earlier, t.sound.few);
        says = λ r e. record {
          builds = rw (ins_inserts_is r e, d, ← bindings_read t q) (placed_records i);
          weighs = rw (ins_inserts_is r e, d, ← bindings_read t q, placed_weight i (item (S.Namespace [] false)));
        };
      }

  pub not_inserted : last || b ≡ false → Inserted ws txt x s last loaded (record { records = 0; crowded = false })
  not_inserted d = record {
    small = omega arith;
    says = λ r e. record { builds = rw (ins_inserts_is r e, d); weighs = rw (ins_inserts_is r e, d) };
  }

-- No byte is left after the last segment.
pub none_left : (s : Str) (b : Bool) → b ≡ eqb (length s) 0 → b ≡ is_empty (segments s)
unfolding is_empty
none_left s b e = rw e (go (eqb (length s) 0) refl)
  where
    go : (test : Bool) → eqb (length s) 0 ≡ test → test ≡ is_empty (segments s)
    go true t = rw (segments_none s (eqb-true (length s) 0 t))
    go false t = rw (segments_cut s (before_dot s) (min (length s) (before_dot s + 1)) refl refl (omega (arith, eqb-false (length s) 0 t)))

-- One step of a module path.
pub module_path_next : {ws txt : List ℕ} {root : ℕ} {q : Query} {way way' way'' : Way} {link steps next : ℕ}
    {cost made put : Cost} {s : Str} {left : Query} {last loaded : Bool}
    → Walks ws txt modules root q (module_step_records loaded) (module_step_weight loaded) way way' link steps cost
    (s ∷ left)
    → length q ≤ most_segments → last ≡ is_empty left
    → Stepped ws txt link s way' way'' steps next made → Inserted ws txt link s last loaded put
    → Walks ws txt modules root q (module_step_records loaded) (module_step_weight loaded) way way'' next (steps + 1)
    (both cost (both made put)) left
unfolding module_step_records module_step_weight
module_path_next g h e y p =
    let i = y modules g.here in
    let j = p.says _ e in
    walks_next g h i (rw (i.builds, j.builds)) (omega (arith, i.small, p.small)) (rw (ltb_max, i.weighs, j.weighs))

pub module_planned : {steps : ℕ} {cost : Cost} {loaded : Bool} {tr at : Trie S.ModSymbol} (query path : Str)
    (tbl : Table)
    → StepsDown (module_step_records loaded) (module_step_weight loaded) tr (segments query) steps cost at []
    → tbl.tbl_mods ≡ tr
    → Planned tbl (module_path loaded query path) (record { cost = cost; deep = ltb 16 steps })
unfolding plan_records plan_crowded plan_weight plan_depth module_host
module_planned {steps = steps} {cost} query path tbl g e =
    let k : length (segments query) ≡ steps = omega (arith, g.number) in
    record {
      records = rw (e, along_builds g) (omega arith);
      crowded = rw (e, weighed_all g) (sym (or-false cost.crowded));
      deep = rw k;
    }
