-- The change that a registration makes is the function for its call.
use Prim.Native.Nat.{ℕ, ◌+◌, ◌-◌, ◌≤◌}
use mathlib.Core.Path.{◌≡◌, refl, sym, ap, ◌∙◌}
use mathlib.Core.Bool.{true, false}
use mathlib.Core.List.{List}
use native.Mathlib.Omega.{arith}
use lib.ListN.{length, take, drop}
use lib.Seq.{take-take}
use Rattle.source.specs.Text.{Str, query_to_string, segments, ends_in_dot}
use Rattle.source.specs.Rules.{IsLabel}
use Rattle.source.specs.Table as S
use Rattle.source.specs.Table.{insert, register_alias, register_include, register_open, register_module_stays_loaded}
use Rattle.source.specs.Calls.{Call, registered, records, crowded, deep}
use Rattle.source.specs.Queries.{IsQuery}
use Rattle.source.proofs.Queries.{query_to_string_label, string_is}
use Rattle.refusals.proofs.Rows.{query_ends}
use Rattle.memory.specs.Layout.{span, Which, names, modules, trieˢ, kind, what}
use Rattle.memory_table.specs.Table.{table_of, Sound, root_at}
use Rattle.memory.specs.Sound.{LinkOk, TextOk}
use Rattle.memory.specs.Read.{text_of}
use Rattle.memory_table.specs.declared.Header.{Header}
use Rattle.memory.proofs.Seen.{link_later}
use Rattle.insert_record.specs.Made.{Room}
use Rattle.register_kind.specs.Shapes.{shape_of, call_of}
use Rattle.register_kind.specs.declared.CallKind.{CallKind}
use Rattle.register_kind.specs.declared.CallKind.TheVariants.{Name, Include, Open, Alias, Module}
use Rattle.register_plan.specs.Plans.{Carries}
use Rattle.register_way.specs.Way.{which_by}
use Rattle.register_leaf.specs.Leaves.{which_of, label_in, ChangeOk}
use Rattle.register_change.specs.Changes.{between, mutated, descent, Mutation}
use Rattle.register_leaf.specs.declared.Change.{Change}
use Rattle.register_change.proofs.QueryPlace.{place_first}
use Rattle.register_change.proofs.Registered.{Registers, name_registers, include_registers, alias_registers, open_registers, module_registers, registers_fits}
use Rattle.register.specs.Checks.{Ready}
use Rattle.register.specs.Writes.{Stand, with_text}

-- The change that a registration makes, where its texts stand from a place on.
abbrev pub change_at : CallKind → (inc at : ℕ) (host other key : Str) → Change
change_at k inc at host other key = record {
  kind = k;
  text = record { start = at + length host; len = length other };
  key = record { start = at + length host + length other; len = length key };
  inc = inc;
}

-- A label in the text is that of the included query.
module _ (txt : List ℕ) (at : ℕ) (s : Str) (e : span txt at (length s) ≡ s) (d : ends_in_dot s ≡ true) where
  pub label_is : text_of txt (label_in (record { start = at; len = length s })) ≡ query_to_string (segments s)
  unfolding span
  label_is = sym (take-take (length s - 1) (length s) (drop at txt) (omega arith)) ∙ ap (λ (xs : List ℕ). take (length s - 1) xs) e ∙ sym (string_is s d)

  pub label_right : {used : ℕ} → at + length s ≤ used → IsQuery (segments s) → TextOk IsLabel txt used at (length s - 1)
  label_right h q = record { inside = omega arith; keeps = rw label_is (query_to_string_label (segments s) q) }

-- A call leaves the other root.
abbrev pub Stays : Which → S.Table → Call → Type 0
Stays names tbl c = (registered tbl c).tbl_mods ≡ tbl.tbl_mods
Stays modules tbl c = (registered tbl c).tbl_lids ≡ tbl.tbl_lids

module _ {ws txt : List ℕ} (h : Header) {used : ℕ} (o : Sound ws txt (with_text h used)) where
  -- The change ch of the trie x asks for right texts and links, and is that of the call.
  pub record Right (at mid : ℕ) (c : Call) (ch : Change) (x : ℕ) : Type 0 where
    pub change : ChangeOk ws txt h.records used ch
    pub link : LinkOk ws (h.records + 1) x (kind (which_of ch) trieˢ)
    pub registers : Registers (table_of ws txt h) c (which_of ch)
        (mutated ws txt ch (what (which_of ch) ws txt x trieˢ) at at mid)
    pub stays : Stays (which_of ch) (table_of ws txt h) c

  module _ (at : ℕ) (host other key : Str) (p : Stand txt at host other key)
      (room : at + length host + length other + length key ≤ used) where
    pub host_is : between txt at (at + length host) ≡ segments host
    host_is = let z : at + length host - at ≡ length host = omega arith in rw (z, p.host_at)

    pub change_right : (k : CallKind) (inc : ℕ) → Ready k host other key
        → Carries (shape_of k).form ws txt h.names other inc
        → Right at (at + length host) (call_of k host other key) (change_at k inc at host other key)
        (root_at (which_by (shape_of k).form) h)
    unfolding registered insert register_alias register_include register_open register_module_stays_loaded
    change_right (Name k n) inc r i = record {
      change = record { sound = o.right; text = record { inside = omega arith; keeps = rw p.other_at r.other_keeps }; key = tt; inc = tt };
      link = o.names_link;
      registers = name_registers ws txt at _ _ host host_is (change_at (Name k n) inc at host other key) other (record { kind = k; number = n }) p.other_at;
      stays = refl;
    }
    change_right Include inc r i = record {
      change = record {
        sound = o.right;
        text = label_right txt _ other p.other_at (query_ends other r.other_fine) (omega arith) r.other_keeps;
        key = tt;
        inc = link_later (omega (arith, o.names_link.earlier)) i.link;
      };
      link = o.names_link;
      registers = include_registers ws txt at _ _ host host_is (change_at Include inc at host other key) other
          (label_is txt _ other p.other_at (query_ends other r.other_fine)) i.says;
      stays = refl;
    }
    change_right Open inc r i = record {
      change = record {
        sound = o.right;
        text = label_right txt _ other p.other_at (query_ends other r.other_fine) (omega arith) r.other_keeps;
        key = tt;
        inc = link_later (omega (arith, o.names_link.earlier)) i.link;
      };
      link = o.names_link;
      registers = open_registers ws txt at _ _ host host_is (change_at Open inc at host other key) other
          (label_is txt _ other p.other_at (query_ends other r.other_fine)) i.says;
      stays = refl;
    }
    change_right Alias inc r i = record {
      change = record {
        sound = o.right;
        text = label_right txt _ other p.other_at (query_ends other r.other_fine) (omega arith) r.other_keeps;
        key = record { inside = omega arith; keeps = rw p.key_at r.key_keeps.0 };
        inc = link_later (omega (arith, o.names_link.earlier)) i.link;
      };
      link = o.names_link;
      registers = alias_registers ws txt at _ _ host host_is (change_at Alias inc at host other key) other
          (label_is txt _ other p.other_at (query_ends other r.other_fine)) i.says key p.key_at;
      stays = refl;
    }
    change_right (Module loaded) inc r i = record {
      change = record { sound = o.right; text = record { inside = omega arith; keeps = rw p.other_at r.other_keeps }; key = tt; inc = tt };
      link = o.modules_link;
      registers = module_registers ws txt at _ _ host host_is (change_at (Module loaded) inc at host other key) loaded other p.other_at;
      stays = refl;
    }

    -- What trie_mutate asks.
    pub right_mutation : {c : Call} {ch : Change} {x : ℕ} → Right at (at + length host) c ch x → ends_in_dot host ≡ true
        → IsQuery (segments host)
        → crowded (registered (table_of ws txt h) c) ≡ false → deep (registered (table_of ws txt h) c) ≡ false
        → Room ws h.records (records (table_of ws txt h) c)
        → Mutation ws txt h.records used x at (descent at (at + length host) ch)
    right_mutation {ch = ch} r d q light shallow free = let z : at + length host - at ≡ length host = omega arith in record {
      change = r.change;
      link = r.link;
      place = place_first (omega arith) (omega arith) (rw (z, p.host_at) d) (rw host_is q);
      fits = registers_fits (which_of ch) r.registers light shallow free;
    }
