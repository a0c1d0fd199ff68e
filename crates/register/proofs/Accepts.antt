-- A registration that passes every row is written as the source has it.
use Prim.Native.Nat.{ℕ, ◌+◌, ◌-◌, ◌*◌, ◌≤◌}
use mathlib.Core.Path.{◌≡◌, refl, sym, ap, ◌∙◌}
use mathlib.Core.Bool.{true}
use mathlib.Core.List.{List, [], ◌∷◌, ◌++◌, append-nil}
use native.Mathlib.Omega.{arith}
use lib.ListN.{length}
use borrow.Author.Tests.{ltb-false}
use Rattle.source.specs.Text.{Str, Query, segments}
use Rattle.source.specs.Types.{Trie}
use Rattle.source.specs.Table as S
use Rattle.source.specs.Table.{ModSymbol}
use Rattle.source.specs.Counted.{Counted}
use Rattle.source.specs.Calls.{State, whole_records, free, Call, registered, records, arguments, text_taken, after}
use Rattle.source.proofs.Refusals.{Acceptable, registration_rows_none}
use Rattle.source.specs.declared.LidSymbol.{LidSymbol}
use Rattle.memory.specs.Layout.{Which, names, modules, Item, trieˢ, Reading, kind, what}
use Rattle.memory_table.specs.Table.{table_of, state_of, Sound, root_at}
use Rattle.memory.specs.Sound.{LinkOk, Used}
use Rattle.memory.proofs.Seen.{link_later}
use Rattle.memory.specs.Grown.{Keeps}
use Rattle.source.specs.Lent.{Outside}
use Rattle.memory_table.specs.declared.Header.{Header}
use Rattle.memory.proofs.Keeps.{what_keeps, used_text}
use Rattle.memory_table.proofs.Table.{table_keeps}
use Rattle.insert_record.specs.Made.{Room}
use Rattle.insert_record.proofs.Made.{made_what, made_link}
use Rattle.register_kind.specs.Shapes.{shape_of, call_of}
use Rattle.register_kind.specs.declared.CallKind.{CallKind}
use Rattle.register_kind.specs.declared.CallKind.TheVariants.{Name, Include, Open, Alias, Module}
use Rattle.register_kind.specs.declared.Form.{Form}
use Rattle.register_kind.specs.declared.Form.TheVariants as form
use Rattle.register_plan.specs.Plans.{Carries}
use Rattle.register_way.specs.Way.{which_by, WayDown}
use Rattle.register_way.specs.declared.Way.{Way}
use Rattle.register_way.specs.declared.Step.{Step}
use Rattle.register_leaf.specs.Leaves.{which_of, Builds}
use Rattle.register_change.specs.Changes.{mutated, descent, Mutation, TrieWay, Mutated}
use Rattle.register_leaf.specs.declared.Change.{Change}
use Rattle.register_change.proofs.Registered.{Registers}
use Rattle.register.specs.Checks.{lent, NoKey, Ready, Passes}
use Rattle.register.specs.Writes.{TextsLaid, with_root, with_text, laid_texts, untouched, Accepts}
use Rattle.register.proofs.TextsLaid.{stand_all}
use Rattle.register.proofs.Checks.{call_ready, taken_all}
use Rattle.register.proofs.Changes.{change_at, Stays, Right, host_is, change_right, right_mutation}

-- The text used after a call.
abbrev pub text_after : Header → (host other key : Str) → ℕ
text_after h host other key = h.text + length host + length other + length key

-- ---- A new root
-- The header h′ after a call, where the text is txt and used bytes of it are taken.
record Settled (ws ws' txt : List ℕ) (h h' : Header) (used : ℕ) (c : Call) : Type 0 where
  reads : state_of ws' txt h' ≡ record {
    table = registered (table_of ws txt h) c;
    records_used = h.records + records (table_of ws txt h) c;
    text_used = used;
  }
  sound : Sound ws' txt h'
  words : Outside (h.records * 12) (h'.records * 12) ws ws'
  text : h'.text ≡ used

state_is : {a : Trie LidSymbol} {b : Trie ModSymbol} {n m used : ℕ} (x : S.Table) → a ≡ x.tbl_lids → b ≡ x.tbl_mods
    → n ≡ m
    → ◌≡◌ {A = State} (record { table = record { tbl_lids = a; tbl_mods = b }; records_used = n; text_used = used })
    (record { table = x; records_used = m; text_used = used })
state_is x e f g = rw (e, f, g)

-- By the table that is changed: the other root stays.
settled : {ws ws' txt : List ℕ} (h : Header) {used : ℕ} (o : Sound ws txt (with_text h used)) {c : Call} {link n : ℕ}
    (w : Which) {m : Counted (Trie (Item w))}
    → Registers (table_of ws txt h) c w m → Stays w (table_of ws txt h) c
    → Builds ws ws' txt h.records used w trieˢ m link n
    → Settled ws ws' txt h (with_root w h link n used) used c
settled h o names r e b = record {
  reads =
      state_is _ (b.made.reads ∙ r.root)
      (ap (λ (f : Reading modules). f trieˢ) (made_what b.made modules (omega (arith, o.modules_link.earlier))) ∙ sym e)
      (b.number ∙ rw r.number);
  sound = record { right = b.made.sound; names_link = b.made.link; modules_link = made_link b.made (omega arith) o.modules_link };
  words = record { before = b.made.stays.same; after = b.made.beyond; size = b.made.stays.size };
  text = refl;
}
settled h o modules r e b = record {
  reads =
      state_is _
      (ap (λ (f : Reading names). f trieˢ) (made_what b.made names (omega (arith, o.names_link.earlier))) ∙ sym e)
      (b.made.reads ∙ r.root) (b.number ∙ rw r.number);
  sound = record { right = b.made.sound; names_link = made_link b.made (omega arith) o.names_link; modules_link = b.made.link };
  words = record { before = b.made.stays.same; after = b.made.beyond; size = b.made.stays.size };
  text = refl;
}

-- ---- Texts put
-- The included trie reads the same.
carries_keeps : {ws txt txt' : List ℕ} {h : Header} → Sound ws txt h → Keeps h.text txt txt'
    → (f : Form) (inc : ℕ) (s : Str)
    → Carries f ws txt h.names s inc → Carries f ws txt' h.names s inc
carries_keeps o y form.Name inc s r = r
carries_keeps {txt = txt} {txt'} o y form.Import inc s r = record {
  link = r.link;
  says = what_keeps o.right y names trieˢ (omega (arith, o.names_link.earlier)) r.link ∙ r.says
      ∙ rw (what_keeps o.right y names trieˢ (omega arith) o.names_link);
}
carries_keeps o y (form.Module loaded) inc s r = r

-- And so does the way.
way_keeps : {ws txt txt' : List ℕ} {n used : ℕ} → Used ws txt n used → Keeps used txt txt'
    → (w : Which) (k : CallKind) (other key : Str) (way : List Step) (x : ℕ) (q : Query)
    → LinkOk ws (n + 1) x (kind w trieˢ) → WayDown ws txt w k other key way x q → WayDown ws txt' w k other key way x q
way_keeps o y w k other key [] x q i z = z
way_keeps o y w k other key (step ∷ way) x [] i z = rw (what_keeps o y w trieˢ (omega arith) i) z
way_keeps {ws} {n = n} o y w k other key (step ∷ way) x (s ∷ q) i z =
    let j : LinkOk ws (n + 1) step.below (kind w trieˢ) = link_later (omega (arith, i.earlier)) z.0.next.link in
    let e = what_keeps o y w trieˢ (omega arith) i in (
      record {
        next = record { link = z.0.next.link; says = what_keeps o y w trieˢ (omega arith) j ∙ z.0.next.says ∙ rw e };
        builds = z.0.builds ∙ rw e;
      },
      way_keeps o y w k other key way step.below q j z.1,
    )

-- ---- What a call leaves, by its kind
laid_is : (k : CallKind) (host other key : Str) → NoKey k key
    → laid_texts (call_of k host other key) ≡ host ++ (other ++ key)
laid_is (Name k n) host other key e = rw (← e, append-nil)
laid_is Include host other key e = rw (← e, append-nil)
laid_is Open host other key e = rw (← e, append-nil)
laid_is Alias host other key e = refl
laid_is (Module loaded) host other key e = rw (← e, append-nil)

root_stays : (k : CallKind) (host other key : Str) (h : Header) (link n used : ℕ)
    → root_at (untouched (call_of k host other key)) (with_root (which_by (shape_of k).form) h link n used)
    ≡ root_at (untouched (call_of k host other key)) h
root_stays (Name k n) host other key h link m used = refl
root_stays Include host other key h link m used = refl
root_stays Open host other key h link m used = refl
root_stays Alias host other key h link m used = refl
root_stays (Module loaded) host other key h link m used = refl

-- ---- Whole
module _ {ws txt : List ℕ} {h : Header} {k : CallKind} {host other key : Str} {way : Way}
    (p : Passes ws txt h k host other key way) where
  passed : Acceptable true (lent ws txt) (state_of ws txt h) (call_of k host other key)
  passed = registration_rows_none true _ _ _ p.rows

  is_ready : Ready k host other key
  is_ready = call_ready k host other key passed.admitted

  -- The text that the call takes.
  taken : text_taken (arguments (call_of k host other key)) ≡ length host + length other + length key
  taken = taken_all k host other key p.no_key

  pub text_room : (h.text + length host + length other + length key ≤ length txt)
      × (h.text + length host + length other + length key ≤ 65536)
  unfolding free
  text_room =
      let f = ltb-false (free (length txt) h.text) (text_taken (arguments (call_of k host other key))) passed.text_fits in
      omega (arith, p.sound.right.short, p.sound.right.text_fits, taken)

  records_room : Room ws h.records (records (table_of ws txt h) (call_of k host other key))
  unfolding free whole_records
  records_room =
      let f = ltb-false (free (whole_records (length ws)) h.records) (records (table_of ws txt h) (call_of k host other key)) passed.records_fit in
      record {
        few = omega (arith, p.sound.right.few, p.sound.right.records_fit);
        fits = omega (arith, p.sound.right.few, p.sound.right.records_fit);
      }

  module _ {txt' : List ℕ} (l : TextsLaid txt txt' h.text host other key) where
    sound_after : Sound ws txt' (with_text h (text_after h host other key))
    sound_after = record {
      right = used_text p.sound.right l.keeps (omega arith) text_room.1 (omega (arith, text_room, l.keeps.size));
      names_link = p.sound.names_link;
      modules_link = p.sound.modules_link;
    }

    abbrev change : Change
    change = change_at k way.included h.text host other key

    right : Right h sound_after h.text (h.text + length host) (call_of k host other key) change
        (root_at (which_of change) h)
    right = change_right h sound_after h.text host other key l.stand (omega arith) k way.included is_ready
        (carries_keeps p.sound l.keeps (shape_of k).form way.included other p.carries)

    pub write_mutation : Mutation ws txt' h.records (text_after h host other key)
        (root_at (which_by (shape_of k).form) h) h.text
        (descent h.text (h.text + length host) (change_at k way.included h.text host other key))
    write_mutation =
        right_mutation h sound_after h.text host other key l.stand (omega arith) right is_ready.host_ends is_ready.host_keeps
        (rw (table_keeps p.sound l.keeps) passed.light) (rw (table_keeps p.sound l.keeps) passed.shallow)
        (rw (table_keeps p.sound l.keeps) records_room)

    pub write_way : TrieWay ws txt' (root_at (which_by (shape_of k).form) h) h.text
        (descent h.text (h.text + length host) (change_at k way.included h.text host other key))
        way.steps
    write_way = record {
      leads =
          rw (host_is h sound_after h.text host other key l.stand (omega arith), l.stand.other_at, l.stand.key_at)
          (way_keeps p.sound.right l.keeps (which_of change) k other key way.steps _ (segments host) right.link p.leads);
    }

    built_accepts : {ws' : List ℕ} {link m : ℕ}
        → Builds ws ws' txt' h.records (text_after h host other key) (which_of change) trieˢ
        (mutated ws txt' change (what (which_of change) ws txt' (root_at (which_of change) h) trieˢ) h.text h.text
        (h.text + length host)) link m
        → Accepts ws txt ws' txt' h (with_root (which_of change) h link m (text_after h host other key))
        (call_of k host other key) (after (state_of ws txt h) (call_of k host other key))
    unfolding after
    built_accepts b =
        let s = settled h sound_after (which_of change) right.registers right.stays b in
        let e : text_after h host other key ≡ h.text + (length host + length other + length key) = omega arith in
        let d : text_after h host other key - h.text ≡ length host + length other + length key = omega arith in
        record {
          reads = s.reads ∙ rw (table_keeps p.sound l.keeps, taken, e);
          sound = s.sound;
          other_root = root_stays k host other key h _ _ _;
          words = s.words;
          text = rw s.text (record { before = l.keeps.same; after = l.beyond; size = l.keeps.size });
          laid = rw (s.text, d) (stand_all l.stand ∙ sym (laid_is k host other key p.no_key));
        }

    pub write_accepts : {ws' : List ℕ} {x link m : ℕ} {r : Header} → x ≡ root_at (which_by (shape_of k).form) h
        → Mutated ws ws' txt' h.records x h.text
        (descent h.text (h.text + length host) (change_at k way.included h.text host other key)) link m
        → r ≡ with_root (which_by (shape_of k).form) h link m (text_after h host other key)
        → Accepts ws txt ws' txt' h r (call_of k host other key) (after (state_of ws txt h) (call_of k host other key))
    write_accepts e g f = rw f (built_accepts ((rw e at g) _ write_mutation))
