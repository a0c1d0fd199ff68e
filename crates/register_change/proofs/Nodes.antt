-- mut_node of each change: what its writers ask, and what they build.
use Rattle.std.specs.Prelude.{Option}
use Rattle.std.specs.Option.{unwrap_or}
use Prim.Native.Nat.{ℕ, ◌+◌, ◌-◌, ◌≤◌, ◌<◌}
use mathlib.Core.Path.{◌≡◌, refl, ◌∙◌}
use mathlib.Core.Bool.{Bool, true, false, cond, ◌&&◌, ◌||◌}
use mathlib.Core.List.{List, [], ◌∷◌}
use native.Mathlib.Omega.{arith}
use lib.Dec.{eqb}
use lib.ListN.{length, take, drop}
use borrow.Author.Tests.{eqb-true, eqb-false}
use Rattle.source.specs.Text.{Str, Query, segments, ends_in_dot}
use Rattle.source.specs.Types.{Value, NameList, bind, item}
use Rattle.source.specs.Tries.{names_find_exact}
use Rattle.source.specs.Rules.{IsKey, IsFullName, IsPath}
use Rattle.source.specs.Table.{name_of_revq, ns_inserts, loaded_module}
use Rattle.source.specs.Table as S
use Rattle.source.specs.Terms.{heaviest, depth}
use Rattle.source.specs.Counted.{Counted, pure, one, ◌>>=◌, names_insertᶜ, ins_nsᶜ, ins_modᶜ, ins_stays_loadedᶜ}
use Rattle.source.specs.Calls.{is_empty}
use Rattle.source.proofs.Counted.{names_insert_value}
use Rattle.text.proofs.Texts.{part_is}
use Rattle.memory.specs.Layout.{span, modules, item_of, list, trieˢ, kind_in, kind, what}
use Rattle.memory.specs.Stored.{depth_in}
use Rattle.memory.specs.Read.{ReadTrie}
use Rattle.memory.specs.declared.Trie as M
use Rattle.memory.specs.Sound.{TextOk, SymbolOk, At}
use Rattle.memory.specs.declared.Span.{Span}
use Rattle.register_kind.specs.declared.Form.{Form}
use Rattle.register_kind.specs.declared.Form.TheVariants as form
use Rattle.register_kind.specs.Shapes.{shape_of}
use Rattle.register_leaf.specs.declared.Change.{Change}
use Rattle.register_change.specs.declared.Descent.{Descent}
use Rattle.find_list.specs.Names.{NamesPlaced}
use Rattle.insert_record.specs.Made.{Room, MadeTrie}
use Rattle.insert_list.specs.Insert.{NamesInsertion, AnyNamesInsertion, NamesInserts}
use Rattle.insert_record.proofs.Made.{made_none}
use Rattle.insert_list.proofs.NamesInsertion.{insertion_after}
use Rattle.find_trie.specs.Tries.{NsInserts, LoadedModule}
use Rattle.register_leaf.specs.Leaves.{which_of, Some, Builds}
use Rattle.register_change.specs.Changes.{between, passed, of_modules, Kinds, bindings_by, node_of, symbol_row, form_of, bindings_at, node_at, Bindings}
use Rattle.register_change.specs.Changes.{Node, BindingsBuilt}
use Rattle.find_trie.proofs.Found.{some_left}
use Rattle.memory.proofs.Pasted.{span_length}
use Rattle.register_change.proofs.QueryPlace.{place_next, key_in, full_name_is, full_name_in}
use Rattle.memory.proofs.Tries.{Lists, lists_in}
use Rattle.register_leaf.proofs.Builds.{builds_none, builds_insert, insert_light, insert_count, bindings_ready, bindings_built}
use Rattle.register_leaf.proofs.Leaves.{less_room}

-- ---- kinds
module _ (ch : Change) where
  pub kinds_name : (shape_of ch.kind).form ≡ form.Name → Kinds ch 0
  kinds_name e = rw e (omega arith, λ s. omega arith)

  pub kinds_import : (shape_of ch.kind).form ≡ form.Import → Kinds ch 0
  kinds_import e = rw e (omega arith, λ s. omega arith)

  pub kinds_module : {loaded : Bool} → (shape_of ch.kind).form ≡ form.Module loaded → Kinds ch of_modules
  kinds_module e = rw e (omega arith, λ s. refl)

-- ---- ins
pub placed_part : {ws txt : List ℕ} {x count wt : ℕ} {holder : Option ℕ} (start m : ℕ)
    → NamesPlaced ws txt x (take (start + m - start) (drop start txt)) holder count wt
    → NamesPlaced ws txt x (span txt start m) holder count wt
unfolding span
placed_part {txt = txt} start m z = rw (part_is txt start m) at z

last_in : (s : Str) → ends_in_dot s ≡ true → (last : Bool) → (last ≡ true → length s ≡ 0)
    → (last ≡ false → 0 < length s) → last ≡ is_empty (segments s)
unfolding is_empty segments
last_in [] e true h g = refl
last_in (b ∷ s) e true h g = absurd (omega (arith, h refl))
last_in [] e false h g = absurd (omega (arith, g refl))
last_in (b ∷ s) e false h g = some_is (segments (b ∷ s)) (some_left (b ∷ s) e (omega arith))
  where
    some_is : (q : Query) → 0 < length q → false ≡ is_empty q
    some_is [] h = absurd (omega arith)
    some_is (g ∷ q) h = refl

-- ins-stays-loaded, by whether it inserts.
ins_is : (p id : Str) (q revq : Query) (b : NameList S.ModSymbol bind) (last loaded inserts m : Bool)
    → last ≡ is_empty q → inserts ≡ ns_inserts (names_find_exact b id) loaded
    → m ≡ loaded_module (names_find_exact b id)
    → ins_stays_loadedᶜ p id q revq b loaded
    ≡ cond (last || inserts) (names_insertᶜ b id
    (item (cond last (S.Module (name_of_revq (id ∷ revq)) p (last && m || loaded))
    (S.Namespace (name_of_revq (id ∷ revq)) (last && m || loaded))))) (pure b)
unfolding is_empty ins_stays_loadedᶜ ins_modᶜ ins_nsᶜ
ins_is p id [] revq b last loaded inserts m e f g = rw (e, g)
ins_is p id (s ∷ q) revq b last loaded inserts m e f g = rw (e, f) (go (ns_inserts (names_find_exact b id) loaded))
  where
    new : Counted (NameList S.ModSymbol bind)
    new = names_insertᶜ b id (item (S.Namespace (name_of_revq (id ∷ revq)) loaded))

    go : (test : Bool)
        → (elim test as (λ _. Counted (NameList S.ModSymbol bind)) [ true ↦ new | false ↦ pure b ])
        ≡ cond test new (pure b)
    go true = refl
    go false = refl

-- The row of a module or of a namespace.
module _ {txt : List ℕ} {used from at len : ℕ} {path : Span} (name : TextOk IsFullName txt used from (at + len - from))
    (file : TextOk IsPath txt used path.start path.len) where
  symbol_ok : (last loaded : Bool) → SymbolOk txt used (symbol_row last at len from loaded path)
  symbol_ok last loaded = record { sort = sort_bit last; name = name; path = of_path last; loaded = bit loaded }
    where
      bit : (b : Bool) → cond b 1 0 ≤ 1
      bit true = omega arith
      bit false = omega arith

      sort_bit : (b : Bool) → cond b 0 1 ≤ 1
      sort_bit true = omega arith
      sort_bit false = omega arith

      of_path : (b : Bool) → ◌≡◌ {A = ℕ} (cond b 0 1) 0
          → TextOk IsPath txt used (cond b path.start 0) (cond b path.len 0)
      of_path true e = file
      of_path false e = absurd (omega arith)

symbol_reads : (txt : List ℕ) (at len from : ℕ) (path : Span) (last loaded : Bool)
    → item_of modules txt (symbol_row last at len from loaded path)
    ≡ cond last (S.Module (span txt from (at + len - from)) (span txt path.start path.len) loaded)
    (S.Namespace (span txt from (at + len - from)) loaded)
symbol_reads txt at len from path true true = refl
symbol_reads txt at len from path true false = refl
symbol_reads txt at len from path false true = refl
symbol_reads txt at len from path false false = refl

module _ {ws txt : List ℕ} {n used x at len : ℕ} {d : Descent} {loaded : Bool}
    (i : Bindings ws txt n used x at len d (form.Module loaded)) where
  pub ins_list : At ws txt modules (list bind) x
  ins_list = record { records = n; used = used; sound = i.sound; link = i.link }

  pub ins_key : TextOk IsKey txt used at len
  ins_key = key_in i.place i.cut

  module _ {count wt : ℕ} {holder : Option ℕ} {b : Bool} (z : NamesPlaced ws txt x (span txt at len) holder count wt)
      (f : NsInserts ws (unwrap_or holder 0) loaded b) where
    abbrev ins_last : Bool
    ins_last = eqb (at + len + 1) d.end

    ins_last_is : ins_last ≡ is_empty (between txt (at + len + 1) d.end)
    ins_last_is =
        let pl = place_next i.place i.cut in
        let h = span_length txt (at + len + 1) (d.end - (at + len + 1)) (omega (arith, pl.inside, pl.within, i.sound.text_fits)) in
        last_in (span txt (at + len + 1) (d.end - (at + len + 1))) pl.ends ins_last (λ e. omega (arith, h, eqb-true (at + len + 1) d.end e))
        (λ e. omega (arith, h, pl.inside, eqb-false (at + len + 1) d.end e))

    -- The row that is put, where m says whether the holder is a loaded Module.
    abbrev ins_row : Bool → List ℕ
    ins_row m = symbol_row ins_last at len d.from (ins_last && m || loaded) d.change.text

    ins_of : (m : Bool) → m ≡ loaded_module (names_find_exact (what modules ws txt x (list bind)) (span txt at len))
        → bindings_at txt at len d (form.Module loaded) (what modules ws txt x (list bind))
        ≡ cond (ins_last || b)
        (names_insertᶜ (what modules ws txt x (list bind)) (span txt at len) (item (item_of modules txt (ins_row m))))
        (pure (what modules ws txt x (list bind)))
    unfolding bindings_by
    ins_of m k =
        ins_is (span txt d.change.text.start d.change.text.len) (span txt at len) (between txt (at + len + 1) d.end) (passed txt d.from at)
        (what modules ws txt x (list bind)) ins_last loaded b m ins_last_is
        (rw (z.found modules bind ins_list).says (f.says txt)) k
        ∙ rw (symbol_reads txt at len d.from d.change.text ins_last (ins_last && m || loaded), full_name_is i.place i.cut i.sound.text_fits)

    module _ (g : ins_last || b ≡ true) {m : Bool} (l : LoadedModule ws (unwrap_or holder 0) m) where
      ins_is_row : bindings_at txt at len d (form.Module loaded) (what modules ws txt x (list bind))
          ≡ names_insertᶜ (what modules ws txt x (list bind)) (span txt at len) (item (item_of modules txt (ins_row m)))
      ins_is_row = ins_of m (rw (z.found modules bind ins_list).says (l.says txt)) ∙ rw g

      ins_insertion : NamesInsertion ws txt modules bind n used x count (ins_row m)
      ins_insertion =
          let v : Value S.ModSymbol bind = item (item_of modules txt (ins_row m)) in
          insertion_after (made_none (list bind) i.sound i.link) ins_list (omega (arith, i.link.earlier)) (ins_row m)
          (z.inserts modules bind ins_list).builds
          v (insert_light (what modules ws txt x (list bind)) (span txt at len) v (rw (← names_insert_value) (rw ins_is_row at i.light)))
          (rw (ins_is_row, insert_count (what modules ws txt x (list bind)) (span txt at len) v (z.inserts modules bind ins_list).builds) at i.room)
          (record {
            known = refl;
            key = ins_key;
            holds = symbol_ok (full_name_in i.place i.cut i.sound.text_fits) i.text_ok ins_last (ins_last && m || loaded);
          })

      ins_built : {ws' : List ℕ} {y : ℕ} → y ≡ n + count + 1 → NamesInserts ws ws' txt n x count (ins_row m) y
          → Builds ws ws' txt n used modules (list bind)
          (bindings_at txt at len d (form.Module loaded) (what modules ws txt x (list bind))) y y
      ins_built e m = rw ins_is_row (builds_insert ins_insertion m e)

      -- As the code has the row.
      pub ins_any : {r : List ℕ} → r ≡ ins_row m → AnyNamesInsertion ws txt n x count r
      ins_any e = rw e (record { which = modules; level = bind; used = used; insertion = ins_insertion })

      pub ins_made : {ws' : List ℕ} {y : ℕ} {r : List ℕ} → r ≡ ins_row m → y ≡ n + count + 1
          → NamesInserts ws ws' txt n x count r y
          → Builds ws ws' txt n used modules (list bind)
          (bindings_at txt at len d (form.Module loaded) (what modules ws txt x (list bind))) y y
      ins_made e f m = ins_built f (rw e at m)

    pub ins_none : ins_last || b ≡ false
        → Builds ws ws txt n used modules (list bind)
        (bindings_at txt at len d (form.Module loaded) (what modules ws txt x (list bind))) x n
    ins_none g = rw (ins_of _ refl, g) (builds_none (list bind) i.sound i.link)

-- ---- the bindings of each form
module _ {ws txt : List ℕ} {n x at len : ℕ} {d : Descent} {f : Form} where
  pub keeps_name : f ≡ form.Name → BindingsBuilt ws ws txt n x at len d f x n
  unfolding bindings_by
  keeps_name e = rw e (λ used i. builds_none (list bind) i.sound i.link)

  pub keeps_import : f ≡ form.Import → BindingsBuilt ws ws txt n x at len d f x n
  unfolding bindings_by
  keeps_import e = rw e (λ used i. builds_none (list bind) i.sound i.link)

  module _ {g : Form} (e : f ≡ g) where
    pub bindings_as : Some (λ used. Bindings ws txt n used x at len d f)
        → Some (λ used. Bindings ws txt n used x at len d g)
    bindings_as i = rw e at i

    pub bindings_to : {ws' : List ℕ} {link n' : ℕ} → BindingsBuilt ws ws' txt n x at len d g link n'
        → BindingsBuilt ws ws' txt n x at len d f link n'
    bindings_to b = rw e b

-- ---- mut_node
module _ {ws txt : List ℕ} {n used x y at len : ℕ} {d : Descent} {p : M.Trie} (i : Node ws txt n used x y at len d)
    (q : ReadTrie ws x p) where
  node_lists : Lists ws txt n (which_of d.change) x p
  node_lists = lists_in i.change.sound i.link q

  pub node_bindings : Bindings ws txt n used p.bindings at len d (form_of d)
  unfolding node_of ◌>>=◌ one heaviest
  node_bindings = record {
    sound = i.change.sound;
    text_ok = i.change.text;
    link = node_lists.b_link;
    place = i.place;
    cut = i.cut;
    room = rw node_lists.b_reads (less_room i.fits.room (omega arith));
    light = rw node_lists.b_reads (omega (arith, i.fits.light));
  }

  module _ {ws₁ : List ℕ} {b n₁ : ℕ} (B : BindingsBuilt ws ws₁ txt n p.bindings at len d (form_of d) b n₁) where
    pub node_ready : Room ws₁ n₁ 1 × ((y ≤ n₁) × (depth_in ws₁ y ≤ 16))
    unfolding node_of ◌>>=◌ one depth
    node_ready = bindings_ready (B used node_bindings) i.list_link (rw node_lists.b_reads i.fits.room) i.fits.shallow

    pub node_built : {ws₂ : List ℕ} {k r : ℕ} → Kinds d.change k → r ≡ n₁ + 1
        → MadeTrie ws₁ ws₂ n₁ (k + kind_in trieˢ) b y r
        → Builds ws ws₂ txt n used (which_of d.change) trieˢ
        (node_at ws txt x y at len d) r r
    unfolding node_of
    node_built {k = k} h e m =
        let f : k + kind_in trieˢ ≡ kind (which_of d.change) trieˢ = omega (arith, h.1 trieˢ) in
        rw (← node_lists.b_reads) (bindings_built (B used node_bindings) i.list_link f e m)
