-- Demand 3 of the typed completion follows from its contract and from the theorem over the definitions.
use Prim.Native.Nat.{ℕ, ◌+◌, ◌≤◌}
use mathlib.Core.Path.{◌≡◌, refl, sym, ap, ap₂, ◌∙◌}
use mathlib.Core.Bool.{Bool, true, false}
use mathlib.Core.List.{List, [], ◌∷◌, ◌++◌, map, append_assoc, nil≢cons, head-eq_of_cons-eq, tail-eq_of_cons-eq}
use mathlib.Core.Option.{some, none-ne-some, some-injective}
use native.Mathlib.Omega.{arith}
use lib.ListN.{length, take, drop, length-take}
use lib.Seq.{take_at, drop_at, take-take}
use Rattle.source.specs.Text.{Str, segments}
use Rattle.source.specs.Table as S
use Rattle.source.specs.Table.{ModSymbol}
use Rattle.source.specs.Calls as C
use Rattle.source.specs.Calls.{LineRecord, look_up, first_row, argument_rows, completion_rows, completed, complete, complete_modules, output_text, output_lines}
use Rattle.promises.specs.Agreement.{Covers, NotRefused, without_last, lines_of_text, Shows, ListsNames, ListsModules}
use Rattle.source.proofs.Lookup.{Allˡ-map}
use Rattle.promises.proofs.Agreement.{agrees, agreement}
use Rattle.promises.proofs.LinesFound.{lines_found}
use Rattle.promises.proofs.Stable.{lid_told, mod_told, shows_stable, LinesAre, lines_stable, lines_each}
use Rattle.memory.proofs.Says.{either_way}
use Rattle.source.specs.declared.LidSymbol.{LidSymbol}
use Rattle.source.specs.declared.KindFilter.{KindFilter}
use Rattle.source.specs.declared.KindFilter.TheVariants.{Every}
use Rattle.source.specs.Shared.{Allˡ}
use Rattle.memory.specs.Layout.{Which, names, modules, Item, span}
use Rattle.memory.specs.Read.{symbol_of}
use Rattle.memory.specs.declared.Span.{Span}
use Rattle.memory.specs.declared.ModSymbol as M
use Rattle.memory.specs.declared.ModSymbol.TheVariants.{Module, Namespace}
use Rattle.memory.proofs.Keeps.{span_same}
use Rattle.memory.specs.Sound.{Says}
use Rattle.memory_table.specs.Table.{used_words, used_text}
use Rattle.memory_table.specs.declared.Header.{Header}
use Rattle.memory_table.proofs.Table.{sound_table}
use Rattle.listing_ask.specs.Ask.{asked, filter_in}
use Rattle.listing_ask.specs.declared.Ask.{Ask}
use Rattle.listing_ask.specs.declared.Ask.TheVariants.{Names, Modules}
use Rattle.listing_ask.specs.declared.Filter.{Filter}
use Rattle.listing_ask.specs.declared.Filter.TheVariants.{All}
use Rattle.listing_row.specs.Rows.{item_seen, SymbolInside, ItemInside}
use Rattle.listing_row.specs.declared.RowItem.{RowItem}
use Rattle.listing_row.specs.declared.RowItem.TheVariants.{Name, Symbol}
use Rattle.table.specs.Header.{IsSound, table_in}
use Rattle.listing.specs.Completes.{refused_by, CompletesAs}
use Rattle.table.specs.declared.Table.{Table}
use Rattle.table_typed.specs.Completions.{output, Shown, ShownAs}
use Rattle.table_typed.specs.Lines.{record_with, record_seen}
use Rattle.table_promises.specs.Agreement.{HoldsName, HoldsModule}
use Rattle.table_promises.specs.Typed.{LinesStand, HoldsTyped, TypedAgree, TypedFound}
use Rattle.table_typed.specs.declared.Line.{Line}
use Rattle.std.specs.Prelude.{Ok}
use Rattle.table_promises.proofs.Agreement.{listed_same}

-- ---- What stands in the line structs and in the output text says which lines they are

-- What two equal texts begin with, as long in both, and what follows.
halves_same : (s t x y : Str) → length s ≡ length t → s ++ x ≡ t ++ y → (s ≡ t) × (x ≡ y)
halves_same s t x y n e = (
  sym (take_at s x (length s) refl) ∙ ap (take (length s)) e ∙ take_at t y (length s) (sym n),
  sym (drop_at s x (length s) refl) ∙ ap (drop (length s)) e ∙ drop_at t y (length s) (sym n),
)

module _ {A : Type 0} where
  line_same : (ln ln' : S.Line A) → ln.match_length ≡ ln'.match_length → ln.item_of ≡ ln'.item_of
      → ln.candidate ≡ ln'.candidate → ln.annotation ≡ ln'.annotation → ln ≡ ln'
  line_same ln ln' m i c a =
      ap₂ (λ x y. record { match_length = x; item_of = y; candidate = ln.candidate; annotation = ln.annotation }) m i
      ∙ ap₂ (λ x y. record { match_length = ln'.match_length; item_of = ln'.item_of; candidate = x; annotation = y }) c a

  -- The lines' records have the lengths of their texts, by which the output text is cut.
  lines_same : (at at' : ℕ) (ls ls' : List (S.Line A)) (x x' : Str)
      → map some (output_lines at ls) ≡ map some (output_lines at' ls')
      → output_text ls ++ x ≡ output_text ls' ++ x' → ls ≡ ls'
  unfolding output_text output_lines
  lines_same at at' [] [] x x' e f = refl
  lines_same at at' [] (l' ∷ ls') x x' e f = absurd (nil≢cons e)
  lines_same at at' (l ∷ ls) [] x x' e f = absurd (nil≢cons (sym e))
  lines_same at at' (l ∷ ls) (l' ∷ ls') x x' e f =
      let r = some-injective _ _ (head-eq_of_cons-eq e) in
      let c = halves_same l.candidate l'.candidate _ _ (ap (λ (z : LineRecord A). z.candidate.len) r)
      (sym (append_assoc l.candidate _ x) ∙ f ∙ append_assoc l'.candidate _ x') in
      let a = halves_same l.annotation l'.annotation _ _ (ap (λ (z : LineRecord A). z.annotation.len) r)
      (sym (append_assoc l.annotation _ x) ∙ c.1 ∙ append_assoc l'.annotation _ x') in
      ap₂ ◌∷◌
      (line_same l l' (ap (λ (z : LineRecord A). z.match_length) r) (ap (λ (z : LineRecord A). z.item_of) r) c.0 a.0)
      (lines_same (at + length l.candidate + length l.annotation) (at' + length l'.candidate + length l'.annotation) ls ls' x x'
      (tail-eq_of_cons-eq e) a.1)

stand_same : {w : Which} {txt : List ℕ} {ls ls' : List Line} {out out' : List ℕ} {n : ℕ}
    (lines lines' : List (S.Line (Item w)))
    → LinesStand w txt ls ls' out out' n lines → LinesStand w txt ls ls' out out' n lines' → lines ≡ lines'
stand_same {w} {txt} {ls} {ls'} lines lines' h h' =
    lines_same 0 0 lines lines' _ _
    (sym h.shown.first ∙ ap (λ k. map (record_seen w txt) (take k ls')) (sym h.count ∙ h'.count) ∙ h'.shown.first)
    (sym h.texts.is ∙ h'.texts.is)

-- ---- What is shown in a part of the text is shown in the whole

module _ (w : Which) (txt : List ℕ) (k : ℕ) where
  span_whole : (x : Span) → x.start + x.len ≤ length (take k txt)
      → span (take k txt) x.start x.len ≡ span txt x.start x.len
  span_whole x h = span_same txt (take k txt) k (take-take k k txt (omega arith)) x.start x.len (omega (arith, length-take k txt))

  symbol_whole : (s : M.ModSymbol) → SymbolInside (length (take k txt)) s
      → (symbol_of (take k txt) s ≡ symbol_of txt s) × SymbolInside (length txt) s
  symbol_whole (Module x y loaded) h =
      (rw (span_whole x h.0, span_whole y h.1), (omega (arith, h.0, length-take k txt), omega (arith, h.1, length-take k txt)))
  symbol_whole (Namespace x loaded) h = (rw (span_whole x h), omega (arith, length-take k txt))

  item_whole : (v : Which) (i : RowItem) → ItemInside (length (take k txt)) i
      → (item_seen v (take k txt) i ≡ item_seen v txt i) × ItemInside (length txt) i
  item_whole names (Name n) h = (refl, tt)
  item_whole names (Symbol s) h = (refl, (symbol_whole s h).1)
  item_whole modules (Name n) h = (refl, tt)
  item_whole modules (Symbol s) h = (ap some (symbol_whole s h).0, (symbol_whole s h).1)

  lines_whole : (ls : List Line) → Allˡ (λ l. ItemInside (length (take k txt)) l.item) ls
      → (map (record_seen w (take k txt)) ls ≡ map (record_seen w txt) ls)
      × Allˡ (λ l. ItemInside (length txt) l.item) ls
  lines_whole [] a = (refl, tt)
  lines_whole (l ∷ ls) a =
      let i = item_whole w l.item a.0 in
      let rest = lines_whole ls a.1 in
      (ap₂ ◌∷◌ (ap (record_with l) i.0) rest.0, (i.1, rest.1))

  shown_whole : {ls ls' : List Line} {lines : List (S.Line (Item w))} → Shown w (take k txt) ls ls' lines
      → Shown w txt ls ls' lines
  shown_whole {ls' = ls'} {lines} s =
      let a = lines_whole (take (length lines) ls') s.inside in
      record { first = sym a.0 ∙ s.first; inside = a.1; after = s.after }

-- ---- Demand 3

-- A listing that was not refused.
listed_lines : (ask : Ask) (ws txt : List ℕ) (h : Header) (flat flat' out out' : List ℕ) (ls ls' : List Line)
    (n entered : ℕ) (o : C.Completed (Item (asked ask)))
    → CompletesAs ask (used_words ws h) (used_text txt h) flat flat' out out' (Ok (record { lines = n; entered = entered })) o
    → ShownAs ask (used_text txt h) ls ls' o
    → (lines : List (S.Line (Item (asked ask)))) × (o ≡ C.listed lines entered)
    × LinesStand (asked ask) txt ls ls' out out' n lines
listed_lines ask ws txt h flat flat' out out' ls ls' n entered (C.listed lines e) x s =
    let k : n ≡ length lines = (listed_same x.0).0 in
    let f : e ≡ entered = sym (listed_same x.0).1 in
    let z : 0 + length (output_text lines) ≡ length (output_text lines) = omega arith in
    (lines, rw f, record { count = k; shown = shown_whole (asked ask) txt h.text s; texts = rw z at x.1.out_laid })
listed_lines ask ws txt h flat flat' out out' ls ls' n entered (C.refused m) x s = absurd (none-ne-some m x.0)

module _ (ws txt : List ℕ) (tab : Table) (name query : Str) (cover : Covers (segments query) (segments name)) where
  names_agree : (a : C.Found LidSymbol) (lines : List (S.Line LidSymbol)) → HoldsName ws txt tab name a → NotRefused a
      → HoldsTyped ws txt tab (Names Every) query lines
      → (b : Bool) → Says b (IsSound ws txt tab) → Shows (lines_of_text (without_last name) lines) a
  unfolding look_up first_row argument_rows
  names_agree a lines f ok c false s = absurd (rw (sym f.is ∙ f.finds.says false s) at ok)
  names_agree a lines f ok c true s =
      let l = listed_lines (Names Every) ws txt tab.header c.flat c.flat' c.out c.out' c.ls c.ls' c.count c.entered _
      (rw c.listed at (c.completes.says true s)) (c.completes.shows true s) in
      rw (stand_same lines l.0 c.stand l.2)
      ((agreement.names (table_in ws txt tab) (sound_table s)).shows name query a l.0 (sym (f.finds.says true s) ∙ f.is) ok
      (c.budget, output (length c.ls) c.flat c.out, c.entered, l.1) cover)

  modules_agree : (a : C.Found ModSymbol) (lines : List (S.Line ModSymbol)) → HoldsModule ws txt tab name a
      → NotRefused a
      → HoldsTyped ws txt tab (Modules All) query lines
      → (b : Bool) → Says b (IsSound ws txt tab) → Shows (lines_of_text (without_last name) lines) a
  unfolding look_up first_row argument_rows
  modules_agree a lines f ok c false s = absurd (rw (sym f.is ∙ f.finds.says false s) at ok)
  modules_agree a lines f ok c true s =
      let l = listed_lines (Modules All) ws txt tab.header c.flat c.flat' c.out c.out' c.ls c.ls' c.count c.entered _
      (rw c.listed at (c.completes.says true s)) (c.completes.shows true s) in
      rw (stand_same lines l.0 c.stand l.2)
      ((agreement.modules (table_in ws txt tab) (sound_table s)).shows name query a l.0 (sym (f.finds.says true s) ∙ f.is) ok
      (c.budget, output (length c.ls) c.flat c.out, c.entered, l.1) cover)

-- Demand 3, of the typed completion: what the memory is need not be known.
pub typed_agree : TypedAgree
typed_agree = record {
  names = λ ws txt t. agrees (λ name query a lines f ok c cover. either_way (shows_stable lid_told _ a) (names_agree ws txt t name query cover a lines f ok c));
  modules =
      λ ws txt t. agrees (λ name query a lines f ok c cover. either_way (shows_stable mod_told _ a) (modules_agree ws txt t name query cover a lines f ok c));
}

-- ---- The other way round

module _ (ws txt : List ℕ) (tab : Table) (query : Str) where
  names_found : (f : KindFilter) (lines : List (S.Line LidSymbol)) → HoldsTyped ws txt tab (Names f) query lines
      → (b : Bool) → Says b (IsSound ws txt tab) → LinesAre (HoldsName ws txt tab) query lines
  unfolding complete completed completion_rows argument_rows first_row
  names_found f lines c false s =
      absurd (none-ne-some 1 (sym (ap refused_by c.listed) ∙ (c.completes.says false s).0))
  names_found f lines c true s =
      let l = listed_lines (Names f) ws txt tab.header c.flat c.flat' c.out c.out' c.ls c.ls' c.count c.entered _
      (rw c.listed at (c.completes.says true s)) (c.completes.shows true s) in
      let g = lines_found.names (table_in ws txt tab) (sound_table s) f in
      let k : ListsNames (table_in ws txt tab) f query l.0 = (c.budget, output (length c.ls) c.flat c.out, c.entered, l.1) in
      rw (stand_same lines l.0 c.stand l.2) (
        g.covered query l.0 k,
        Allˡ-map l.0 (λ x i a h. i a (sym (h.finds.says true s) ∙ h.is)) (g.found_item query l.0 k),
      )

  modules_found : (f : Filter) (lines : List (S.Line ModSymbol)) → HoldsTyped ws txt tab (Modules f) query lines
      → (b : Bool) → Says b (IsSound ws txt tab) → LinesAre (HoldsModule ws txt tab) query lines
  unfolding complete_modules completed completion_rows argument_rows first_row
  modules_found f lines c false s =
      absurd (none-ne-some 1 (sym (ap refused_by c.listed) ∙ (c.completes.says false s).0))
  modules_found f lines c true s =
      let l = listed_lines (Modules f) ws txt tab.header c.flat c.flat' c.out c.out' c.ls c.ls' c.count c.entered _
      (rw c.listed at (c.completes.says true s)) (c.completes.shows true s) in
      let g = lines_found.modules (table_in ws txt tab) (sound_table s) (filter_in f) in
      let k : ListsModules (table_in ws txt tab) (filter_in f) query l.0 = (c.budget, output (length c.ls) c.flat c.out, c.entered, l.1) in
      rw (stand_same lines l.0 c.stand l.2) (
        g.covered query l.0 k,
        Allˡ-map l.0 (λ x i a h. i a (sym (h.finds.says true s) ∙ h.is)) (g.found_item query l.0 k),
      )

-- Each line of a typed completion is what look-up finds: what the memory is need not be known.
pub typed_found : TypedFound
typed_found = record {
  names = λ ws txt t f. lines_each (HoldsName ws txt t) (λ query lines c.
      either_way (lines_stable (HoldsName ws txt t) lid_told query lines) (names_found ws txt t query f lines c));
  modules = λ ws txt t f. lines_each (HoldsModule ws txt t) (λ query lines c.
      either_way (lines_stable (HoldsModule ws txt t) mod_told query lines) (modules_found ws txt t query f lines c));
}
