-- Demand 3 of the calls follows from their contracts and from the theorem over the definitions.
use Prim.Native.Nat.{ℕ, ◌*◌}
use mathlib.Core.Path.{◌≡◌, sym, ap, ◌∙◌}
use mathlib.Core.Bool.{Bool, true, false}
use mathlib.Core.List.{List}
use mathlib.Core.Option.{none-ne-some}
use lib.ListN.{length}
use Rattle.source.specs.Text.{Str, segments}
use Rattle.source.specs.Table.{ModSymbol, Line}
use Rattle.source.specs.Calls as C
use Rattle.source.specs.Calls.{look_up, argument_rows, first_row, completion_rows, completed, complete, complete_modules}
use Rattle.promises.specs.Agreement.{Covers, NotRefused, without_last, lines_of_text, Shows, ListsNames, ListsModules}
use Rattle.source.proofs.Lookup.{Allˡ-map}
use Rattle.promises.proofs.Agreement.{agrees, agreement}
use Rattle.promises.proofs.LinesFound.{lines_found}
use Rattle.promises.proofs.Stable.{lid_told, mod_told, shows_stable, LinesAre, lines_stable, lines_each}
use Rattle.memory.proofs.Says.{either_way}
use Rattle.source.specs.declared.LidSymbol.{LidSymbol}
use Rattle.source.specs.declared.KindFilter.{KindFilter}
use Rattle.source.specs.declared.KindFilter.TheVariants.{Every}
use Rattle.memory.specs.Layout.{names, modules, Item}
use Rattle.memory.specs.Sound.{Says}
use Rattle.memory_table.specs.Table.{used_words, used_text}
use Rattle.memory_table.specs.declared.Header.{Header}
use Rattle.memory_table.proofs.Table.{sound_table}
use Rattle.listing_ask.specs.Ask.{asked, filter_in}
use Rattle.listing_ask.specs.declared.Ask.{Ask}
use Rattle.listing_ask.specs.declared.Ask.TheVariants.{Names, Modules}
use Rattle.listing_ask.specs.declared.Filter.{Filter}
use Rattle.listing_ask.specs.declared.Filter.TheVariants.{All}
use Rattle.listing_row.specs.Rows.{lines_seen}
use Rattle.listing_row.proofs.Written.{written_seen}
use Rattle.listing.specs.Completes.{output, refused_by, CompletesAs}
use Rattle.table_roots.proofs.Written.{written_whole}
use Rattle.table.specs.Header.{IsSound, table_in}
use Rattle.table_promises.specs.Agreement.{HoldsName, HoldsModule, HoldsLines, CallsAgree, CallsFound}
use Rattle.table.specs.declared.Table.{Table}
use Rattle.std.specs.Prelude.{Ok, Err, Result}
use Rattle.refusals.specs.declared.Refusal.{Refusal}
use Rattle.listing.specs.declared.Listed.{Listed}

-- What a listing says, of two answers that are one.
abbrev lines_of : Result Listed Refusal → ℕ
lines_of (Ok listed) = listed.lines
lines_of (Err r) = 0

abbrev entered_of : Result Listed Refusal → ℕ
entered_of (Ok listed) = listed.entered
entered_of (Err r) = 0

pub listed_same : {n m e f : ℕ}
    → ◌≡◌ {A = Result Listed Refusal} (Ok (record { lines = n; entered = e })) (Ok (record { lines = m; entered = f }))
    → (n ≡ m) × (e ≡ f)
listed_same e = (ap lines_of e, ap entered_of e)

-- A listing that was not refused.
pub listed_lines : (ask : Ask) (ws txt : List ℕ) (h : Header) (flat flat' out out' : List ℕ) (n entered : ℕ)
    (o : C.Completed (Item (asked ask)))
    → CompletesAs ask (used_words ws h) (used_text txt h) flat flat' out out' (Ok (record { lines = n; entered = entered })) o
    → (lines : List (Line (Item (asked ask)))) × (o ≡ C.listed lines entered)
    × (lines_seen (asked ask) txt flat' out' n ≡ lines)
listed_lines ask ws txt h flat flat' out out' n entered (C.listed lines e) x =
    let k : n ≡ length lines = (listed_same x.0).0 in
    let f : e ≡ entered = sym (listed_same x.0).1 in
    (lines, rw f, rw k (written_seen (written_whole ws txt (h.records * 12) h.text (asked ask) x.1)))
listed_lines ask ws txt h flat flat' out out' n entered (C.refused m) x = absurd (none-ne-some m x.0)

module _ (ws txt : List ℕ) (tab : Table) (name query : Str) (cover : Covers (segments query) (segments name)) where
  names_agree : (a : C.Found LidSymbol) (lines : List (Line LidSymbol)) → HoldsName ws txt tab name a → NotRefused a
      → HoldsLines ws txt tab (Names Every) query lines
      → (b : Bool) → Says b (IsSound ws txt tab) → Shows (lines_of_text (without_last name) lines) a
  unfolding look_up first_row argument_rows
  names_agree a lines f ok c false s = absurd (rw (sym f.is ∙ f.finds.says false s) at ok)
  names_agree a lines f ok c true s =
      let l =
      listed_lines (Names Every) ws txt tab.header c.flat c.flat' c.out c.out' c.count c.entered _
      (rw c.listed at (c.completes.says true s)) in
      rw (← c.read, l.2)
      ((agreement.names (table_in ws txt tab) (sound_table s)).shows name query a l.0 (sym (f.finds.says true s) ∙ f.is) ok
      (c.budget, output c.flat c.out, c.entered, l.1) cover)

  modules_agree : (a : C.Found ModSymbol) (lines : List (Line ModSymbol)) → HoldsModule ws txt tab name a → NotRefused a
      → HoldsLines ws txt tab (Modules All) query lines
      → (b : Bool) → Says b (IsSound ws txt tab) → Shows (lines_of_text (without_last name) lines) a
  unfolding look_up first_row argument_rows
  modules_agree a lines f ok c false s = absurd (rw (sym f.is ∙ f.finds.says false s) at ok)
  modules_agree a lines f ok c true s =
      let l =
      listed_lines (Modules All) ws txt tab.header c.flat c.flat' c.out c.out' c.count c.entered _
      (rw c.listed at (c.completes.says true s)) in
      rw (← c.read, l.2)
      ((agreement.modules (table_in ws txt tab) (sound_table s)).shows name query a l.0 (sym (f.finds.says true s) ∙ f.is) ok
      (c.budget, output c.flat c.out, c.entered, l.1) cover)

-- Demand 3, of the calls: what the memory is need not be known.
pub calls_agree : CallsAgree
calls_agree = record {
  names = λ ws txt t. agrees (λ name query a lines f ok c cover. either_way (shows_stable lid_told _ a) (names_agree ws txt t name query cover a lines f ok c));
  modules =
      λ ws txt t. agrees (λ name query a lines f ok c cover. either_way (shows_stable mod_told _ a) (modules_agree ws txt t name query cover a lines f ok c));
}

-- ---- The other way round

module _ (ws txt : List ℕ) (tab : Table) (query : Str) where
  names_found : (f : KindFilter) (lines : List (Line LidSymbol)) → HoldsLines ws txt tab (Names f) query lines
      → (b : Bool) → Says b (IsSound ws txt tab) → LinesAre (HoldsName ws txt tab) query lines
  unfolding complete completed completion_rows argument_rows first_row
  names_found f lines c false s =
      absurd (none-ne-some 1 (sym (ap refused_by c.listed) ∙ (c.completes.says false s).0))
  names_found f lines c true s =
      let l =
      listed_lines (Names f) ws txt tab.header c.flat c.flat' c.out c.out' c.count c.entered _
      (rw c.listed at (c.completes.says true s)) in
      let g = lines_found.names (table_in ws txt tab) (sound_table s) f in
      let k : ListsNames (table_in ws txt tab) f query l.0 = (c.budget, output c.flat c.out, c.entered, l.1) in
      rw (← c.read, l.2) (
        g.covered query l.0 k,
        Allˡ-map l.0 (λ x i a h. i a (sym (h.finds.says true s) ∙ h.is)) (g.found_item query l.0 k),
      )

  modules_found : (f : Filter) (lines : List (Line ModSymbol)) → HoldsLines ws txt tab (Modules f) query lines
      → (b : Bool) → Says b (IsSound ws txt tab) → LinesAre (HoldsModule ws txt tab) query lines
  unfolding complete_modules completed completion_rows argument_rows first_row
  modules_found f lines c false s =
      absurd (none-ne-some 1 (sym (ap refused_by c.listed) ∙ (c.completes.says false s).0))
  modules_found f lines c true s =
      let l =
      listed_lines (Modules f) ws txt tab.header c.flat c.flat' c.out c.out' c.count c.entered _
      (rw c.listed at (c.completes.says true s)) in
      let g = lines_found.modules (table_in ws txt tab) (sound_table s) (filter_in f) in
      let k : ListsModules (table_in ws txt tab) (filter_in f) query l.0 = (c.budget, output c.flat c.out, c.entered, l.1) in
      rw (← c.read, l.2) (
        g.covered query l.0 k,
        Allˡ-map l.0 (λ x i a h. i a (sym (h.finds.says true s) ∙ h.is)) (g.found_item query l.0 k),
      )

-- Each line that a call left is what look-up finds: what the memory is need not be known.
pub calls_found : CallsFound
calls_found = record {
  names = λ ws txt t f. lines_each (HoldsName ws txt t) (λ query lines c.
      either_way (lines_stable (HoldsName ws txt t) lid_told query lines) (names_found ws txt t query f lines c));
  modules = λ ws txt t f. lines_each (HoldsModule ws txt t) (λ query lines c.
      either_way (lines_stable (HoldsModule ws txt t) mod_told query lines) (modules_found ws txt t query f lines c));
}
