-- Demand 3 of the exported calls follows from their contracts and from the theorem over the definitions.
use Prim.Native.Nat.{ℕ, zero, suc, ◌*◌, ◌<◌}
use mathlib.Core.Path.{◌≡◌, refl, sym, ap, ◌∙◌}
use mathlib.Core.Bool.{Bool, true, false}
use mathlib.Core.List.{List}
use mathlib.Core.Option.{some}
use native.Mathlib.Omega.{arith}
use Rattle.source.specs.Text.{Str, segments}
use Rattle.source.specs.Table as S
use Rattle.source.specs.Table.{Line}
use Rattle.source.specs.Calls as C
use Rattle.source.specs.Calls.{look_up, first_row, argument_rows, Output, completion_rows, completed, complete, complete_modules}
use Rattle.promises.specs.Agreement.{Covers, NotRefused, without_last, lines_of_text, Shows, full_name, ListsNames, ListsModules}
use Rattle.source.specs.declared.LidSymbol.{LidSymbol}
use Rattle.source.proofs.Lookup.{Allˡ-map}
use Rattle.promises.proofs.Agreement.{agrees, agreement}
use Rattle.promises.proofs.LinesFound.{lines_found}
use Rattle.promises.proofs.Stable.{lid_told, mod_told, shows_stable, LinesAre, lines_stable, lines_each}
use Rattle.source.proofs.Refusals.{look_up_refused, completed_refused}
use Rattle.source.specs.declared.KindFilter.{KindFilter}
use Rattle.source.specs.declared.KindFilter.TheVariants.{Every, Timers, Ports, Registers}
use Rattle.memory.specs.Layout.{names, modules, Item}
use Rattle.memory.specs.Sound.{Says}
use Rattle.memory.proofs.Says.{either_way}
use Rattle.memory_table.specs.Table.{used_words, used_text}
use Rattle.memory_table.specs.declared.Header.{Header}
use Rattle.memory_table.proofs.Table.{sound_table}
use Rattle.listing_ask.specs.Ask.{asked, filter_in}
use Rattle.listing_ask.specs.declared.Ask.{Ask}
use Rattle.listing_ask.specs.declared.Ask.TheVariants.{Names, Modules}
use Rattle.listing_ask.specs.declared.Filter.{Filter}
use Rattle.listing_ask.specs.declared.Filter.TheVariants.{All, Loaded, ModulesOnly, NamespacesOnly}
use Rattle.listing_row.specs.Rows.{lines_seen}
use Rattle.listing_row.proofs.Written.{written_seen}
use Rattle.listing.specs.Completes.{output}
use Rattle.table_roots.proofs.Written.{written_whole}
use Rattle.table.specs.Header.{table_in, names_in, modules_in}
use Rattle.screen_replies.specs.Filters.{names_for, modules_for}
use Rattle.screen_replies.specs.Replies.{name_reply}
use Rattle.screen_replies.specs.declared.CompleteReply.{CompleteReply}
use Rattle.screen_promises.proofs.Replies.{name_reply_is, name_reply_found, module_reply_is, module_reply_found}
use Rattle.screen_memory.specs.Memory.{header_in, words_in}
use Rattle.screen_calls.specs.Memory.{table_at, SoundBytes}
use Rattle.screen_calls.specs.Completions.{ListsAs, unasked}
use Rattle.screen_promises.specs.Agreement.{HoldsName, HoldsModule, HoldsLines, BytesAgree, BytesFound}

module _ (b : Bool) (tbl : S.Table) (budget : ℕ) (o : Output) (q : Str) {n : ℕ} where
  names_refused : (f : KindFilter) → complete b tbl f budget o q ≡ C.refused n → 0 < n
  unfolding complete
  names_refused f e = (completed_refused b budget o q _ _ e).0

  modules_refused : (f : C.Filter) → complete_modules b tbl f budget o q ≡ C.refused n → 0 < n
  unfolding complete_modules
  modules_refused f e = (completed_refused b budget o q _ _ e).0

-- ---- A listing that was not refused

listed_bytes : (ask : Ask) (ws txt : List ℕ) (h : Header) (ls ls' out out' : List ℕ) (r : CompleteReply)
    (o : C.Completed (Item (asked ask)))
    → ListsAs ask (used_words ws h) (used_text txt h) ls ls' out out' r o → r.answer ≡ 0
    → ((n : ℕ) → o ≡ C.refused n → 0 < n)
    → (lines : List (Line (Item (asked ask)))) × (entered : ℕ) × (o ≡ C.listed lines entered)
    × (lines_seen (asked ask) txt ls' out' r.lines ≡ lines)
listed_bytes ask ws txt h ls ls' out out' r (C.listed lines e) i z k = (
  lines,
  e,
  refl,
  rw (ap (λ (x : CompleteReply). x.lines) i.reply) (written_seen (written_whole ws txt (h.records * 12) h.text (asked ask) i.written)),
)
listed_bytes ask ws txt h ls ls' out out' r (C.refused n) i z k = absurd (omega (arith, k n refl, ap (λ (x : CompleteReply). x.answer) i.reply))

-- ---- Both roots

module _ (st bs txt : List ℕ) (name : Str) where
  abbrev ws : List ℕ
  ws = words_in bs

  abbrev tbl : S.Table
  tbl = table_in ws txt (table_at st)

  -- The answer that a caller holds is that of look-up.
  name_said : (a : C.Found LidSymbol) → HoldsName st bs txt name a → NotRefused a
      → (b : Bool) → Says b (SoundBytes st bs txt) → a ≡ look_up b (names_in ws txt (table_at st)) name
  name_said a f ok b s =
      name_reply_is a _ (sym f.is ∙ f.replies.says b s) ok (λ n. look_up_refused b (names_in ws txt (table_at st)) name)

  module_said : (a : C.Found S.ModSymbol) → HoldsModule st bs txt name a → NotRefused a
      → (b : Bool) → Says b (SoundBytes st bs txt) → a ≡ look_up b (modules_in ws txt (table_at st)) name
  module_said a f ok b s =
      let m = f.is in
      let o = f.replies.says b s in
      sym m.says ∙ module_reply_is txt m.found o.found (sym m.reply ∙ o.reply) (rw m.says ok)
      (λ n e. look_up_refused b (modules_in ws txt (table_at st)) name (sym o.says ∙ e)) ∙ o.says

  module _ (query : Str) (cover : Covers (segments query) (segments name)) where
    names_agree : (a : C.Found LidSymbol) (lines : List (Line LidSymbol)) → HoldsName st bs txt name a → NotRefused a
        → HoldsLines st bs txt names (names_for 0) query lines
        → (b : Bool) → Says b (SoundBytes st bs txt) → Shows (lines_of_text (without_last name) lines) a
    unfolding look_up first_row argument_rows names_for
    names_agree a lines f ok c false s = absurd (rw (name_said a f ok false s) at ok)
    names_agree a lines f ok c true s =
        let o = output c.flat c.out in
        let k =
        listed_bytes (Names Every) ws txt (header_in st) c.flat c.flat' c.out c.out' c.reply _ (c.replies.says true s) c.listed
        (λ n. names_refused true tbl c.budget o query Every) in
        rw (← c.read, k.3)
        ((agreement.names tbl (sound_table s.sound)).shows name query a k.0 (sym (name_said a f ok true s)) ok (c.budget, o, k.1, k.2) cover)

    modules_agree : (a : C.Found S.ModSymbol) (lines : List (Line S.ModSymbol)) → HoldsModule st bs txt name a
        → NotRefused a → HoldsLines st bs txt modules (modules_for 0) query lines
        → (b : Bool) → Says b (SoundBytes st bs txt) → Shows (lines_of_text (without_last name) lines) a
    unfolding look_up first_row argument_rows modules_for
    modules_agree a lines f ok c false s = absurd (rw (module_said a f ok false s) at ok)
    modules_agree a lines f ok c true s =
        let o = output c.flat c.out in
        let k =
        listed_bytes (Modules All) ws txt (header_in st) c.flat c.flat' c.out c.out' c.reply _ (c.replies.says true s) c.listed
        (λ n. modules_refused true tbl c.budget o query C.All) in
        rw (← c.read, k.3)
        ((agreement.modules tbl (sound_table s.sound)).shows name query a k.0 (sym (module_said a f ok true s)) ok (c.budget, o, k.1, k.2) cover)

-- Demand 3, of the exported calls: what the bytes are need not be known.
pub bytes_agree : BytesAgree
bytes_agree = record {
  names = λ st bs txt. agrees (λ name query a lines f ok c cover.
      either_way (shows_stable lid_told _ a) (names_agree st bs txt name query cover a lines f ok c));
  modules = λ st bs txt. agrees (λ name query a lines f ok c cover.
      either_way (shows_stable mod_told _ a) (modules_agree st bs txt name query cover a lines f ok c));
}

-- ---- The other way round

module _ (st bs txt : List ℕ) (name : Str) where
  -- Where look-up finds an item, so does the reply that a caller holds.
  name_found_said : (a : C.Found LidSymbol) → HoldsName st bs txt name a → Says true (SoundBytes st bs txt)
      → {x : LidSymbol}
      → look_up true (names_in (words_in bs) txt (table_at st)) name ≡ C.found x → a ≡ C.found x
  name_found_said a f s {x} e =
      name_said st bs txt name a f (name_reply_found a x (sym f.is ∙ f.replies.says true s ∙ ap name_reply e)) true s ∙ e

  module_found_said : (a : C.Found S.ModSymbol) → HoldsModule st bs txt name a → Says true (SoundBytes st bs txt)
      → {x : S.ModSymbol} → look_up true (modules_in (words_in bs) txt (table_at st)) name ≡ C.found x → a ≡ C.found x
  module_found_said a f s e =
      let m = f.is in
      let o = f.replies.says true s in
      module_said st bs txt name a f
      (rw (← m.says) (module_reply_found txt m.found o.found (sym m.reply ∙ o.reply) (o.says ∙ e))) true s ∙ e

unasked_some : (b : Bool) → unasked b ≡ 0 → ⊥
unasked_some true e = omega (arith, e)
unasked_some false e = omega (arith, e)

module _ (st bs txt : List ℕ) (query : Str) where
  abbrev lent_table : S.Table
  lent_table = table_in (words_in bs) txt (table_at st)

  names_found_of : (f : KindFilter) (lines : List (Line LidSymbol))
      → HoldsLines st bs txt names (some (Names f)) query lines
      → (b : Bool) → Says b (SoundBytes st bs txt) → LinesAre (HoldsName st bs txt) query lines
  unfolding complete completed completion_rows argument_rows first_row
  names_found_of f lines c false s =
      absurd (omega (arith, c.listed, ap (λ (x : CompleteReply). x.answer) (c.replies.says false s).reply))
  names_found_of f lines c true s =
      let o = output c.flat c.out in
      let k =
      listed_bytes (Names f) (words_in bs) txt (header_in st) c.flat c.flat' c.out c.out' c.reply _ (c.replies.says true s) c.listed
      (λ n. names_refused true lent_table c.budget o query f) in
      let g = lines_found.names lent_table (sound_table s.sound) f in
      let q : ListsNames lent_table f query k.0 = (c.budget, o, k.1, k.2) in
      rw (← c.read, k.3) (
        g.covered query k.0 q,
        Allˡ-map k.0 (λ l i a h. name_found_said st bs txt (full_name l) a h s (i _ refl)) (g.found_item query k.0 q),
      )

  modules_found_of : (f : Filter) (lines : List (Line S.ModSymbol))
      → HoldsLines st bs txt modules (some (Modules f)) query lines
      → (b : Bool) → Says b (SoundBytes st bs txt) → LinesAre (HoldsModule st bs txt) query lines
  unfolding complete_modules completed completion_rows argument_rows first_row
  modules_found_of f lines c false s =
      absurd (omega (arith, c.listed, ap (λ (x : CompleteReply). x.answer) (c.replies.says false s).reply))
  modules_found_of f lines c true s =
      let o = output c.flat c.out in
      let k =
      listed_bytes (Modules f) (words_in bs) txt (header_in st) c.flat c.flat' c.out c.out' c.reply _ (c.replies.says true s) c.listed
      (λ n. modules_refused true lent_table c.budget o query (filter_in f)) in
      let g = lines_found.modules lent_table (sound_table s.sound) (filter_in f) in
      let q : ListsModules lent_table (filter_in f) query k.0 = (c.budget, o, k.1, k.2) in
      rw (← c.read, k.3) (
        g.covered query k.0 q,
        Allˡ-map k.0 (λ l i a h. module_found_said st bs txt (full_name l) a h s (i _ refl)) (g.found_item query k.0 q),
      )

  names_found : (k : ℕ) (lines : List (Line LidSymbol)) → HoldsLines st bs txt names (names_for k) query lines
      → (b : Bool) → Says b (SoundBytes st bs txt) → LinesAre (HoldsName st bs txt) query lines
  unfolding names_for
  names_found zero lines c b s = names_found_of Every lines c b s
  names_found (suc zero) lines c b s = names_found_of Timers lines c b s
  names_found (suc (suc zero)) lines c b s = names_found_of Ports lines c b s
  names_found (suc (suc (suc zero))) lines c b s = names_found_of Registers lines c b s
  names_found (suc (suc (suc (suc n)))) lines c b s =
      absurd (unasked_some b (sym (ap (λ (x : CompleteReply). x.answer) (c.replies.says b s).reply) ∙ c.listed))

  modules_found : (k : ℕ) (lines : List (Line S.ModSymbol)) → HoldsLines st bs txt modules (modules_for k) query lines
      → (b : Bool) → Says b (SoundBytes st bs txt) → LinesAre (HoldsModule st bs txt) query lines
  unfolding modules_for
  modules_found zero lines c b s = modules_found_of All lines c b s
  modules_found (suc zero) lines c b s = modules_found_of Loaded lines c b s
  modules_found (suc (suc zero)) lines c b s = modules_found_of ModulesOnly lines c b s
  modules_found (suc (suc (suc zero))) lines c b s = modules_found_of NamespacesOnly lines c b s
  modules_found (suc (suc (suc (suc n)))) lines c b s =
      absurd (unasked_some b (sym (ap (λ (x : CompleteReply). x.answer) (c.replies.says b s).reply) ∙ c.listed))

-- Each line of an exported completion is what look-up replies: what the bytes are need not be known.
pub bytes_found : BytesFound
bytes_found = record {
  names = λ st bs txt k. lines_each (HoldsName st bs txt) (λ query lines c.
      either_way (lines_stable (HoldsName st bs txt) lid_told query lines) (names_found st bs txt query k lines c));
  modules = λ st bs txt k. lines_each (HoldsModule st bs txt) (λ query lines c.
      either_way (lines_stable (HoldsModule st bs txt) mod_told query lines) (modules_found st bs txt query k lines c));
}
