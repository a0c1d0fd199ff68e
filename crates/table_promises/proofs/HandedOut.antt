-- What was handed out reads the same after a registration: `HandedOut`, by the contracts of the calls.
use Prim.Native.Nat.{ℕ, ◌≤◌, ◌+◌}
use mathlib.Core.Path.{◌≡◌, refl, sym, ◌∙◌}
use mathlib.Core.Bool.{true}
use mathlib.Core.List.{List}
use native.Mathlib.Omega.{arith}
use lib.ListN.{length, length-take}
use Rattle.source.specs.Calls as C
use Rattle.source.specs.Calls.{Call, register}
use Rattle.memory.specs.Layout.{Item}
use Rattle.memory.proofs.Keeps.{span_same}
use Rattle.memory.specs.declared.ModSymbol.TheVariants.{Module, Namespace}
use Rattle.memory_table.specs.Table.{used_words, used_text}
use Rattle.memory_table.specs.declared.Header.{Header}
use Rattle.listing.specs.Completes.{output, CompletesAs}
use Rattle.listing_row.specs.Rows.{lines_seen}
use Rattle.listing_ask.specs.Ask.{asked}
use Rattle.listing_ask.specs.declared.Ask.{Ask}
use Rattle.table_roots.specs.Answers.{module_found, FoundInside}
use Rattle.table.specs.Header.{table_in, state, lent}
use Rattle.table.specs.Completions.{completion}
use Rattle.table.specs.Registrations.{AnswersAs}
use Rattle.table.specs.declared.Table.{Table}
use Rattle.table_promises.specs.HandedOut.{HandedOut}
use Rattle.table_promises.proofs.Agreement.{listed_lines}
use Rattle.memory.specs.declared.ModSymbol.{ModSymbol}
use Rattle.refusals.specs.declared.Refusal.{Refusal}
use Rattle.table.specs.declared.Answer.{Answer}
use Rattle.std.specs.Prelude.{Err, None, Ok, Option, Result, Some}

module _ (ws txt txt' : List ℕ) (tab : Table) where
  used_after : (ws' : List ℕ) (c : Call) (r : Answer Unit) (o : C.Registered) → AnswersAs o ws txt ws' txt' tab c r
      → used_text txt' tab.header ≡ used_text txt tab.header
  used_after ws' c r (C.accepted σ) a = a.1.text.before
  used_after ws' c r (C.refused n) a = rw a.1.text

  module _ (e : used_text txt' tab.header ≡ used_text txt tab.header) where
    part : (start n : ℕ) → start + n ≤ length (used_text txt tab.header) → start + n ≤ tab.header.text
    part start n h = omega (arith, length-take tab.header.text txt)

    found_after : (a : Result (Option ModSymbol) Refusal) → FoundInside (length (used_text txt tab.header)) a
        → module_found txt' a ≡ module_found txt a
    found_after (Ok (Some (Module name path loaded))) i =
        rw (
          span_same txt txt' tab.header.text e name.start name.len (part _ _ i.0),
          span_same txt txt' tab.header.text e path.start path.len (part _ _ i.1),
        )
    found_after (Ok (Some (Namespace name loaded))) i =
        rw (span_same txt txt' tab.header.text e name.start name.len (part _ _ i))
    found_after (Ok None) i = refl
    found_after (Err x) i = refl

  listed_after : (ask : Ask) (h : Header) (flat flat' out out' : List ℕ) (n entered : ℕ)
      (o : C.Completed (Item (asked ask)))
      → CompletesAs ask (used_words ws h) (used_text txt h) flat flat' out out' (Ok (record { lines = n; entered = entered })) o
      → used_text txt' h ≡ used_text txt h
      → lines_seen (asked ask) txt' flat' out' n ≡ lines_seen (asked ask) txt flat' out' n
  listed_after ask h flat flat' out out' n entered o x e =
      let here = listed_lines ask ws txt h flat flat' out out' n entered o x in
      let there = listed_lines ask ws txt' h flat flat' out out' n entered o (rw e x) in
      let z : there.0 ≡ here.0 = cc in
      there.2 ∙ z ∙ sym here.2

pub handed_out : (ws txt txt' : List ℕ) (tab : Table) → HandedOut ws txt txt' tab
handed_out ws txt txt' tab = record {
  after = λ b ws' c r a. used_after ws txt txt' tab ws' c r (register b (lent ws txt) (state ws txt tab) c) a.says;
  found = λ e name reply f. found_after ws txt txt' tab e reply.answer f.inside;
  listed = λ e s ask query lines c.
      listed_after ws txt txt' tab ask tab.header c.flat c.flat' c.out c.out' c.count c.entered
      (completion true (table_in ws txt tab) ask c.budget (output c.flat c.out) query)
      (rw c.listed at (c.completes.says true s)) e
      ∙ c.read;
}
