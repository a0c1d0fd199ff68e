-- A completion on a table.
use Prim.Native.Nat.{ℕ}
use mathlib.Core.Path.{◌≡◌, refl, ap, ◌∙◌, subst}
use mathlib.Core.Bool.{true, false}
use mathlib.Core.List.{List}
use Rattle.source.specs.Text.{Str, segments}
use Rattle.source.specs.Calls.{first_row, argument_rows, Output, completion_rows, completed, tries_entered, keeps_kind, keeps, complete, complete_modules}
use Rattle.source.proofs.Lines.{autocomplete_lid_is, autocomplete_mod_or_ns_is}
use Rattle.memory.specs.Layout.{trieˢ, what}
use Rattle.memory_table.specs.Table.{used_words, used_text}
use Rattle.memory_table.proofs.UsedPart.{used_part_table}
use Rattle.listing_ask.specs.Ask.{filter_in, asked}
use Rattle.listing_ask.specs.declared.Ask.{Ask}
use Rattle.listing_ask.specs.declared.Ask.TheVariants.{Names, Modules}
use Rattle.listing_ask.specs.declared.Request.{Request}
use Rattle.listing.specs.Completes.{output, lines_of, CompletesAs, CompletesOn}
use Rattle.table.specs.Header.{IsSound, table_in}
use Rattle.table_roots.specs.Completions.{root_for}
use Rattle.table.specs.Completions.{completion, Completes}
use Rattle.table.specs.declared.Table.{Table}
use Rattle.refusals.specs.declared.Refusal.TheVariants.{Unsound}
use Rattle.refusals.specs.declared.Refusal.{Refusal}
use Rattle.listing.specs.declared.Listed.{Listed}
use Rattle.std.specs.Prelude.{Result, Err}
use Rattle.table.proofs.Says.{says_same}

on_table : (ws txt : List ℕ) (tab : Table) (ask : Ask) (budget : ℕ) (out : Output) (query : Str)
    → completed true budget out query (lines_of ask (what (asked ask) ws txt (root_for tab.header ask) trieˢ)
    (segments query)) (tries_entered (what (asked ask) ws txt (root_for tab.header ask) trieˢ) (segments query))
    ≡ completion true (table_in ws txt tab) ask budget out query
unfolding complete complete_modules
on_table ws txt tab (Names f) budget out query = rw (autocomplete_lid_is (table_in ws txt tab) (segments query) (keeps_kind f))
on_table ws txt tab (Modules f) budget out query = rw (autocomplete_mod_or_ns_is (table_in ws txt tab) (segments query) (keeps (filter_in f)))

pub completes_table : {ws txt : List ℕ} {tab : Table} {request : Request} {query : Str} {flat flat' out out' : List ℕ}
    {r : Result Listed Refusal} → IsSound ws txt tab
    → CompletesOn (used_words ws tab.header) (used_text txt tab.header) request
    (root_for tab.header request.ask)
    query flat flat' out out' r
    → Completes ws txt tab request query flat flat' out out' (record { table = tab; answer = r })
completes_table {ws} {txt} {tab} {request} {query} {flat} {flat'} {out} {out'} {r} o c =
    let ws' : List ℕ = used_words ws tab.header in
    let txt' : List ℕ = used_text txt tab.header in
    record {
      table = refl;
      says = λ b h. rw (says_same _ b true h o)
          (subst (CompletesAs request.ask ws' txt' flat flat' out out' r)
          (on_table ws' txt' tab request.ask request.budget (output flat out) query
          ∙ ap (λ tbl. completion true tbl request.ask request.budget (output flat out) query)
          (used_part_table o)) c.says);
    }

-- A memory that is not sound is refused, whatever is asked.
pub completes_unsound : {ws txt : List ℕ} {tab : Table} {request : Request} {query : Str} {flat out : List ℕ}
    → (IsSound ws txt tab → ⊥)
    → Completes ws txt tab request query flat flat out out (record { table = tab; answer = Err Unsound })
unfolding complete complete_modules completed completion_rows first_row argument_rows
completes_unsound {ws} {txt} {tab} {request} {query} {flat} {out} o = record { table = refl; says = λ b h. rw (says_same _ b false h o) (go request.ask) }
  where
    go : (ask : Ask)
        → CompletesAs ask (used_words ws tab.header) (used_text txt tab.header) flat flat out out
        (Err Unsound)
        (completion false (table_in ws txt tab) ask request.budget (output flat out) query)
    go (Names f) = (refl, refl, refl)
    go (Modules f) = (refl, refl, refl)
