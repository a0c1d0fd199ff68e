-- A completion: a query that is refused, and the root that is asked.
use Prim.Native.Nat.{ℕ}
use mathlib.Core.Path.{◌≡◌, refl}
use mathlib.Core.Bool.{true}
use mathlib.Core.List.{List, [], ◌∷◌}
use mathlib.Core.Option.{some}
use Rattle.source.specs.Text.{Str}
use Rattle.source.specs.Calls.{a_completion, first_row, argument_rows, completion_rows, completed}
use Rattle.source.proofs.Refusals.{first_row_stops}
use Rattle.memory.specs.Layout.{trieˢ}
use Rattle.listing_ask.specs.Ask.{asked}
use Rattle.listing_ask.specs.declared.Ask.{Ask}
use Rattle.listing_ask.specs.declared.Ask.TheVariants.{Names, Modules}
use Rattle.listing_ask.specs.declared.Request.{Request}
use Rattle.listing.specs.Completes.{CompletesOn}
use Rattle.std.specs.Prelude.{Err}
use Rattle.refusals.specs.Refusals.{number}
use Rattle.refusals.specs.declared.Refusal.{Refusal}
use Rattle.table_roots.specs.Completions.{root_for}
use Rattle.memory_table.proofs.Table.{names_trie, modules_trie}
use Rattle.memory.specs.Sound.{At}
use Rattle.memory_table.specs.Table.{Sound}
use Rattle.memory_table.specs.declared.Header.{Header}

pub completes_refused : {ws txt : List ℕ} {request : Request} {root : ℕ} {query : Str} {flat out : List ℕ} {x : Refusal}
    → first_row (argument_rows true (a_completion query ∷ [])) ≡ some (number x)
    → CompletesOn ws txt request root query flat flat out out (Err x)
unfolding completed completion_rows
completes_refused {query = query} e =
    record {
      says = rw (completed, completion_rows, first_row_stops (argument_rows true (a_completion query ∷ [])) _ e)
          (refl, refl, refl);
    }

pub root_trie : {ws txt : List ℕ} {h : Header} → Sound ws txt h → (ask : Ask)
    → At ws txt (asked ask) trieˢ (root_for h ask)
root_trie o (Names f) = names_trie o
root_trie o (Modules f) = modules_trie o
