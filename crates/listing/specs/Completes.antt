-- What a completion on a root hands back and writes.
use Rattle.std.specs.Prelude.{ℕ, suc, ◌/◌, min, ◌≡◌, true, List, [], length, Result, Ok, Err}
use Rattle.std.proofs.Math.Option.{Option, none, some}
use Rattle.source.specs.Text.{Str, Query, segments}
use Rattle.source.specs.Types.{Trie}
use Rattle.source.specs.Terms.{depth}
use Rattle.source.specs.Table.{Line}
use Rattle.source.specs.Calls as C
use Rattle.source.specs.Calls.{Output, completed, tries_entered}
use Rattle.source.specs.Forward.{made}
use Rattle.memory.specs.Layout.{Item, trieˢ, what}
use Rattle.listing_ask.specs.Ask.{asked, line_for}
use Rattle.listing_output.specs.Output.{line_bytes, Written}
use Rattle.listing_ask.specs.declared.Ask.{Ask}
use Rattle.listing_ask.specs.declared.Request.{Request}
use Rattle.refusals.specs.Refusals.{number}
use Rattle.refusals.specs.declared.Refusal.{Refusal}
use Rattle.listing.specs.declared.Listed.{Listed}

-- The output lent: 48 bytes to a line; lines and bytes past those that 32 bits count are not lent.
abbrev pub output : (flat out : List ℕ) → Output
output flat out = record { lines = min (length flat / line_bytes) 4294967295; text = min (length out) 4294967295 }

-- The lines that a completion lists.
abbrev pub lines_of : (a : Ask) → Trie (Item (asked a)) → Query → List (Line (Item (asked a)))
lines_of a tr q = made (line_for a) (suc (depth tr)) tr [] q

-- The number of a refusal, none of a listing.
abbrev pub refused_by : Result Listed Refusal → Option ℕ
refused_by (Ok l) = none
refused_by (Err r) = some (number r)

-- Listed: so many lines, so many tries entered, and the lines are written from the start of what is lent. Refused: nothing has changed.
abbrev pub CompletesAs : (ask : Ask) (ws txt flat flat' out out' : List ℕ) (r : Result Listed Refusal)
    → C.Completed (Item (asked ask)) → Type 0
CompletesAs ask ws txt flat flat' out out' r (C.listed lines entered) =
    (r ≡ Ok (record { lines = length lines; entered = entered }))
    × Written (asked ask) ws txt flat flat' out out' 0 0 lines
CompletesAs ask ws txt flat flat' out out' r (C.refused n) = (refused_by r ≡ some n) × (flat' ≡ flat) × (out' ≡ out)

-- A completion on a root of a sound memory.
pub record CompletesOn (ws txt : List ℕ) (request : Request) (root : ℕ) (query : Str) (flat flat' out out' : List ℕ)
    (r : Result Listed Refusal) : Type 0 where
  pub says :
      let ask : Ask = request.ask in
      let tr : Trie (Item (asked ask)) = what (asked ask) ws txt root trieˢ in
      CompletesAs ask ws txt flat flat' out out' r
      (completed true request.budget (output flat out) query (lines_of ask tr (segments query))
      (tries_entered tr (segments query)))
