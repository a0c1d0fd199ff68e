-- The rows of a registration over a header.
use Rattle.std.specs.Prelude.{ℕ, ◌≡◌, true, false, List, length, Result, Ok, Err, ⊤}
use Rattle.std.proofs.Math.Option.{none, some}
use Rattle.source.specs.Text.{Str, segments, ends_in_dot}
use Rattle.source.specs.Calls.{Lent, malformed, first_row, registration_rows}
use Rattle.source.specs.Shared.{Allˡ}
use Rattle.source.specs.Queries.{IsQuery, Keeps}
use Rattle.refusals.specs.Refusals.{number}
use Rattle.refusals.specs.declared.Refusal.{Refusal}
use Rattle.memory_table.specs.Table.{state_of, Sound, root_at}
use Rattle.memory_table.specs.declared.Header.{Header}
use Rattle.register_kind.specs.Shapes.{shape_of, used_key, call_of, other_argument, key_argument}
use Rattle.register_kind.specs.declared.CallKind.{CallKind}
use Rattle.register_plan.specs.Plans.{Carries}
use Rattle.register_way.specs.Way.{which_by, WayDown}
use Rattle.register_way.specs.declared.Way.{Way}

-- What is lent with a table.
abbrev pub lent : (ws txt : List ℕ) → Lent
lent ws txt = record { words = length ws; text = length txt }

-- A key is given only where the kind uses it.
abbrev pub NoKey : CallKind → Str → Type 0
NoKey k key = used_key k key ≡ key

-- Texts that pass rows 2 to 4.
pub record Ready (k : CallKind) (host other key : Str) : Type 0 where
  pub host_ends : ends_in_dot host ≡ true
  pub host_keeps : IsQuery (segments host)
  pub other_fine : malformed (other_argument k other) ≡ false
  pub other_keeps : Keeps (other_argument k other)
  pub key_keeps : Allˡ Keeps (key_argument k key)

-- A registration that passes every row of a sound memory, with its way: the included trie, and the steps to the host.
pub record Passes (ws txt : List ℕ) (h : Header) (k : CallKind) (host other key : Str) (way : Way) : Type 0 where
  pub sound : Sound ws txt h
  pub no_key : NoKey k key
  pub rows : first_row (registration_rows true (lent ws txt) (state_of ws txt h) (call_of k host other key)) ≡ none
  pub carries : Carries (shape_of k).form ws txt h.names other way.included
  pub leads : WayDown ws txt (which_by (shape_of k).form) k other key way.steps
      (root_at (which_by (shape_of k).form) h) (segments host)

-- The answer of a check: that it passes, or the first row that it meets.
abbrev pub Checks : (ws txt : List ℕ) (h : Header) (k : CallKind) (host other key : Str) (way : Way) → Result ⊤ Refusal
    → Type 0
Checks ws txt h k host other key way (Ok x) = Passes ws txt h k host other key way
Checks ws txt h k host other key way (Err x) =
    first_row (registration_rows true (lent ws txt) (state_of ws txt h) (call_of k host other key)) ≡ some (number x)
