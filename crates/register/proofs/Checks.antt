-- The rows of a registration: what its texts keep, and rows 5 to 8 by its plan.
use Prim.Native.Nat.{ℕ, ◌+◌, ◌≤◌}
use mathlib.Core.Path.{◌≡◌, refl, ◌∙◌}
use mathlib.Core.Bool.{Bool, true, false, cond, ◌||◌}
use mathlib.Core.List.{List, [], ◌∷◌}
use mathlib.Core.Option.{none, some}
use native.Mathlib.Omega.{arith}
use lib.ListN.{length}
use Rattle.source.specs.Text.{Str}
use Rattle.source.specs.Rules.{SoundTable}
use Rattle.source.specs.Calls.{a_query, a_name, any, malformed, first_row, argument_rows, State, Lent, Call, arguments, text_taken, registration_rows}
use Rattle.source.specs.Shared.{Allˡ}
use Rattle.source.specs.Queries.{Keeps}
use Rattle.source.proofs.Queries.{or_parts, query_bound}
use Rattle.source.proofs.Keeps.{keeps_parts, admitted_keeps}
use Rattle.source.proofs.Refusals.{any_append, first_row_stops, first_row_past, Admitted}
use Rattle.source.proofs.PlannedDepth.{deep_planned}
use Rattle.source.proofs.PlannedWeight.{crowded_planned}
use Rattle.source.proofs.PlannedRecords.{records_planned}
use Rattle.refusals.specs.Rows.{capacity_rows}
use Rattle.refusals.proofs.Rows.{query_ends}
use Rattle.register_kind.specs.Shapes.{shape_of, call_of, argument_as, other_argument, key_argument}
use Rattle.register_kind.specs.declared.CallKind.{CallKind}
use Rattle.register_kind.specs.declared.Form.{Form}
use Rattle.register_kind.specs.declared.Form.TheVariants as form
use Rattle.register_kind.proofs.Shapes.{arguments_of, taken_is}
use Rattle.memory.specs.Layout.{Which, names, modules}
use Rattle.memory_table.specs.Table.{root_at, table_of}
use Rattle.memory_table.specs.declared.Header.{Header}
use Rattle.register_way.specs.Way.{which_by}
use Rattle.register_plan.specs.Plans.{Planned, RootReads, Carries}
use Rattle.register_plan.specs.declared.Plan.{Plan}
use Rattle.register.specs.Checks.{NoKey, Ready}

-- ---- Texts
pub call_ready : (k : CallKind) (host other key : Str) → Admitted true (arguments (call_of k host other key))
    → Ready k host other key
unfolding any
call_ready k host other key a =
    let m = or_parts (any malformed (key_argument k key)) _ (rw (arguments_of k host other key, any_append) at a.well_formed) in
    let h = or_parts (malformed (a_query host)) (malformed (other_argument k other) || false) m.1 in
    let t = keeps_parts (key_argument k key) _ (rw (arguments_of k host other key) at (admitted_keeps true _ a)) in
    record {
      host_ends = query_ends host h.0;
      host_keeps = t.1.0;
      other_fine = (or_parts (malformed (other_argument k other)) false h.1).0;
      other_keeps = t.1.1.0;
      key_keeps = t.0;
    }

other_bound : (f : Form) (s : Str) → malformed (argument_as f s) ≡ false → Keeps (argument_as f s) → length s ≤ 544
other_bound form.Name s e k = omega (arith, k.short)
other_bound form.Import s e k = query_bound s (query_ends s e) k
other_bound (form.Module loaded) s e k = omega (arith, k.short)

key_bound : (b : Bool) (s : Str) → cond b s [] ≡ s → Allˡ Keeps (cond b (a_name s ∷ []) []) → length s ≤ 31
key_bound true s e k = k.0.short
key_bound false s e k = rw (← e) (omega arith)

pub record Short (host other key : Str) : Type 0 where
  pub host_short : length host ≤ 544
  pub other_short : length other ≤ 544
  pub key_short : length key ≤ 31

pub ready_short : (k : CallKind) (host other key : Str) → Ready k host other key → NoKey k key → Short host other key
ready_short k host other key r n = record {
  host_short = query_bound host r.host_ends r.host_keeps;
  other_short = other_bound (shape_of k).form other r.other_fine r.other_keeps;
  key_short = key_bound (shape_of k).keyed key n r.key_keeps;
}

-- The text that a call takes.
pub taken_all : (k : CallKind) (host other key : Str) → NoKey k key
    → text_taken (arguments (call_of k host other key)) ≡ length host + length other + length key
taken_all k host other key n = taken_is k host other key ∙ rw n

-- ---- The root

module _ (ws txt : List ℕ) (h : Header) where
  -- Only a form that changes the names includes a trie.
  pub carries_root : (f : Form) (other : Str) (r : ℕ) → Carries f ws txt h.names other r
      → Carries f ws txt (root_at (which_by f) h) other r
  carries_root form.Name other r c = c
  carries_root form.Import other r c = c
  carries_root (form.Module loaded) other r c = c

  pub root_reads : (w : Which) → RootReads w ws txt (root_at w h) (table_of ws txt h)
  root_reads names = refl
  root_reads modules = refl

-- ---- Rows
module _ (lent : Lent) (σ : State) (c : Call) where
  pub rows_refused : {n : ℕ} → first_row (argument_rows true (arguments c)) ≡ some n
      → first_row (registration_rows true lent σ c) ≡ some n
  unfolding registration_rows
  rows_refused e = first_row_stops (argument_rows true (arguments c)) _ e

  pub rows_planned : {p : Plan} {taken : ℕ} → SoundTable σ.table → Planned σ.table c p
      → taken ≡ text_taken (arguments c) → first_row (argument_rows true (arguments c)) ≡ none
      → first_row (registration_rows true lent σ c) ≡ first_row (capacity_rows
      (record { crowded = p.cost.crowded; deep = p.deep; records = p.cost.records; text = taken })
      (record { words = lent.words; records = σ.records_used; text = lent.text; used = σ.text_used }))
  unfolding registration_rows
  rows_planned o p e f =
      first_row_past (argument_rows true (arguments c)) _ f
      ∙ rw (crowded_planned σ.table c o, deep_planned σ.table c o, records_planned σ.table c, e, p.records, p.crowded, p.deep)
