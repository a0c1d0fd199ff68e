-- What is asked of a run, and what it gives, is the same of a run with the same path and limits.
use Prim.Native.Nat.{ℕ}
use mathlib.Core.Bool.{Bool}
use mathlib.Core.List.{List}
use native.Mathlib.Omega.{arith}
use lib.IntN.{ℤ}
use Rattle.source.specs.Text.{Str}
use Rattle.listing_output.specs.declared.run.Tally.{Tally}
use Rattle.listing_output.specs.declared.run.Run.{Run}
use Rattle.listing_line.specs.SameRun.{SamePath}
use Rattle.listing_ask.specs.declared.Ask.{Ask}
use Rattle.listing_line.proofs.Run.{path_ok_at, on_path_at}
use Rattle.listing_trie.specs.Runs.{RunReady, BranchReady, BranchRuns, ListReady, ListRuns}

module _ {ws txt : List ℕ} {ask : Ask} {rest : Str} {run run' : Run} (s : SamePath run run') where
  ready_at : RunReady ws txt ask rest run.path run.limits
      → RunReady ws txt ask rest run'.path run'.limits
  ready_at r = record { path_ok = path_ok_at s r.path_ok; ends = r.ends; short = r.short; small = rw s.limits_same r.small }

  pub branch_ready_at : {leaf : Bool} {branch label : ℕ}
      → BranchReady ws txt ask rest run.path run.limits leaf branch label
      → BranchReady ws txt ask rest run'.path run'.limits leaf branch label
  branch_ready_at r = record { ready = ready_at r.ready; branch_at = r.branch_at; label_at = r.label_at; room = λ z. omega (arith, s.count, r.room z) }

  pub list_ready_at : {leaf : Bool} {x : ℕ} → ListReady ws txt ask rest run.path run.limits leaf x
      → ListReady ws txt ask rest run'.path run'.limits leaf x
  list_ready_at r = record { ready = ready_at r.ready; list_at = r.list_at; room = λ z. omega (arith, s.count, r.room z) }

  module _ {m : ℤ} {a τ : Tally} {flat flat' out out' : List ℕ} {leaf : Bool} where
    pub branch_runs_at : {branch label : ℕ}
        → BranchRuns ws txt ask rest run'.path run'.limits m a τ flat flat' out out' leaf branch label
        → BranchRuns ws txt ask rest run.path run.limits m a τ flat flat' out out' leaf branch label
    branch_runs_at {branch} {label} b = rw s.limits_same at b'
      where
        b' : BranchRuns ws txt ask rest run.path run'.limits m a τ flat flat' out out' leaf branch label
        b' = record { goes = λ path x o n on. b.goes path x o n (on_path_at s on) }

    pub list_runs_at : {x : ℕ} {prefix : Str}
        → ListRuns ws txt ask rest run'.path run'.limits m a τ flat flat' out out' leaf x prefix
        → ListRuns ws txt ask rest run.path run.limits m a τ flat flat' out out' leaf x prefix
    list_runs_at {x} {prefix} b = rw s.limits_same at b'
      where
        b' : ListRuns ws txt ask rest run.path run'.limits m a τ flat flat' out out' leaf x prefix
        b' = record { goes = λ path term o n on. b.goes path term o n (on_path_at s on) }
