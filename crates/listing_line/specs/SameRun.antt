-- A run that keeps its path and its limits.
use Rattle.std.specs.Prelude.{ℕ, ◌<◌, ◌≡◌, get_or}
use Rattle.listing_output.specs.declared.run.Run.{Run}

-- The path and the limits are as they were.
pub record SamePath (run run' : Run) : Type 0 where
  pub links : (j : ℕ) → j < run.path.n → get_or run'.path.links j 0 ≡ get_or run.path.links j 0
  pub count : run'.path.n ≡ run.path.n
  pub len_is : run'.path.len ≡ run.path.len
  pub label_is : run'.path.label ≡ run.path.label
  pub limits_same : run'.limits ≡ run.limits
