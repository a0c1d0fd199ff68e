-- The run that a completion begins with.
use Rattle.std.specs.Prelude.{replicate}
use Rattle.listing_output.specs.declared.run.Path.{Path}
use Rattle.listing_output.specs.declared.run.Tally.{Tally}
use Rattle.listing_output.specs.declared.run.Limits.{Limits}
use Rattle.listing_output.specs.declared.run.Run.{Run}

-- An empty path.
abbrev pub root_path : Path
root_path = record { links = replicate 16 0; n = 0; len = 0; label = 0 }

-- Nothing taken.
abbrev pub nothing_yet : Tally
nothing_yet = record { entered = 0; lines = 0; bytes = 0 }

-- A run at the root: an empty path, nothing taken, and what may be taken.
abbrev pub start_run : Limits → Run
start_run lim = record { path = root_path; tally = nothing_yet; limits = lim }
