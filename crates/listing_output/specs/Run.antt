-- A line to list, and the word of its match length.
use Rattle.std.specs.Prelude.{ℕ, ◌≤◌, ◌≡◌, ℤ, pos, negsuc}
use Rattle.source.specs.Calls.{signed_word}
use Rattle.listing_output.specs.declared.run.Path.{Path}
use Rattle.listing_output.specs.declared.run.Tally.{Tally}
use Rattle.listing_output.specs.declared.run.Limits.{Limits}
use Rattle.listing_output.specs.declared.run.Run.{Run}

-- Limits that 32 bits hold.
pub record Small (lim : Limits) : Type 0 where
  pub budget_small : lim.budget ≤ 4294967295
  pub lines_small : lim.lines ≤ 4294967295
  pub bytes_small : lim.bytes ≤ 4294967295

-- The word that a line has for a match length: 4294967295 for -1.
abbrev pub length_word : ℤ → ℕ
length_word (pos m) = m
length_word (negsuc k) = 4294967295

-- A match length that its word tells: -1, or one that 32 bits hold.
abbrev pub Told : ℤ → Type 0
Told m = signed_word (length_word m) ≡ m

-- A line to list: its path and branch, the word of what matched, what the completion may take and what it has taken.
pub record Job : Type 0 where
  pub path : Path
  pub branch : ℕ
  pub matched : ℕ
  pub lim : Limits
  pub tally : Tally

abbrev pub job_in : ℕ → ℤ → Run → Job
job_in branch m run =
    record { path = run.path; branch = branch; matched = length_word m; lim = run.limits; tally = run.tally }
