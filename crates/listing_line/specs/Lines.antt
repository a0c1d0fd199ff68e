-- What one line of a listing says.
use Rattle.std.specs.Prelude.{ℕ, ◌≡◌, List, ◌∷◌, reverse}
use Rattle.std.proofs.Math.Option.{Option}
use Rattle.source.specs.Text.{Str}
use Rattle.source.specs.Types.{Value, bind}
use Rattle.source.specs.Trees.{PathElem}
use Rattle.source.specs.Listing.{PathOf}
use Rattle.source.specs.Table.{Line, match_length_of_path}
use Rattle.source.specs.Forward.{line}
use Rattle.memory.specs.Layout.{Item}
use Rattle.find_list.specs.Entries.{shown, outer}
use Rattle.listing_ask.specs.Ask.{asked, line_for}
use Rattle.listing_output.specs.Path.{BranchAt}
use Rattle.listing_line.specs.OnPath.{LabelAt, PathOk, OnPath}
use Rattle.listing_line.specs.Goes.{Result, Goes}
use Rattle.listing_output.specs.Run.{Small, Told}
use Rattle.listing_output.specs.declared.run.Run.{Run}
use Rattle.listing_line.specs.SameRun.{SamePath}
use Rattle.listing_output.specs.declared.Want.{Want}
use Rattle.listing_annotation.specs.declared.Labelled.{Labelled}

-- Lines alone.
abbrev pub only : {A : Type 0} → List (Line A) → Result A
only ls = record { lines = ls; entered = 0 }

-- The path, a found branch of bindings and its label are there, the limits are small, and the match length is one.
pub record CanList (ws txt : List ℕ) (want : Want) (f : Labelled) (run : Run) : Type 0 where
  pub path_ok : PathOk ws txt (asked want.ask) run.path
  pub branch_at : BranchAt ws txt (asked want.ask) bind f.link
  pub label_at : LabelAt ws txt (asked want.ask) bind f.label
  pub small : Small run.limits
  pub told : Told want.matched

-- The run went on by what is asked of a found element of bindings, where the branch and the label show it and it ends a path.
pub record Listed (ws txt : List ℕ) (want : Want) (f : Labelled) (run run' : Run)
    (flat flat' out out' : List ℕ) : Type 0 where
  pub same : SamePath run run'
  pub goes : (path : PathOf) (x : PathElem × Value (Item (asked want.ask)) bind) (q : Option Str)
      → OnPath ws txt run.path path
      → outer x ≡ shown (asked want.ask) ws txt bind q (record { branch = f.link; label = f.label })
      → match_length_of_path (reverse (x.0 ∷ path)) ≡ want.matched
      → Goes (asked want.ask) ws txt run.limits run.tally run'.tally flat flat' out out'
      (only (line_for want.ask (line path x)))
