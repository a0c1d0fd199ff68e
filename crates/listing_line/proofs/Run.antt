-- A run keeps its path and its limits while its tally changes, and what is known of the path with it.
use Prim.Native.Nat.{ℕ, zero, suc, ◌<◌}
use mathlib.Core.Path.{◌≡◌, refl, sym, ap, ◌∙◌}
use mathlib.Core.List.{List}
use native.Mathlib.Omega.{arith}
use lib.ListN.{length, get_or}
use Rattle.source.specs.Listing.{PathOf}
use Rattle.memory.specs.Layout.{Which}
use Rattle.listing_output.specs.Path.{joined}
use Rattle.listing_line.specs.OnPath.{PathOk, OnPath}
use Rattle.listing_output.specs.declared.run.Tally.{Tally}
use Rattle.listing_output.specs.declared.run.Run.{Run}
use Rattle.listing_line.specs.SameRun.{SamePath}

pub same_run : (run : Run) → SamePath run run
same_run run = record { links = λ j h. refl; count = refl; len_is = refl; label_is = refl; limits_same = refl }

pub path_then : {run run₁ run₂ : Run} → SamePath run run₁ → SamePath run₁ run₂ → SamePath run run₂
path_then s t = record {
  links = λ j h. t.links j (omega (arith, s.count)) ∙ s.links j h;
  count = t.count ∙ s.count;
  len_is = t.len_is ∙ s.len_is;
  label_is = t.label_is ∙ s.label_is;
  limits_same = t.limits_same ∙ s.limits_same;
}

-- The run with another tally.
abbrev pub counting : Run → Tally → Run
counting run τ = record { path = run.path; tally = τ; limits = run.limits }

pub same_tally : (run : Run) (τ : Tally) → SamePath run (counting run τ)
same_tally run τ = record { links = λ j h. refl; count = refl; len_is = refl; label_is = refl; limits_same = refl }

-- ---- What is known of a path

pub joined_same : (ws txt links links' : List ℕ) (n : ℕ) → ((j : ℕ) → j < n → get_or links' j 0 ≡ get_or links j 0)
    → joined ws txt links' n ≡ joined ws txt links n
unfolding joined
joined_same ws txt links links' zero h = refl
joined_same ws txt links links' (suc n) h = rw (joined_same ws txt links links' n (λ j i. h j (omega arith)), h n (omega arith))

module _ {run run' : Run} (s : SamePath run run') where
  text_same : (ws txt : List ℕ) → joined ws txt run'.path.links run'.path.n ≡ joined ws txt run.path.links run.path.n
  text_same ws txt = rw s.count (joined_same ws txt run.path.links run'.path.links run.path.n s.links)

  module _ {ws txt : List ℕ} where
    pub path_ok_at : {w : Which} → PathOk ws txt w run.path → PathOk ws txt w run'.path
    path_ok_at o = record {
      few = omega (arith, s.count, o.few);
      each = λ j h. let i : j < run.path.n = omega (arith, s.count) in rw (s.links j i) (o.each j i);
      len_is = s.len_is ∙ o.len_is ∙ ap length (sym (text_same ws txt));
      short = omega (arith, s.count, s.len_is, o.short);
      label_level = o.label_level;
      label_ok = rw s.label_is o.label_ok;
    }

    pub on_path_at : {path : PathOf} → OnPath ws txt run.path path → OnPath ws txt run'.path path
    on_path_at o = record { count = s.count ∙ o.count; text = text_same ws txt ∙ o.text; label_is = rw s.label_is o.label_is }
