-- The way, noted step by step.
use Rattle.std.proofs.Common.{ℕ, ◌≡◌, refl, ◌∙◌, ◌+◌, ◌<◌, ◌≤◌, List, [], ◌∷◌, ◌++◌, take, drop, arith}
use Rattle.std.proofs.lemmas.List.{take_more_set, take-append-drop, append_assoc, drop_more}
use Rattle.source.specs.Limits.{most_segments}
use Rattle.source.specs.Text.{Str, Query, segments}
use Rattle.source.specs.Types.{namespaces}
use Rattle.memory.specs.Layout.{Which, trieˢ, what}
use Rattle.register_kind.specs.declared.CallKind.{CallKind}
use Rattle.register_way.specs.declared.Way.{Way}
use Rattle.register_way.specs.declared.Step.{Step}
use Rattle.register_way.specs.Way.{StepNoted, HostBuilds, Leads, WayNotedIn, step_at, NotesStep, NotesHost}

-- The step noted is the last of those up to it.
noted_last : {way way' : Way} {steps : ℕ} {step : Step} → NotesStep way way' steps step → steps ≤ most_segments
    → take (steps + 1) way'.steps ≡ take steps way.steps ++ step ∷ []
noted_last {way} {steps = steps} {step} n h = rw n.noted (take_more_set way.steps steps step (omega (arith, way.whole)))

module _ {ws txt : List ℕ} {w : Which} {root : ℕ} {q : Query} where
  pub leads_first : (way : Way) → Leads ws txt w root q way way 0 root q
  leads_first way = record { kept = refl; goes = λ k other key left z. z }

  pub leads_step : {way way' way'' : Way} {steps x : ℕ} {step : Step} {s : Str} {rest : Query}
      → Leads ws txt w root q way way' steps x (s ∷ rest) → steps < most_segments → NotesStep way' way'' steps step
      → StepNoted ws txt w x (namespaces (what w ws txt x trieˢ)) s step
      → Leads ws txt w root q way way'' (steps + 1) step.below rest
  leads_step {way' = way'} {steps = steps} {step = step} l h n i = record {
    kept = n.kept ∙ l.kept;
    goes = λ k other key left z.
        rw (noted_last n (omega arith), append_assoc (take steps way'.steps) (step ∷ []) left) (l.goes k other key (step ∷ left) (i, z));
  }

-- ---- At the host
module _ {ws txt : List ℕ} {w : Which} {root : ℕ} {host : Str} {way way' : Way} {steps x : ℕ}
    (l : Leads ws txt w root (segments host) way way' steps x []) (h : steps ≤ most_segments) where
  -- The count is noted.
  pub noted_count : (k : CallKind) (other key : Str) {count : ℕ} {way'' : Way} → NotesHost way' way'' steps count
      → HostBuilds k other key (what w ws txt x trieˢ) count → WayNotedIn k ws txt w root host other key way way''
  noted_count k other key {count} {way''} n b =
      let step : Step = record { below = (step_at way' steps).below; count = count } in
      let left = drop (steps + 1) way''.steps in
      record {
        kept = n.kept ∙ l.kept;
        leads = rw (
          ← take-append-drop (steps + 1) way''.steps,
          noted_last n h,
          append_assoc (take steps way'.steps) (step ∷ []) left,
        ) (l.goes k other key (step ∷ left) b);
      }

  -- Nothing is inserted there.
  pub noted_path : (k : CallKind) (other key : Str)
      → HostBuilds k other key (what w ws txt x trieˢ) (step_at way' steps).count
      → WayNotedIn k ws txt w root host other key way way'
  noted_path k other key b = record {
    kept = l.kept;
    leads = rw (
      ← take-append-drop steps way'.steps,
      drop_more way'.steps steps (record { below = 0; count = 0 }) (omega (arith, way'.whole)),
    ) (l.goes k other key (step_at way' steps ∷ drop (steps + 1) way'.steps) b);
  }
