-- The annotation that a label is.
use Prim.Native.Nat.{ℕ, ◌<◌, ◌≤◌}
use mathlib.Core.Path.{◌≡◌, ap}
use mathlib.Core.List.{List, []}
use native.Mathlib.Omega.{arith}
use native.Mathlib.Decide.{ℕ_discrete}
use lib.ListN.{length}
use borrow.Author.Tests.{ne_eqb}
use Rattle.source.specs.Tries.{dflt}
use Rattle.memory.specs.Layout.{key_at}
use Rattle.listing_output.specs.Parts.{TextAt}
use Rattle.listing_annotation.specs.Annotations.{note_at}

module _ (ws txt : List ℕ) (label : ℕ) where
  pub note_none : label ≡ 0 → note_at ws txt label ≡ []
  unfolding dflt
  note_none e = rw e

  pub note_some : (label ≡ 0 → ⊥) → note_at ws txt label ≡ key_at ws txt label
  unfolding dflt
  note_some ne = rw (ne_eqb label 0 ne)

  -- It is short.
  pub note_short : (0 < label → TextAt ws txt label) → length (note_at ws txt label) ≤ 543
  note_short t =
      elim (ℕ_discrete label 0) [
        | yes e ↦ omega (arith, ap length (note_none e))
        | no ne ↦ let k = t (omega arith) in omega (arith, ap length (note_some ne), k.size, k.short)
      ]
