-- The trees of a list of collections in flattened order, each with its imports.
use mathlib.Core.Path.{◌≡◌, refl, sym, ap, ◌∙◌}
use mathlib.Core.List.{List, [], ◌∷◌, map, reverse, reverse_aux, map-append, reverse_aux-append}
use mathlib.Core.Option.{some}
use Rattle.source.specs.Text.{Str}
use Rattle.source.specs.Types.{Level, Tree, NameList, []ᴺ, Names, ImportedNames}
use Rattle.source.specs.Tries.{dflt}
use Rattle.source.specs.Listing.{NSTAll, NSTPrefix, revmap_onto, names_revmap, matching_values}
use Rattle.source.specs.Table.{last_opt}
use Rattle.source.specs.Forward.{tree_matches, flat_in, flat}
use Rattle.source.proofs.Names.{values_all, values_prefix}

pub last_import : (label : Str) (imports : List Str) → last_opt (label ∷ imports) ≡ some (dflt label (last_opt imports))
unfolding last_opt dflt
last_import label [] = refl
last_import label (i ∷ imports) = rw (last_import i imports)

module _ {A : Type 0} {ℓ : Level} where
  revmap_onto_is : {B : Type 0} (fn : Tree A ℓ → B) (acc : List (List Str × B)) (imports : List Str) (nl : NameList A ℓ)
      → revmap_onto fn acc imports nl ≡ reverse_aux (map (λ x. (x.0, fn x.1)) (flat_in imports nl)) acc
  unfolding revmap_onto flat_in
  revmap_onto_is fn acc imports []ᴺ = refl
  revmap_onto_is fn acc imports (Names bt tl) = revmap_onto_is fn ((imports, fn bt) ∷ acc) imports tl
  revmap_onto_is {B} fn acc imports (ImportedNames label inner tl) =
      revmap_onto_is fn (revmap_onto fn acc (label ∷ imports) inner) imports tl
      ∙ ap (reverse_aux (map with_fn (flat_in imports tl))) (revmap_onto_is fn acc (label ∷ imports) inner)
      ∙ sym (ap (λ xs. reverse_aux xs acc) (map-append with_fn (flat_in (label ∷ imports) inner) (flat_in imports tl))
      ∙ reverse_aux-append (map with_fn (flat_in (label ∷ imports) inner)) (map with_fn (flat_in imports tl)) acc)
    where
      with_fn : List Str × Tree A ℓ → List Str × B
      with_fn x = (x.0, fn x.1)

  pub names_revmap_is : {B : Type 0} (fn : Tree A ℓ → B) (nl : NameList A ℓ)
      → names_revmap fn nl ≡ reverse (map (λ x. (x.0, fn x.1)) (flat nl))
  unfolding names_revmap
  names_revmap_is fn nl = revmap_onto_is fn [] [] nl

  -- ---- what names_find_rev asks of the trees
  pub values_all_is : (nl : NameList A ℓ)
      → matching_values nl NSTAll ≡ reverse (map (λ x. (x.0, tree_matches NSTAll x.1)) (flat nl))
  values_all_is nl = values_all nl ∙ names_revmap_is (tree_matches NSTAll) nl

  pub values_prefix_is : (nl : NameList A ℓ) (p : Str)
      → matching_values nl (NSTPrefix p) ≡ reverse (map (λ x. (x.0, tree_matches (NSTPrefix p) x.1)) (flat nl))
  values_prefix_is nl p = values_prefix nl p ∙ names_revmap_is (tree_matches (NSTPrefix p)) nl
