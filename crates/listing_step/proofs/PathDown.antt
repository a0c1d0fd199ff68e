-- The path with one more branch spells the source's path with one more element.
use Prim.Native.Nat.{ℕ, ◌+◌, ◌*◌, ◌<◌, ◌≤◌}
use mathlib.Core.Path.{◌≡◌, sym, ap, ◌∙◌}
use mathlib.Core.Bool.{Bool, true, false}
use mathlib.Core.List.{List, [], ◌∷◌, ◌++◌, reverse}
use mathlib.Core.Option.{Option}
use native.Mathlib.Omega.{arith}
use native.Mathlib.Numerals.{add-one}
use native.Mathlib.Decide.{ℕ_discrete}
use lib.Dec.{eqb}
use lib.ListN.{length, get_or, length-append}
use borrow.Author.Tests.{eq-eqb, ne_eqb}
use Rattle.source.specs.Text.{Str, dot}
use Rattle.source.specs.Types.{Level, Trie, ns}
use Rattle.source.specs.Trees.{PathElem}
use Rattle.source.specs.Listing.{PathOf}
use Rattle.source.specs.Table.{first_import_of_path}
use Rattle.source.specs.Forward.{base}
use Rattle.source.proofs.Paths.{first_import_one, first_import_more}
use Rattle.memory.specs.Layout.{record_at, text_len, span, pick, Which, Item, key_at, text_start}
use Rattle.memory.proofs.Pasted.{span_length}
use Rattle.find_tree.specs.Links.{row_at}
use Rattle.find_tree.proofs.Branches.{branch_right, any_tree, key_inside}
use Rattle.find_list.specs.Entries.{label_at, shown, outer}
use Rattle.listing_output.specs.Path.{joined, BranchAt}
use Rattle.listing_output.specs.declared.run.Path.{Path}
use Rattle.listing_line.specs.OnPath.{LabelAt, PathOk, OnPath}
use Rattle.listing_line.proofs.Run.{joined_same}
use Rattle.listing_step.specs.Steps.{PathDown}
use Rattle.memory.proofs.At.{at_fits}

-- A branch is a tree.
module _ {ws txt : List ℕ} {w : Which} {ℓ : Level} {x : ℕ} (b : BranchAt ws txt w ℓ x) where
  pub path_branch_fits : (0 < x) × (x * 12 ≤ length ws)
  path_branch_fits = (b.some, at_fits b.at)

  pub key_size : (length (key_at ws txt x) ≡ text_len (record_at ws x)) × (text_len (record_at ws x) ≤ 31)
  unfolding key_at
  key_size =
      let k = (branch_right b.at b.some).key in
      let e : length (span txt (text_start (record_at ws x)) (text_len (record_at ws x))) ≡ text_len (record_at ws x) =
      span_length txt (text_start (record_at ws x)) (text_len (record_at ws x)) (key_inside (any_tree b.at) b.some) in
      (e, omega (arith, e, k.keeps.short))

module _ {ws txt : List ℕ} {w : Which} {p r : Path} {branch label : ℕ} (ok : PathOk ws txt w p) (room : p.n < 16)
    (b : BranchAt ws txt w ns branch) (d : PathDown ws p branch label r) where
  text_more : joined ws txt r.links r.n ≡ joined ws txt p.links p.n ++ (key_at ws txt branch ++ (dot ∷ []))
  unfolding joined
  text_more = rw (d.count, add-one p.n, d.last, joined_same ws txt p.links r.links p.n d.before)

  each_down : (j : ℕ) → j < p.n + 1 → BranchAt ws txt w ns (get_or r.links j 0)
  each_down j h =
      elim (ℕ_discrete j p.n) [
        | yes e ↦ rw (e, d.last) b
        | no ne ↦ let i : j < p.n = omega arith in rw (d.before j i) (ok.each j i)
      ]

  label_down : LabelAt ws txt w ns label → (ℓ : Level) × LabelAt ws txt w ℓ r.label
  label_down l = go (eqb p.n 0) d.label_is
    where
      go : (z : Bool) → r.label ≡ pick z label p.label → (ℓ : Level) × LabelAt ws txt w ℓ r.label
      go true e = (ns, rw e l)
      go false e = (ok.label_level, rw e ok.label_ok)

  pub path_down : LabelAt ws txt w ns label → PathOk ws txt w r
  path_down l = record {
    few = omega (arith, d.count);
    each = λ j h. each_down j (omega (arith, d.count));
    len_is =
        omega (
          arith,
          d.len_is,
          ok.len_is,
          ap length text_more,
          length-append (joined ws txt p.links p.n) (key_at ws txt branch ++ (dot ∷ [])),
          length-append (key_at ws txt branch) (dot ∷ []),
          (key_size b).0,
        );
    short = omega (arith, d.len_is, d.count, ok.short, (key_size b).1);
    label_level = (label_down l).0;
    label_ok = (label_down l).1;
  }

  -- The element that the branch and the label show goes onto the path.
  pub on_path_down : (path : PathOf) (x : PathElem × Trie (Item w)) (o : Option Str) → OnPath ws txt p path
      → outer x ≡ shown w ws txt ns o (record { branch = branch; label = label })
      → OnPath ws txt r (x.0 ∷ path)
  unfolding base outer shown row_at
  on_path_down path x o on e = record {
    count = omega (arith, d.count, on.count);
    text = text_more ∙ rw (on.text, ap (λ y. y.1.0.completion) e);
    label_is = go path on.count on.label_is;
  }
    where
      go : (path : PathOf) → p.n ≡ length path → label_at ws txt p.label ≡ first_import_of_path (reverse path)
          → label_at ws txt r.label ≡ first_import_of_path (reverse (x.0 ∷ path))
      go [] c l = rw (d.label_is, eq-eqb p.n 0 c) (sym (ap (λ y. y.0) e) ∙ sym (first_import_one x.0))
      go (y ∷ path) c l = rw (d.label_is, ne_eqb p.n 0 (λ z. omega arith)) (l ∙ sym (first_import_more x.0 y path))
