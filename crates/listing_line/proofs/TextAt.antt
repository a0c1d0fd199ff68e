-- What a branch, a label and a path of a sound memory give of their texts.
use Prim.Native.Nat.{ℕ, ◌+◌, ◌≤◌, ◌<◌}
use mathlib.Core.Path.{◌≡◌}
use mathlib.Core.Bool.{Bool, true, false}
use mathlib.Core.List.{List}
use native.Mathlib.Omega.{arith}
use Rattle.source.specs.Text.{Str}
use Rattle.source.specs.Types.{Level}
use Rattle.memory.specs.Layout.{record_at, span, pick, Which, key_at, text_start, text_len}
use Rattle.memory.specs.Sound.{LinkOk, TextOk, Used}
use Rattle.memory.proofs.Pasted.{span_length}
use Rattle.memory.proofs.RecordOk.{branch_at, collection_at}
use Rattle.memory.proofs.Seen.{link_fits, link_ok}
use lib.Dec.{eqb}
use lib.ListN.{length}
use Rattle.listing_output.specs.Path.{BranchAt}
use Rattle.listing_output.specs.declared.run.Path.{Path}
use Rattle.listing_line.specs.OnPath.{LabelAt, PathOk}
use Rattle.listing_output.specs.Run.{job_in}
use Rattle.listing_output.specs.declared.run.Run.{Run}
use Rattle.listing_line.specs.Lines.{CanList}
use Rattle.listing_output.specs.Parts.{TextAt, PathAt, JobOk}
use Rattle.listing_annotation.specs.Annotations.{outermost}
use Rattle.listing_output.specs.declared.Want.{Want}
use Rattle.listing_annotation.specs.declared.Labelled.{Labelled}

module _ {ws txt : List ℕ} {n used x k : ℕ} (o : Used ws txt n used) (i : LinkOk ws (n + 1) x k) (p : 0 < x) where
  text_at : {Rule : Str → Type 0} → TextOk Rule txt used (text_start (record_at ws x)) (text_len (record_at ws x))
      → length (span txt (text_start (record_at ws x)) (text_len (record_at ws x))) ≤ 543 → TextAt ws txt x
  unfolding key_at
  text_at t h =
      let e = span_length txt (text_start (record_at ws x)) (text_len (record_at ws x)) (omega (arith, t.inside, o.text_fits)) in
      record {
        some = p;
        within = link_fits o i;
        inside = omega (arith, t.inside, o.text_fits);
        size = e;
        short = omega arith;
        few = omega (arith, i.earlier, o.few);
      }

module _ {ws txt : List ℕ} {w : Which} {ℓ : Level} {x : ℕ} where
  pub branch_text : BranchAt ws txt w ℓ x → TextAt ws txt x
  branch_text b =
      let t = (branch_at (link_ok b.at.sound b.at.link b.some) w ℓ (b.at.link.of_kind (λ e. omega (arith, b.some)))).key in
      text_at b.at.sound b.at.link b.some t (omega (arith, t.keeps))

  pub label_text : LabelAt ws txt w ℓ x → 0 < x → TextAt ws txt x
  label_text b p =
      let t = (collection_at (link_ok b.at.sound b.at.link p) w ℓ (b.at.link.of_kind (λ e. omega arith))).label (b.imports p) in
      text_at b.at.sound b.at.link p t (omega (arith, t.keeps))

pub path_at : {ws txt : List ℕ} {w : Which} {p : Path} → PathOk ws txt w p → PathAt ws txt p
path_at o = record { few = o.few; each = λ j h. branch_text (o.each j h); len_is = o.len_is; short = o.short }

-- What line is given is what its parts need.
module _ {ws txt : List ℕ} {want : Want} {f : Labelled} {run : Run} (o : CanList ws txt want f run) where
  pub job_ok : JobOk ws txt (job_in f.link want.matched run)
  job_ok = record { path = path_at o.path_ok; branch = branch_text o.branch_at; small = o.small }

  -- The label of the path is a word.
  pub label_word : run.path.label ≤ 4294967295
  label_word = let a = o.path_ok.label_ok.at in omega (arith, a.link.earlier, a.sound.few)

  pub outermost_text : {x : ℕ} → x ≡ outermost run.path f.label → 0 < x → TextAt ws txt x
  outermost_text e h = rw e (go (eqb run.path.n 0) (rw e at h))
    where
      go : (b : Bool) → 0 < pick b f.label run.path.label
          → TextAt ws txt (pick b f.label run.path.label)
      go true h = label_text o.label_at h
      go false h = label_text o.path_ok.label_ok h
